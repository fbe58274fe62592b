use Rattle.std.proofs.Common.{List, [], ◌∷◌, sym, subst, ap}
use Rattle.order_facts.specs.declared.steps.Node.{Node}
use Rattle.prog_check.specs.declared.path.Term.{Term}
use Rattle.prog_paths.specs.Shown.{ShowEqual}
use Rattle.conflict_pairs.proofs.cover.cover_chains.Goals as goal

pub returns-clause-equal : goal.returns-clause-equal
returns-clause-equal c =
    let mine = c.args.mine.now in
    let theirs = c.args.theirs.now in
    let facts = c.args.closed.now in
    let first = c.in_ok-push_both.ensures.equal [] (subst (λ (cs : List (List Node)). ShowEqual facts [] cs) (sym c.new-chains.ensures) tt) in
    let pairs = ap (λ (ps : List (Term × Term)). (mine.first.low, theirs.first.low) ∷ ps) c.in-Some.ensures in
    subst (λ (ps : List (Term × Term)). ShowEqual facts ps c.push_both-2.new.chains) pairs (c.in_ok-push_both-2.ensures.equal ((mine.first.low, theirs.first.low) ∷ []) first)
