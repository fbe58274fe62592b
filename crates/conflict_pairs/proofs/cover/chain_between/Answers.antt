use Rattle.std.proofs.Common.{List, [], ◌∷◌, refl, sym, subst}
use Rattle.std.proofs.lemmas.Option.{MatchOption-at_some}
use Rattle.order_facts.specs.declared.steps.Node.{Node}
use Rattle.prog_paths.specs.Shown.{Runs}
use Rattle.conflict_pairs.specs.Verdicts.{IsShortest}
use Rattle.conflict_pairs.proofs.Covering.{IsShortest-from_fewest, two-fewest}
use Rattle.conflict_pairs.proofs.cover.chain_between.Goals as goal

pub returns-then-is_one_step-clause-runs : goal.returns-then-is_one_step-clause-runs
returns-then-is_one_step-clause-runs c =
    let step = c.is_one_step.ensures c.if-is_one_step.true in
    subst (λ (l : List Node). Runs c.args.closed.now c.args.from c.args.to l) (sym c.of_two.ensures) ((step.1, tt), (refl, refl))

pub returns-then-is_one_step-clause-shortest : goal.returns-then-is_one_step-clause-shortest
returns-then-is_one_step-clause-shortest c =
    let step = c.is_one_step.ensures c.if-is_one_step.true in
    let two = c.args.from ∷ c.args.to ∷ [] in
    subst (λ (l : List Node). IsShortest c.args.closed.now l) (sym c.of_two.ensures)
    (IsShortest-from_fewest c.args.closed.now c.args.from c.args.to two (refl, refl) (λ other o r. two-fewest c.args.from c.args.to step.0 other r))

pub returns-clause-shortest : goal.returns-clause-shortest
returns-clause-shortest c =
    let runs = MatchOption-at_some _ _ c.in-Some.nodes c.in-Some.is c.in_ok-nodes.ensures.chain in
    let fewest = MatchOption-at_some _ _ c.in-Some.nodes c.in-Some.is c.in_ok-nodes.ensures.fewest in
    subst (λ (l : List Node). IsShortest c.args.closed.now l) (sym c.from_vec.ensures)
    (IsShortest-from_fewest c.args.closed.now c.args.from c.args.to c.in-Some.nodes.items runs.1 fewest)
