use Rattle.std.proofs.Common.{List, sym, subst, ◌∙◌}
use Rattle.prog_paths.specs.declared.accesses.places.Placed.{Placed}
use Rattle.prog_paths.specs.Questions.{asked_among}
use Rattle.order_facts.specs.Square.{Enters}
use Rattle.robust_cert.specs.Leaving.{some_edge, some_vulnerable, IsReady}
use Rattle.robust_cert.proofs.Passing.{all-ready, leaves-from_enters}
use Rattle.robust_cert.proofs.checking.left.left_of.Goals as goal

pub enter_all-requires : goal.enter_all-requires
enter_all-requires c =
    let places = c.deref.ensures.value ∙ c.in_ok-places.ensures in
    subst (λ (ps : List Placed). IsReady c.args.entries.now (asked_among ps ps) 0) (sym places) (all-ready c.args.entries.now c.args.paths.now c.requires)

pub returns : goal.returns
returns c =
    let es = c.args.entries.now in
    let places = c.deref.ensures.value ∙ c.in_ok-places.ensures in
    let old = c.in_ok-left.left in
    let new = c.enter_all.new.left in
    leaves-from_enters es c.args.paths.now old new c.in_ok-left.ensures.edges c.in_ok-left.ensures.vulnerable
    (subst (λ (ps : List Placed). Enters old.edges new.edges (some_edge es (asked_among ps ps))) places c.in_ok-enter_all.ensures.edges)
    (subst (λ (ps : List Placed). Enters old.vulnerable new.vulnerable (some_vulnerable es (asked_among ps ps))) places c.in_ok-enter_all.ensures.vulnerable)
