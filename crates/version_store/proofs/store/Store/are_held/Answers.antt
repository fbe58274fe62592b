use Rattle.std.proofs.Common.{◌≡◌, ◌∙◌, [], sym, subst}
use Rattle.prog_tree.specs.Evaluation.{rows_left}
use Rattle.prog_tree.specs.Table.{rows_in}
use Rattle.prog_tree.proofs.TableStates.{none_left_out}
use Rattle.version_store.specs.Commits.{state_at}
use Rattle.version_store.proofs.StandsLaws.{sees_left}
use Rattle.version_store.proofs.store.Store.are_held.Goals as goal

pub returns : goal.returns
returns c =
    let above = rw (← c.self.view_is) at c.requires.above in
    rw (← c.self.view_is) (λ opening ws stands.
    c.are_held.ensures c.self.invariant.0 (rows_left c.args.region.now c.args.own.now (state_at opening ws c.args.start))
    (sees_left _ opening ws stands c.args.region.now c.args.own.now c.args.start above))

pub returns-in-Ok : goal.returns-in-Ok
returns-in-Ok c = λ opening ws stands.
    let rows = rows_in c.args.region.now (state_at opening ws c.args.start) in
    let none : c.args.own.now ≡ [] = c.is_empty.ensures.0 c.if-is_empty.true in
    let found = c.in-Ok.ensures opening ws stands in
    let left : rows_left c.args.region.now c.args.own.now (state_at opening ws c.args.start) ≡ rows =
    subst (λ own. rows_left c.args.region.now own (state_at opening ws c.args.start) ≡ rows) (sym none) (none_left_out rows) in
    (λ t. left ∙ sym found ∙ c.is_same.ensures.0 t, λ e. c.is_same.ensures.1 (found ∙ sym left ∙ e))
