use Rattle.std.proofs.Common.{◌++◌, ap, sym, subst, ◌∙◌, append-nil}
use Rattle.std.specs.List.Sorted.{IsStrictlySortedBy}
use Rattle.prog_tree.specs.Table.{cell_cmp, cells_of}
use Rattle.prog_tree.specs.ChangeSet.{ChangedCells, changes_in}
use Rattle.prog_tree.proofs.TableStates.{IsTableState-nil}
use Rattle.prog_run.proofs.OwnLemmas.{no_change_in, in_between}
use Rattle.prog_run.proofs.SeenLemmas.{ordered_in}
use Rattle.prog_run.proofs.region.own_changes.Goals as goal

pub returns-in_default-clause-own : goal.returns-in_default-clause-own
returns-in_default-clause-own c = c.new-own.ensures.items ∙ sym (no_change_in c.args.region.now c.in_default.ensures c.args.changes.now.cells)

pub returns-in_default-clause-ordered : goal.returns-in_default-clause-ordered
returns-in_default-clause-ordered c = subst (λ (xs : ChangedCells). IsStrictlySortedBy cell_cmp (cells_of xs)) (sym c.new-own.ensures.items) IsTableState-nil

pub loop-cell-init : goal.loop-cell-init
loop-cell-init c =
    let r = c.args.region.now in
    let cells = c.args.changes.now.cells in
    let between = c.into_iter-cell-iterator.ensures.into_iter_gives ∙ c.between-cell-items.ensures.rest in
    rw (c.new-own.ensures.items) (ap (changes_in r) between ∙ in_between r c.in-Some.low c.in-Some.high c.in-Some.ensures cells)

pub returns-clause-ordered : goal.returns-clause-ordered
returns-clause-ordered c =
    let own = c.loop-cell.own.items in
    let is = sym (append-nil own) ∙ ap (λ (rest : ChangedCells). own ++ changes_in c.args.region.now rest) (sym c.in-None.ensures.steps.0) ∙ c.loop-cell.invariant in
    subst (λ (xs : ChangedCells). IsStrictlySortedBy cell_cmp (cells_of xs)) (sym is) (ordered_in c.args.region.now c.args.changes.now.cells c.between-cell-items.ensures.ordered)
