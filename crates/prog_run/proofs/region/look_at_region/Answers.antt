use Rattle.std.proofs.Common.{◌≡◌, ap, sym, subst, ◌∙◌}
use Rattle.std.specs.List.Sorted.{IsSorted, IsStrictlySortedBy}
use Rattle.std.proofs.lemmas.Bool.{eqb-true}
use Rattle.std.proofs.lemmas.List.{nil_from_length}
use Rattle.prog_tree.specs.declared.look.Look.TheVariants as look
use Rattle.prog_tree.specs.Table.{cell_cmp, cells_of, TableState}
use Rattle.prog_tree.specs.ChangeSet.{ChangedCells, changes_in, changed}
use Rattle.prog_tree.specs.Evaluation.{own_cells, rows_without}
use Rattle.prog_tree.proofs.SearchLaws.{no_fall}
use Rattle.prog_run.specs.Seen.{AreAbsent}
use Rattle.prog_run.proofs.OwnLemmas.{all_seen, look_of_all}
use Rattle.prog_run.proofs.SeenLemmas.{own_absent}
use Rattle.prog_run.proofs.region.look_at_region.Goals as goal

pub from_vec-left_out-requires : goal.from_vec-left_out-requires
from_vec-left_out-requires c =
    let own = c.in_ok-own.own.items in
    let mine : c.in_ok-own_cells.own_cells.items ≡ cells_of own = c.in_ok-own_cells.ensures ∙ ap (λ (es : ChangedCells). cells_of es) c.deref.ensures.value in
    subst (IsSorted cell_cmp) (sym mine) (no_fall (cells_of own) c.in_ok-own.ensures.ordered)

pub merge-requires-clause-ordered : goal.merge-requires-clause-ordered
merge-requires-clause-ordered c =
    subst (λ (own : ChangedCells). IsStrictlySortedBy cell_cmp (cells_of own)) (sym c.deref-3.ensures.value) c.in_ok-own.ensures.ordered

pub merge-requires-clause-absent : goal.merge-requires-clause-absent
merge-requires-clause-absent c =
    let cells = c.args.changes.now.cells in
    let mine : c.from_vec-left_out.result ≡ own_cells c.args.region cells =
    c.from_vec-left_out.ensures ∙ c.in_ok-own_cells.ensures ∙ ap (λ (es : ChangedCells). cells_of es) (c.deref.ensures.value ∙ c.in_ok-own.ensures.own) in
    let left = c.deref-2.ensures.value ∙ c.in_ok-left.ensures ∙ (λ i. rows_without (mine i) c.args.rows) in
    let own = c.deref-3.ensures.value ∙ c.in_ok-own.ensures.own in
    subst (λ (rows : TableState). AreAbsent rows c.deref-3.result.now) (sym left)
    (subst (λ (es : ChangedCells). AreAbsent (rows_without (own_cells c.args.region cells) c.args.rows) es) (sym own) (own_absent c.args.rows (changes_in c.args.region cells)))

pub returns-clause-look : goal.returns-clause-look
returns-clause-look c =
    let cells = c.args.changes.now.cells in
    let told : c.from_vec-left_out.result ≡ own_cells c.args.region cells = c.from_vec-left_out.ensures ∙ c.in_ok-own_cells.ensures ∙ ap (λ (es : ChangedCells). cells_of es) (c.deref.ensures.value ∙ c.in_ok-own.ensures.own) in
    let left = c.in_ok-rows.ensures ∙ c.from_vec.ensures ∙ c.in_ok-left.ensures ∙ (λ i. rows_without (told i) c.args.rows) in
    λ i. look.Range c.args.region (told i) (left i)

pub returns-clause-seen : goal.returns-clause-seen
returns-clause-seen c =
    let cells = c.args.changes.now.cells in
    let mine : c.from_vec-left_out.result ≡ own_cells c.args.region cells =
    c.from_vec-left_out.ensures ∙ c.in_ok-own_cells.ensures ∙ ap (λ (es : ChangedCells). cells_of es) (c.deref.ensures.value ∙ c.in_ok-own.ensures.own) in
    let left = c.deref-2.ensures.value ∙ c.in_ok-left.ensures ∙ (λ i. rows_without (mine i) c.args.rows) in
    let own = c.deref-3.ensures.value ∙ c.in_ok-own.ensures.own in
    c.in_ok-changed.ensures ∙ c.from_vec-2.ensures ∙ c.in_ok-seen.ensures ∙ (λ i. changed (left i) (own i))

pub returns-then-is_empty-clause-look : goal.returns-then-is_empty-clause-look
returns-then-is_empty-clause-look c =
    let own = c.in_ok-own.own in
    let count = sym own.ok.0 ∙ eqb-true own.len 0 (sym c.is_empty.ensures ∙ c.if-is_empty.true) in
    let none = sym c.in_ok-own.ensures.own ∙ nil_from_length own.items count in
    (λ i. look.Range c.args.region (c.new.ensures i) c.args.rows) ∙ look_of_all c.args.changes.now c.args.region c.args.rows none

pub returns-then-is_empty-clause-seen : goal.returns-then-is_empty-clause-seen
returns-then-is_empty-clause-seen c =
    let own = c.in_ok-own.own in
    let count = sym own.ok.0 ∙ eqb-true own.len 0 (sym c.is_empty.ensures ∙ c.if-is_empty.true) in
    let none = sym c.in_ok-own.ensures.own ∙ nil_from_length own.items count in
    all_seen c.args.changes.now c.args.region c.args.rows none
