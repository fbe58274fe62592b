use Rattle.std.proofs.Common.{◌≡◌, ◌∙◌, sym, rules}
use Rattle.std.specs.Ordering.{is_lt}
use Rattle.prog_tree.specs.Table.{cell_cmp}
use Rattle.version_store.proofs.ApartLaws.{behind_first, first_behind}
use Rattle.version_store.proofs.blocks.is_behind.Goals as goal

pub returns-in-Some : goal.returns-in-Some
returns-in-Some c =
    let region = c.args.region.now in
    let cell = c.args.cell.now in
    let is : c.is_lt.result ≡ is_lt (cell_cmp cell c.in-Some.first) = search rules in (
      λ less. behind_first region cell c.in-Some.first c.in-Some.field-0-1 c.in-Some.ensures (sym is ∙ less),
      λ behind. is ∙ first_behind region cell c.in-Some.first c.in-Some.field-0-1 c.in-Some.ensures behind,
    )
