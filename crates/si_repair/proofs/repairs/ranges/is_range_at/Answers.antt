use Rattle.std.proofs.Common.{Bool, List, false, ◌∙◌, ap, refl, sym}
use Rattle.std.specs.Prelude.{slice_get, slice_index_or}
use Rattle.prog_tree.specs.Tree.{draft_tree}
use Rattle.si_repair.proofs.Obstacles.{range_at-from_list, list-from_range_at}
use Rattle.si_repair.proofs.repairs.ranges.is_range_at.Goals as goal

pub returns : goal.returns
returns c =
    let draft = draft_tree c.args.draft.now in
    let program = c.args.program in
    let number = c.args.number in
    let is = c.is_range-yes.ensures ∙ ap (λ (m : List Bool). slice_index_or m number false) (c.deref.ensures.value ∙ c.in_ok-ranges.ensures) in
    (λ yes. range_at-from_list draft program number (slice_get draft.programs program) refl (sym is ∙ yes), λ h. is ∙ list-from_range_at draft program number h)
