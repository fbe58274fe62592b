use Rattle.std.proofs.Common.{◌<◌, ◌∙◌, List, ap, sym, subst, length, get_or, arith}
use Rattle.std.specs.Prelude.{All}
use Rattle.prog_tree.specs.Tree.{draft_tree}
use Rattle.prog_check.specs.declared.path.Path.{Path}
use Rattle.prog_paths.specs.Questions.{ChangesSingleCells}
use Rattle.prog_paths.proofs.Few.{all-at_end, few-at_end}
use Rattle.prog_paths.proofs.Listed.{few_of}
use Rattle.prog_paths.proofs.SingleCells.{law_of_single_changes}
use Rattle.prog_paths.proofs.path.listing.paths.Goals as goal

pub add_paths-requires : goal.add_paths-requires
add_paths-requires c =
    let n = c.loop-number.number in
    let same = c.deref-program-items.ensures.value ∙ ap (λ d. d.programs.items) c.draft.ensures.same in
    few_of c.args.set.now n c.program-item.result c.draft.ensures.sound (subst (λ ps. n < length ps) same c.loop-number-test.true)
    (c.program-item.is ∙ ap (λ ps. get_or ps n c.program-item.result) same)

pub returns-clause-few : goal.returns-clause-few
returns-clause-few c =
    let same = c.deref-program-items.ensures.value ∙ ap (λ d. d.programs.items) c.draft.ensures.same in
    let count = ap length same in
    few-at_end c.args.set.now c.loop-number.number c.loop-number.paths.items c.draft.ensures.sound (omega (arith, count)) c.loop-number.invariant

pub returns-clause-single : goal.returns-clause-single
returns-clause-single c =
    let same = c.deref-program-items.ensures.value ∙ ap (λ d. d.programs.items) c.draft.ensures.same in
    let count = ap length same in
    let all = all-at_end c.args.set.now c.loop-number.number c.loop-number.paths.items (omega (arith, count)) c.loop-number.invariant in
    subst (λ (ps : List Path). All ChangesSingleCells ps) (sym all) (law_of_single_changes (draft_tree c.args.set.now))
