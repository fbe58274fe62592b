use Rattle.std.proofs.Common.{List, All, sym, subst}
use Rattle.prog_tree.specs.Tree.{draft_tree}
use Rattle.prog_check.specs.declared.path.Path.{Path}
use Rattle.prog_paths.specs.Questions.{ChangesSingleCells}
use Rattle.prog_paths.proofs.SingleCells.{law_of_single_changes}
use Rattle.si_repair.proofs.repairs.promotion.coverable_questions.Goals as goal

pub exposed_questions-requires : goal.exposed_questions-requires
exposed_questions-requires c = subst (λ (l : List Path). All ChangesSingleCells l) (sym c.requires) (law_of_single_changes (draft_tree c.args.draft.now))
