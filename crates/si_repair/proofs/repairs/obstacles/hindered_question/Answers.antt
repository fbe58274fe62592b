use Rattle.std.proofs.Common.{Bool, List, ◌∙◌, refl, sym, subst}
use Rattle.std.specs.Prelude.{All, slice_get}
use Rattle.prog_tree.specs.Tree.{draft_tree}
use Rattle.prog_check.specs.declared.path.Path.{Path}
use Rattle.prog_paths.specs.Questions.{ChangesSingleCells}
use Rattle.prog_paths.specs.declared.accesses.questions.Question.{Question}
use Rattle.prog_paths.proofs.SingleCells.{law_of_single_changes}
use Rattle.repair_laws.specs.Refusals.{IsRangeAt}
use Rattle.si_repair.specs.Exposed.{AreExposed, HasBoth}
use Rattle.si_repair.specs.Obstacles.{program_ranges, IsFirstHindered, IsRangeIn}
use Rattle.si_repair.proofs.Obstacles.{first-alike, list-from_range_at, range_at-from_list, HasBoth-each}
use Rattle.si_repair.proofs.repairs.obstacles.hindered_question.Goals as goal

pub exposed_questions-requires : goal.exposed_questions-requires
exposed_questions-requires c = subst (λ (l : List Path). All ChangesSingleCells l) (sym c.requires) (law_of_single_changes (draft_tree c.args.draft.now))

pub first_hindered-found-requires : goal.first_hindered-found-requires
first_hindered-found-requires c =
    let nodes = c.args.paths.now in
    subst (λ (l : List Question). All (λ (q : Question). HasBoth nodes q) l) (sym c.deref-2.ensures.value) (HasBoth-each nodes c.args.pair c.in_ok-questions.questions.items c.in_ok-questions.ensures)

pub returns : goal.returns
returns c =
    let draft = draft_tree c.args.draft.now in
    let from = c.args.pair.from in
    let nodes = c.args.paths.now in
    let obstacle = c.args.obstacle in
    let questions = c.in_ok-questions.questions.items in
    let found = c.first_hindered-found.result in
    let ranges = program_ranges (slice_get draft.programs from) in
    let listed = subst (λ (l : List Question). IsFirstHindered nodes (IsRangeIn c.deref.result.now) obstacle l found) c.deref-2.ensures.value c.first_hindered-found.ensures in
    let in_list = subst (λ (m : List Bool). IsFirstHindered nodes (IsRangeIn m) obstacle questions found) (c.deref.ensures.value ∙ c.in_ok-ranges.ensures) listed in
    let told =
    first-alike nodes (IsRangeIn ranges) (IsRangeAt draft from) (λ n h. range_at-from_list draft from n (slice_get draft.programs from) refl h) (λ n h. list-from_range_at draft from n h)
    obstacle questions found in_list in (
      questions,
      subst (λ (ns : List Path). AreExposed ns c.args.pair questions) c.requires c.in_ok-questions.ensures,
      subst (λ (ns : List Path). IsFirstHindered ns (IsRangeAt draft from) obstacle questions found) c.requires told,
    )
