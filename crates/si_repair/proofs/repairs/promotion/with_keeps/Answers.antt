use Rattle.std.proofs.Common.{List, All, ◌∙◌, refl, subst, sym}
use Rattle.std.proofs.lemmas.Option.{IfSome_then}
use Rattle.std.proofs.lemmas.Result.{IfOk-weaker}
use Rattle.prog_tree.specs.Syntax.{DraftTree}
use Rattle.prog_tree.specs.Tree.{draft_tree}
use Rattle.prog_tree.proofs.Outcomes.{none_then}
use Rattle.prog_check.specs.declared.path.Path.{Path}
use Rattle.repair_laws.specs.Promoted.{MarksExposed, promoted_by}
use Rattle.si_repair.specs.Checking.{IsRefused}
use Rattle.si_repair.specs.Promotion.{pairs_of, HasItsQuestions}
use Rattle.si_repair.specs.Marks.{is_marked}
use Rattle.si_repair.proofs.Promotion.{has_questions}
use Rattle.si_repair.proofs.repairs.promotion.with_keeps.Goals as goal

pub marked_statements-requires : goal.marked_statements-requires
marked_statements-requires c =
    subst (λ (l : List Path). All (HasItsQuestions l) c.args.coverable.now) (sym c.requires.paths) (has_questions (draft_tree c.args.set.now) c.args.coverable.now c.requires.coverable)

pub returns-clause-made : goal.returns-clause-made
returns-clause-made c =
    let marked = is_marked c.in_ok-marks.marks.items in
    let exposed = subst (λ (l : List Path). MarksExposed l (pairs_of c.args.coverable.now) marked) c.requires.paths c.in_ok-marks.ensures in
    let is = c.in_ok-whole.ensures ∙ (λ i. promoted_by (draft_tree (c.draft-draft.ensures.same i)) (is_marked (c.deref.ensures.value i))) in
    IfOk-weaker c.checked_set.result _ _ (λ o some. IfSome_then o some (λ s made. (marked, exposed, made ∙ is))) c.checked_set.ensures.made

pub returns-clause-refused : goal.returns-clause-refused
returns-clause-refused c =
    let draft = draft_tree c.args.set.now in
    let marked = is_marked c.in_ok-marks.marks.items in
    let exposed = subst (λ (l : List Path). MarksExposed l (pairs_of c.args.coverable.now) marked) c.requires.paths c.in_ok-marks.ensures in
    let is = c.in_ok-whole.ensures ∙ (λ i. promoted_by (draft_tree (c.draft-draft.ensures.same i)) (is_marked (c.deref.ensures.value i))) in
    IfOk-weaker c.checked_set.result _ _ (λ o none. none_then o _ _ (λ refused. (promoted_by draft marked, (marked, exposed, refl), subst (λ (d : DraftTree). IsRefused d) is refused)) none)
    c.checked_set.ensures.refused
