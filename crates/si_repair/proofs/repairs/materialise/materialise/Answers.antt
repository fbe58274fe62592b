use Rattle.std.proofs.Common.{◌+◌, ◌-◌, ◌<◌, List, length, take, ◌≡◌, ap, sym, subst, ◌∙◌}
use Rattle.std.specs.Prelude.{Option, IfSome, IfNone}
use Rattle.prog_tree.specs.declared.program.Draft.{Draft}
use Rattle.prog_tree.specs.Syntax.{DraftTree}
use Rattle.prog_tree.specs.Tree.{draft_tree}
use Rattle.prog_check.specs.declared.set.ProgramSet.{ProgramSet}
use Rattle.prog_check.specs.Sound.{IsSound}
use Rattle.repair_laws.specs.declared.plan.NewTable.{NewTable}
use Rattle.repair_laws.specs.Materialised.{materialised_by, IsMaterialised}
use Rattle.si_repair.specs.Checking.{IsRefused}
use Rattle.si_repair.proofs.NewTables.{small_whole, stops_nowhere, materialised_safe, all_made, some_met}
use Rattle.si_repair.proofs.repairs.materialise.materialise.Goals as goal

-- what is returned is what all pairs of the plan make
whole : (c : goal.After-drop-paths-in-Some) → IsMaterialised (draft_tree c.args.set.now) c.args.plan.now.pairs (draft_tree c.in-Some.repaired)
whole c =
    let draft = draft_tree c.args.set.now in
    let first = c.pairs_to_meet.ensures ∙ (λ i. take (1 + (64 - length (draft_tree (c.draft.ensures.same i)).tables)) (c.as_slice-pairs.ensures i)) in
    let own = subst (λ o. IfSome o (λ s. draft_tree s ≡ materialised_by draft c.deref-2.result.now)) c.in-Some.is c.in_ok-repaired.ensures.made in
    let sound = subst (λ o. IfSome o (λ s. IsSound (draft_tree s))) c.in-Some.is c.in_ok-repaired.ensures.sound in
    all_made draft c.args.plan.now.pairs c.pairs_to_meet.result.now c.in_ok-made.made.items (draft_tree c.in-Some.repaired) first c.in_ok-made.ensures
    (own ∙ ap (λ (l : List NewTable). materialised_by draft l) c.deref-2.ensures.value) sound

pub returns-in-Some-clause-repaired : goal.returns-in-Some-clause-repaired
returns-in-Some-clause-repaired c =
    let draft = draft_tree c.args.set.now in
    let plan = c.args.plan.now.pairs in
    let repaired = draft_tree c.in-Some.repaired in
    let sound = subst (λ o. IfSome o (λ s. IsSound (draft_tree s))) c.in-Some.is c.in_ok-repaired.ensures.sound in
    record {
      made = whole c;
      safe = materialised_safe draft plan repaired c.draft.ensures.sound (whole c);
      goes = stops_nowhere draft plan (small_whole draft plan repaired sound (whole c));
    }

pub first_stop-requires-clause-some : goal.first_stop-requires-clause-some
first_stop-requires-clause-some c =
    let draft = draft_tree c.args.set.now in
    let items = c.in_ok-made.made.items in
    let refused = subst (λ o. IfNone o (IsRefused (materialised_by draft c.deref-2.result.now))) c.in-None.is c.in_ok-repaired.ensures.refused in
    let some = some_met draft c.pairs_to_meet.result.now items c.draft.ensures.sound c.in_ok-made.ensures
    (subst (λ (l : List NewTable). IsRefused (materialised_by draft l)) c.deref-2.ensures.value refused) in
    subst (λ k. 0 < k) (sym (ap length c.deref-in-None.ensures.value)) some
