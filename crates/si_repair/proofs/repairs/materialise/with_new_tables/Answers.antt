use Rattle.std.proofs.Common.{◌≡◌, ◌∙◌, ap, subst}
use Rattle.std.specs.Prelude.{IfNone, IfOk, IfSome}
use Rattle.prog_tree.specs.declared.program.Draft.{Draft}
use Rattle.prog_tree.specs.Syntax.{DraftTree}
use Rattle.prog_tree.specs.Tree.{draft_tree}
use Rattle.repair_laws.specs.Materialised.{materialised_by}
use Rattle.si_repair.specs.Checking.{IsRefused}
use Rattle.si_repair.proofs.repairs.materialise.with_new_tables.Goals as goal

pub returns-clause-made : goal.returns-clause-made
returns-clause-made c =
    let is = c.in_ok-whole.ensures ∙ ap (λ (d : Draft). materialised_by (draft_tree d) c.args.made.now) c.draft-draft.ensures.same in
    subst (λ (d : DraftTree). IfOk c.checked_set.result (λ o. IfSome o (λ s. draft_tree s ≡ d))) is c.checked_set.ensures.made

pub returns-clause-refused : goal.returns-clause-refused
returns-clause-refused c =
    let is = c.in_ok-whole.ensures ∙ ap (λ (d : Draft). materialised_by (draft_tree d) c.args.made.now) c.draft-draft.ensures.same in
    subst (λ (d : DraftTree). IfOk c.checked_set.result (λ o. IfNone o (IsRefused d))) is c.checked_set.ensures.refused
