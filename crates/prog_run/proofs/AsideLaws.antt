-- Laws of rows that are used while the looks of a run stand aside.
use Rattle.std.proofs.Common.{◌≡◌, ℤ, List, [], ◌∷◌, ◌++◌, length, refl, ap, sym, subst, ◌∙◌}
use Rattle.std.specs.Prelude.{pos, Option, Some, None, Result, Ok, Err, IfOk, OnOk, OnErr}
use Rattle.std.specs.declared.alloc.AllocError.{AllocError}
use Rattle.prog_tree.specs.declared.cell.Region.{Region}
use Rattle.prog_tree.specs.declared.deed.Deed.{Deed}
use Rattle.prog_tree.specs.declared.deed.Deed.TheVariants as deed
use Rattle.prog_tree.specs.declared.deed.End.TheVariants.{Ready, Aborted}
use Rattle.prog_tree.specs.declared.look.Look.{Look}
use Rattle.prog_tree.specs.declared.progress.Progress.{Progress}
use Rattle.prog_tree.specs.Steps.{looked}
use Rattle.prog_tree.specs.Syntax.{Name}
use Rattle.prog_tree.specs.Table.{TableState, total_of}
use Rattle.prog_tree.specs.Value.{exact}
use Rattle.prog_tree.specs.Evaluation.{Flow, GoesOn, Stops}
use Rattle.prog_run.specs.Statement.{IsFlow}
use Rattle.prog_run.specs.Step.{IsUsed, cursor_behind}
use Rattle.prog_run.specs.Task.{RegionUseTree, Counts, Sums, Lists, found_flow, rows_flow}
use Rattle.prog_run.specs.Todo.{CursorTree}
use Rattle.prog_run.specs.declared.next.Step.{Step}
use Rattle.prog_run.specs.declared.next.Step.TheVariants.{Asks, Did, Over}

-- a flow in which the looks are these
abbrev with_looks : List Look → Flow → Flow
with_looks looks (GoesOn q) = GoesOn (record q { looks = looks })
with_looks looks (Stops cause q) = Stops cause (record q { looks = looks })

found_with : (name : Name) (made : ℤ → Deed) (value : Option ℤ) (p : Progress) (looks : List Look) →
    found_flow name made value (record p { looks = looks }) ≡ with_looks looks (found_flow name made value p)
found_with name made (Some v) p looks = refl
found_with name made None p looks = refl

-- what is done with rows does not depend on the looks
rows_with : (usage : RegionUseTree) (region : Region) (rows : TableState) (p : Progress) (looks : List Look) →
    rows_flow usage region rows (record p { looks = looks }) ≡ with_looks looks (rows_flow usage region rows p)
rows_with (Counts name) region rows p looks = found_with name (λ v. deed.Counted region v) (exact (pos (length rows))) p looks
rows_with (Sums name) region rows p looks = found_with name (λ v. deed.Summed region v) (exact (total_of rows)) p looks
rows_with (Lists l body) region rows p looks = refl

flow_with : (usage : RegionUseTree) (region : Region) (rows : TableState) (n : Step) (p q : Progress) (looks : List Look) →
    IsFlow (rows_flow usage region rows p) n p q → IsFlow (rows_flow usage region rows (record p { looks = looks })) n (record p { looks = looks }) (record q { looks = looks })
flow_with usage region rows (Asks asked) p q looks flow = flow
flow_with usage region rows (Did made) p q looks flow = (rows_with usage region rows p looks ∙ ap (with_looks looks) flow.0, flow.1, refl, flow.3, flow.4)
flow_with usage region rows (Over (Aborted cause)) p q looks flow = (rows_with usage region rows p looks ∙ ap (with_looks looks) flow.0, flow.1, refl, flow.3, flow.4)
flow_with usage region rows (Over Ready) p q looks flow = flow

module _ (p q : Progress) (aside after : List Look) (r : Result Step AllocError) where
  -- the rows were used, and then the look was noted
  pub used_aside : (usage : RegionUseTree) (region : Region) (seen : TableState) (l : Look) (c d : CursorTree) →
      IfOk r (λ n. IsUsed usage region seen n c (record p { looks = aside }) d q) → OnOk r (after ≡ p.looks ++ l ∷ []) →
      IfOk r (λ n. IsFlow (rows_flow usage region seen (looked l p)) n (looked l p) (record q { looks = after }))
  used_aside usage region seen l c d used noted = go r used noted
    where
      go : (s : Result Step AllocError) → IfOk s (λ n. IsUsed usage region seen n c (record p { looks = aside }) d q) → OnOk s (after ≡ p.looks ++ l ∷ []) →
          IfOk s (λ n. IsFlow (rows_flow usage region seen (looked l p)) n (looked l p) (record q { looks = after }))
      go (Err e) used noted = tt
      go (Ok n) used noted =
          subst (λ looks. IsFlow (rows_flow usage region seen (looked l p)) n (looked l p) (record q { looks = looks })) (sym noted)
          (flow_with usage region seen n (record p { looks = aside }) q (p.looks ++ l ∷ []) used.flow)

  -- the cursor goes on as it would otherwise
  pub cursor_aside : (usage : RegionUseTree) (region : Region) (seen : TableState) (c d : CursorTree) →
      IfOk r (λ n. IsUsed usage region seen n c (record p { looks = aside }) d q) → IfOk r (λ n. d ≡ cursor_behind usage seen (length p.env) n c)
  cursor_aside usage region seen c d used = go r used
    where
      go : (s : Result Step AllocError) → IfOk s (λ n. IsUsed usage region seen n c (record p { looks = aside }) d q) → IfOk s (λ n. d ≡ cursor_behind usage seen (length p.env) n c)
      go (Err e) used = tt
      go (Ok n) used = used.cursor

  -- without memory all is as it was
  pub back_aside : OnErr r (q ≡ record p { looks = aside }) → OnErr r (after ≡ p.looks) → OnErr r (record q { looks = after } ≡ p)
  back_aside same noted = go r same noted
    where
      go : (s : Result Step AllocError) → OnErr s (q ≡ record p { looks = aside }) → OnErr s (after ≡ p.looks) → OnErr s (record q { looks = after } ≡ p)
      go (Err e) same noted = λ i. record (same i) { looks = noted i }
      go (Ok n) same noted = tt
