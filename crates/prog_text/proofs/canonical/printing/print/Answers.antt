use Rattle.std.proofs.Common.{◌≡◌, ℕ, ◌≤◌, List, length, sym, subst, arith}
use Rattle.std.proofs.lemmas.Grind.{common_steps}
use Rattle.prog_tree.specs.Syntax.{DraftTree}
use Rattle.prog_tree.specs.Tree.{draft_tree}
use Rattle.prog_text.specs.Answer.{Accepts}
use Rattle.prog_text.specs.Limits.{text_limit}
use Rattle.prog_text.specs.Canonical.{canonical}
use Rattle.prog_text.proofs.RoundTrip.{read_again}
use Rattle.prog_text.proofs.canonical.printing.print.Goals as goal

again : (text : List ℕ) (d : DraftTree) → text ≡ canonical d → (bytes : List ℕ) → Accepts bytes d → length text ≤ text_limit → Accepts text d
again text d is bytes h short =
    subst (λ (printed : List ℕ). length printed ≤ text_limit → Accepts printed d) (sym is) (read_again bytes d h) short

pub returns-clause-read_again : goal.returns-clause-read_again
returns-clause-read_again c =
    let is : c.into_bytes.result.items ≡ canonical (draft_tree c.args.draft.now) = grind (arith, common_steps) in
    again c.into_bytes.result.items (draft_tree c.args.draft.now) is
