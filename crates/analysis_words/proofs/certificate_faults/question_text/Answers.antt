use Rattle.std.proofs.Common.{IfOk, Option, string_bytes, subst, sym}
use Rattle.std.proofs.lemmas.Result.{IfOk-weaker}
use Rattle.robust_cert.specs.declared.certificate.EntryQuestion.{EntryQuestion}
use Rattle.analysis_words.specs.Nodes.{seen}
use Rattle.analysis_words.specs.Saying.{IsQuestionText}
use Rattle.analysis_words.proofs.certificate_faults.question_text.Goals as goal

pub returns-in_default : goal.returns-in_default
returns-in_default c =
    let shown = c.args.shown in
    subst (λ (o : Option EntryQuestion). IfOk c.format.result (λ words. IsQuestionText (seen shown) o (string_bytes words))) (sym c.in_default.is)
    c.format.ensures.ok

pub returns : goal.returns
returns c =
    let shown = c.args.shown in
    subst (λ (o : Option EntryQuestion). IfOk c.format-2.result (λ words. IsQuestionText (seen shown) o (string_bytes words))) (sym c.in-Some.is)
    (IfOk-weaker c.format-2.result _ _ (λ words is. (string_bytes c.in_ok-mine.mine, string_bytes c.in_ok-theirs.theirs, c.in_ok-mine.ensures, c.in_ok-theirs.ensures, is))
    c.format-2.ensures.ok)
