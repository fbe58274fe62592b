use Rattle.std.proofs.Common.{◌∙◌, ℕ, IfOk, Option, rules, string_bytes, subst, sym}
use Rattle.std.proofs.lemmas.Result.{IfOk-weaker}
use Rattle.robust_cert.specs.declared.certificate.EntryQuestion.{EntryQuestion}
use Rattle.analysis_words.specs.Nodes.{seen}
use Rattle.analysis_words.specs.Saying.{IsAskedText, IsQuestionText}
use Rattle.analysis_words.proofs.certificate_faults.asked_text.Goals as goal

pub returns-in_default : goal.returns-in_default
returns-in_default c = rw (sym c.entry_of.ensures ∙ c.in_default.is) (search rules)

pub returns : goal.returns
returns c =
    let sight = seen c.args.shown in
    let question = string_bytes c.in_ok-question.question in
    let asked = subst (λ (o : Option EntryQuestion). IsQuestionText sight o question) c.asked_in.ensures c.in_ok-question.ensures in
    subst (λ (o : Option ℕ). IfOk c.format.result (λ words. IsAskedText sight c.args.certificate.now o (string_bytes words))) (sym c.in-Some.is ∙ c.entry_of.ensures)
    (IfOk-weaker c.format.result _ _ (λ words is. (question, asked, is)) c.format.ensures.ok)
