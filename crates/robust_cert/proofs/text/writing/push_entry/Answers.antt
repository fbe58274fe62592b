use Rattle.std.proofs.Common.{◌∙◌, string_bytes}
use Rattle.std.proofs.lemmas.Result.{on_ok_weaker}
use Rattle.robust_cert.proofs.Texts.{entry_written}
use Rattle.robust_cert.proofs.text.writing.push_entry.Goals as goal

pub returns-clause-text : goal.returns-clause-text
returns-clause-text c =
    on_ok_weaker c.push_tail.result
    (λ e. e ∙ entry_written c.args.question c.args.reason.now (string_bytes c.args.text.now) _ _
    c.in_ok-push_head.ensures c.in_ok-push_second_access.ensures.text)
    c.push_tail.ensures.text
