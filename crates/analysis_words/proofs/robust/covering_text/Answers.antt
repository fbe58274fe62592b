use Rattle.std.proofs.Common.{string_bytes}
use Rattle.std.proofs.lemmas.Result.{IfOk-weaker}
use Rattle.analysis_words.proofs.robust.covering_text.Goals as goal

pub returns : goal.returns
returns c = IfOk-weaker c.format.result _ _ (λ text is. (string_bytes c.in_ok-access.access, c.in_ok-access.ensures, is)) c.format.ensures.ok
