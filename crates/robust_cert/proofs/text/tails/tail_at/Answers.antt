use Rattle.std.proofs.Common.{string_bytes, String, ap, ◌∙◌}
use Rattle.std.specs.declared.alloc.Global.{Global}
use Rattle.robust_cert.proofs.TailTexts.{tail-text}
use Rattle.robust_cert.proofs.text.tails.tail_at.Goals as goal

pub returns-clause-text : goal.returns-clause-text
returns-clause-text c =
    c.as_str.ensures.value ∙ ap (λ (t : String Global). string_bytes t) c.index-tails-n.is
    ∙ tail-text c.args.reasons.now c.args.tails.now c.requires.tails c.args.n c.requires.within c.index-tails-n.result
