use Rattle.std.proofs.Common.{◌∙◌}
use Rattle.prog_text.proofs.Reserved.{reserved_by_sign}
use Rattle.prog_text.proofs.lexing.words.is_reserved.Goals as goal

pub returns : goal.returns
returns c = c.is_some.ensures ∙ reserved_by_sign c.args.word.now _ c.lookup.ensures
