use Rattle.std.proofs.Common.{sym}
use Rattle.std.proofs.lemmas.Slice.Zip.{firsts-zip}
use Rattle.prog_text.proofs.lexing.placed_tokens.PlacedTokens.tokens.Goals as goal

pub returns : goal.returns
returns c = rw (c.deref.ensures.value, ← c.self.view_is) (sym (firsts-zip _ _ (sym c.self.invariant)))
