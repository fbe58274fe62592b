use Rattle.prog_text.proofs.WordBytes.{word_is_text}
use Rattle.prog_text.proofs.lexing.words.word.Goals as goal

pub from_utf8_unchecked-requires : goal.from_utf8_unchecked-requires
from_utf8_unchecked-requires c = word_is_text _ c.requires
