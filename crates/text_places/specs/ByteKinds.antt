-- Bytes that are counted together.
use Rattle.std.specs.Prelude.{ℕ, Bool}
use Rattle.prog_text.specs.Lexing.{is_space, is_word_byte}
use Rattle.text_places.specs.Places.{is_inline}
use Rattle.text_places.specs.declared.byte_kind.ByteKind.{ByteKind}
use Rattle.text_places.specs.declared.byte_kind.ByteKind.TheVariants.{Word, Blank, Inline}

-- a byte of a kind
abbrev pub is_of : ByteKind → ℕ → Bool
is_of Word = is_word_byte
is_of Blank = is_space
is_of Inline = is_inline
