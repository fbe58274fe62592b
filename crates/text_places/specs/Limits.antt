-- How much of a long line and of a word is looked at.
use Rattle.std.specs.Prelude.{ℕ}

-- bytes of a line that are shown before a place
abbrev pub most_before : ℕ
most_before = 60

-- bytes of a line that are shown in all
abbrev pub most_line : ℕ
most_line = 100

-- bytes that tell whether a word is one of at most seven
abbrev pub short_len : ℕ
short_len = 8
