-- The lines of a part, and the words of a line.
use Rattle.std.specs.Prelude.{ℕ, ◌==◌, Bool, true, not, List, [], ◌∷◌, length, map, filter, if◌then◌else◌}
use Rattle.std.specs.List.{onto_first}
use Rattle.std.specs.Str.Lines.{strip_carriage_return}

-- the pieces of bytes: this byte ends each of them, or the end of the bytes the last
abbrev pub pieces : (separator : ℕ) → List ℕ → List (List ℕ)
pieces separator [] = []
pieces separator (b ∷ bs) = if b == separator then [] ∷ pieces separator bs else onto_first b (pieces separator bs)

-- a line feed or the end of the part ends a line; one carriage return before it is no part of the line
abbrev pub lines_of : List ℕ → List (List ℕ)
lines_of part = map strip_carriage_return (pieces 10 part)

-- a line without bytes, and one that begins with `#`
abbrev pub is_skipped : List ℕ → Bool
is_skipped [] = true
is_skipped (b ∷ rest) = b == 35

-- what stands between spaces, any number of them
abbrev pub words_of : List ℕ → List (List ℕ)
words_of line = filter (λ word. not (length word == 0)) (pieces 32 line)
