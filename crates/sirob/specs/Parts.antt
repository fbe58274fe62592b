-- The parts of the input, which separator lines divide.
use Rattle.std.specs.Prelude.{ℕ, List, [], ◌∷◌, ◌++◌, ◌==◌, if◌then◌else◌}
use Rattle.run_words.specs.PartPointing.{begins_separator}

-- a byte before a list of lines belongs to the first of them
abbrev pub before_lines : ℕ → List (List ℕ) → List (List ℕ)
before_lines byte [] = (byte ∷ []) ∷ []
before_lines byte (line ∷ lines) = (byte ∷ line) ∷ lines

-- the lines of a text, each with the line feed (10) that ends it; the last one may have none
abbrev pub full_lines_of : List ℕ → List (List ℕ)
full_lines_of [] = []
full_lines_of (byte ∷ bytes) =
    if byte == 10 then (byte ∷ []) ∷ full_lines_of bytes else before_lines byte (full_lines_of bytes)

-- a line before a list of parts belongs to the first of them
abbrev pub before_parts : List ℕ → List (List ℕ) → List (List ℕ)
before_parts line [] = line ∷ []
before_parts line (part ∷ parts) = (line ++ part) ∷ parts

-- the parts that these lines make up: a separator ends one and belongs to none
abbrev pub parts_in : List (List ℕ) → List (List ℕ)
parts_in [] = [] ∷ []
parts_in (line ∷ lines) =
    if begins_separator line then [] ∷ parts_in lines else before_parts line (parts_in lines)

-- the parts of a text
abbrev pub parts_of : List ℕ → List (List ℕ)
parts_of bytes = parts_in (full_lines_of bytes)
