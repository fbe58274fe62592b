-- Statements and cells as words quote them: in one line, as a terminal may show it.
use Rattle.std.specs.Prelude.{ℕ, ◌+◌, ◌==◌, Bool, true, false, not, ◌||◌, List, [], ◌∷◌, ◌++◌, drop, map, take, if◌then◌else◌}
use Rattle.std.specs.Char.{is_ascii_whitespace}
use Rattle.std.specs.List.{before_first, prefix_len}
use Rattle.text_places.specs.Quotes.{visible}
use Rattle.text_places.specs.Reading.{without_comments}
use Rattle.text_places.specs.Tokens.{is_before_key, table_name}
use Rattle.analysis_words.specs.Limits.{most_quoted}

-- ---- one line

-- a space where blanks came last
abbrev pub gap_before : (gap : Bool) → List ℕ
gap_before true = 32 ∷ []
gap_before false = []

-- what a byte adds to a line: a blank nothing, and another itself, behind a space where blanks came last
abbrev pub spaced_byte : (gap : Bool) → ℕ → List ℕ
spaced_byte gap byte = if is_ascii_whitespace byte then [] else gap_before gap ++ byte ∷ []

abbrev pub spaced_from : (gap : Bool) → List ℕ → List ℕ
spaced_from gap [] = []
spaced_from gap (byte ∷ bytes) = spaced_byte gap byte ++ spaced_from (is_ascii_whitespace byte) bytes

-- bytes with a space in place of each run of blanks, and none at the end
abbrev pub with_single_spaces : List ℕ → List ℕ
with_single_spaces bytes = spaced_from false bytes

abbrev pub in_one_line : List ℕ → List ℕ
in_one_line bytes = map visible (with_single_spaces bytes)

-- ---- statements

-- `;`, `{` or a line feed
abbrev pub ends_statement : ℕ → Bool
ends_statement byte = (byte == 59 || byte == 123) || byte == 10

abbrev pub is_before_end : ℕ → Bool
is_before_end byte = not (ends_statement byte)

-- the statement at a place of a text: to its `;`, to the `{` of its body, or to the end of its line, and of a long one
-- the first bytes
abbrev pub quoted_statement : (text : List ℕ) → (place : ℕ) → List ℕ
quoted_statement text place = in_one_line (take most_quoted (before_first ends_statement (drop place (without_comments text))))

-- ---- cells

abbrev pub is_before_bracket : ℕ → Bool
is_before_bracket byte = not (byte == 93)

-- the bytes to the first `]`
abbrev pub to_bracket : List ℕ → List ℕ
to_bracket bytes = take (prefix_len is_before_bracket bytes + 1) bytes

-- a table with its key: the name before the first `[`, and what stands from there on
abbrev pub cells_of : (front : List ℕ) → List ℕ
cells_of front = map visible (table_name front) ++ in_one_line (drop (prefix_len is_before_key front) front)

-- the cell or the range that the statement at a place of a text names
abbrev pub quoted_cells : (text : List ℕ) → (place : ℕ) → List ℕ
quoted_cells text place = cells_of (to_bracket (drop place (without_comments text)))
