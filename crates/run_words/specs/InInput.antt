-- Places of a part of an input, with their lines in the part and in the whole input.
use Rattle.std.specs.Prelude.{ℕ, ◌≡◌, ◌+◌, List, [], ◌∷◌, ◌++◌, codes, count_by, length, map}
use Rattle.std.specs.Fmt.{decimal}
use Rattle.text_places.specs.Places.{is_feed, line_number}
use Rattle.text_places.specs.Quotes.{pointed_out, visible}
use Rattle.run_words.specs.declared.in_input.Part.{Part}

-- the line of a place of a part in the whole input
abbrev pub input_line : Part → (place : ℕ) → ℕ
input_line part place = line_number (part.ahead.now ++ part.bytes.now) (length part.ahead.now + place)

-- as ` (line 12 of the input)`
abbrev pub numbered_text : (line : ℕ) → List ℕ
numbered_text line = codes " (line " ++ (decimal line ++ codes " of the input)")

-- a text where something stands ahead of a part, and else nothing
abbrev pub where_ahead : (ahead text : List ℕ) → List ℕ
where_ahead [] text = []
where_ahead (byte ∷ bytes) text = text

-- a line of a part, by its number in the whole input: behind the line feeds ahead
abbrev pub whole_line : Part → (line : ℕ) → ℕ
whole_line part line = count_by is_feed part.ahead.now + line

-- nothing where the part is the whole
abbrev pub whole_line_text : Part → (line : ℕ) → List ℕ
whole_line_text part line = where_ahead part.ahead.now (numbered_text (whole_line part line))

-- the same of the line of a place
abbrev pub input_line_text : Part → (place : ℕ) → List ℕ
input_line_text part place = where_ahead part.ahead.now (numbered_text (input_line part place))

-- some sentence is said of the place, in one line, with its line in the whole input behind it
abbrev pub PointsInPart : Part → (place : ℕ) → (words : List ℕ) → Type 0
PointsInPart part place words =
    (sentence : List ℕ)
    × (words ≡ pointed_out part.bytes.now place (map visible sentence ++ input_line_text part place))
