-- How people see a place of a text: its line and a mark under it.
use Rattle.std.specs.Prelude.{ℕ, ◌-◌, ◌==◌, nat_lt, ◌&&◌, ◌||◌, List, ◌++◌, codes, drop, map, replicate, take, if◌then◌else◌}
use Rattle.std.specs.Fmt.{decimal}
use Rattle.text_places.specs.Limits.{most_before, most_line}
use Rattle.text_places.specs.Places.{column, inset, line_at, line_number}

-- printable ASCII stands for itself, a tab and a carriage return for a space, and any other byte for a question mark
abbrev pub visible : ℕ → ℕ
visible byte = if nat_lt 31 byte && nat_lt byte 127 then byte else if byte == 9 || byte == 13 then 32 else 63

-- of a long line so many bytes before the place are shown, and so many in all
abbrev pub left_out : (text : List ℕ) → (place : ℕ) → ℕ
left_out text place = inset text place - most_before

abbrev pub shown_line : (text : List ℕ) → (place : ℕ) → List ℕ
shown_line text place = map visible (take most_line (drop (left_out text place) (line_at text place)))

-- a sign under the place
abbrev pub mark : (text : List ℕ) → (place : ℕ) → List ℕ
mark text place = replicate (inset text place - left_out text place) 32 ++ codes "^\n"

-- line and column
abbrev pub position : (text : List ℕ) → (place : ℕ) → List ℕ
position text place =
    codes "line " ++ (decimal (line_number text place) ++ (codes ", column " ++ decimal (column text place)))

-- the line, and the mark below
abbrev pub quote : (text : List ℕ) → (place : ℕ) → List ℕ
quote text place = codes "  " ++ (shown_line text place ++ (codes "\n  " ++ mark text place))

-- where it is, what there is to say, and the line with its mark
abbrev pub pointed_out : (text : List ℕ) → (place : ℕ) → (sentence : List ℕ) → List ℕ
pointed_out text place sentence = position text place ++ (codes ": " ++ (sentence ++ (codes "\n" ++ quote text place)))
