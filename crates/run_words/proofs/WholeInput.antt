-- Lines of a part are lines of the whole input.
use Rattle.std.proofs.Common.{◌≡◌, ◌∙◌, ◌≤◌, ℕ, ◌+◌, ◌++◌, List, ap, arith, length, take, drop, count_by}
use Rattle.std.proofs.Math.Seq.{take-append-add}
use Rattle.std.proofs.lemmas.List.{take-take}
use Rattle.std.proofs.lemmas.List.Sums.{count_by-le-length, sum_by-append, sum_by-take-drop, sum_by-take-le}
use Rattle.text_places.specs.Places.{is_feed, line_number}
use Rattle.run_words.specs.declared.in_input.Part.{Part}
use Rattle.run_words.specs.InInput.{input_line, input_line_text, numbered_text, where_ahead, whole_line, whole_line_text}

-- the line of a place in the whole is its line in the part, behind the lines ahead
is_behind : (part : Part) (place : ℕ) → whole_line part (line_number part.bytes.now place) ≡ input_line part place
is_behind part place =
    let ahead = part.ahead.now in
    let bytes = part.bytes.now in
    let parts : count_by is_feed (take (length ahead + place) (ahead ++ bytes)) ≡ count_by is_feed ahead + count_by is_feed (take place bytes) =
    ap (count_by is_feed) (take-append-add ahead bytes place) ∙ sum_by-append _ ahead (take place bytes) in
    omega (arith, parts)

pub same_text : (part : Part) (place : ℕ)
    → whole_line_text part (line_number part.bytes.now place) ≡ input_line_text part place
same_text part place = ap (λ line. where_ahead part.ahead.now (numbered_text line)) (is_behind part place)

-- a text has at most one line more than bytes
pub few_lines : (text : List ℕ) (place : ℕ) → line_number text place ≤ length text + 1
few_lines text place =
    let front : count_by is_feed (take place text) ≤ count_by is_feed text = sum_by-take-le _ text place in
    omega (arith, front, count_by-le-length is_feed text)

-- the line of a place is as many lines behind another as there are line feeds between them
pub line_from : (text : List ℕ) (from place : ℕ) → from ≤ place
    → line_number text from + count_by is_feed (drop from (take place text)) ≡ line_number text place
line_from text from place le =
    let front : count_by is_feed (take from (take place text)) ≡ count_by is_feed (take from text) =
    ap (count_by is_feed) (take-take from place text le) in
    let both : count_by is_feed (take from (take place text)) + count_by is_feed (drop from (take place text)) ≡ count_by is_feed (take place text) =
    sum_by-take-drop _ (take place text) from in
    omega (arith, front, both)
