-- Where a byte of a text stands: its line, its column, and the line as people see it.
use Rattle.std.specs.Prelude.{ℕ, ◌≡◌, ◌<◌, ◌≤◌, ◌+◌, ◌-◌, ◌==◌, Bool, not, List, count_by, drop, length, take}
use Rattle.std.specs.List.{before_first, list_all, suffix_len}

abbrev pub is_feed : ℕ → Bool
is_feed byte = byte == 10

-- the bytes of a line
abbrev pub is_inline : ℕ → Bool
is_inline byte = not (is_feed byte)

-- lines are counted from 1: one more than the line feeds before the place
abbrev pub line_number : (text : List ℕ) → (place : ℕ) → ℕ
line_number text place = count_by is_feed (take place text) + 1

-- there are no bytes, or a line feed is the last
abbrev pub ends_line : List ℕ → Bool
ends_line bytes = list_all is_feed (drop (length bytes - 1) bytes)

abbrev pub is_indent : ℕ → Bool
is_indent byte = byte == 32

-- how many bytes of its line stand before the place
abbrev pub inset : (text : List ℕ) → (place : ℕ) → ℕ
inset text place = suffix_len is_inline (take place text)

-- columns are counted from 1, a byte each
abbrev pub column : (text : List ℕ) → (place : ℕ) → ℕ
column text place = inset text place + 1

-- where the line of the place begins; a place behind the end stands for the end
abbrev pub line_start : (text : List ℕ) → (place : ℕ) → ℕ
line_start text place = length (take place text) - inset text place

-- in its line only spaces stand before the place
abbrev pub begins_line : (text : List ℕ) → (place : ℕ) → Bool
begins_line text place = list_all is_indent (drop (line_start text place) (take place text))

-- the line of the place, without its line feed
abbrev pub line_at : (text : List ℕ) → (place : ℕ) → List ℕ
line_at text place = before_first is_feed (drop (line_start text place) text)

-- the first byte of the line of this number stands at the place, or would if the line had one
pub record IsLineFront (text : List ℕ) (line : ℕ) (place : ℕ) : Type 0 where
  pub within : place ≤ length text
  pub numbered : line_number text place ≡ line
  pub front : column text place ≡ 1

-- each line feed ends a line, and one more line stands behind the last
abbrev pub HasNoLine : (text : List ℕ) → (line : ℕ) → Type 0
HasNoLine text line = 0 < line → count_by is_feed text + 1 < line
