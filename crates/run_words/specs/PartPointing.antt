-- What the words of a fault of the second part have to show.
use Rattle.std.specs.Prelude.{ℕ, ◌≡◌, ◌<◌, ⊤, Bool, true, ◌&&◌, ◌||◌, List, Option, Some, None, bytes_eq, codes, drop, length, nat_eq, take}
use Rattle.std.specs.List.{starts_with}
use Rattle.text_places.specs.Landmarks.{HasNoRecord, IsRecordPlace}
use Rattle.text_places.specs.Places.{ends_line, HasNoLine, IsLineFront}
use Rattle.fault_words.specs.Pointing.{PointsAt}
use Rattle.history_book.specs.View.{most_endings}
use Rattle.history_book.specs.declared.audit.AuditFault.{AuditFault}
use Rattle.history_book.specs.declared.audit.AuditFault.TheVariants as a
use Rattle.si_engine.specs.declared.input.line_fault.LineFault.{LineFault}
use Rattle.si_engine.specs.declared.input.line_fault.LineFault.TheVariants as l
use Rattle.run_words.specs.declared.in_input.Part.{Part}
use Rattle.run_words.specs.InInput.{PointsInPart}

-- the line that the line of a fault names, which want of memory has not
abbrev pub line_of_fault : LineFault → Option ℕ
line_of_fault (l.BadLine line) = Some line
line_of_fault (l.UnknownName line) = Some line
line_of_fault (l.WrongKeys line) = Some line
line_of_fault (l.LateRow line) = Some line
line_of_fault (l.RepeatedRow line) = Some line
line_of_fault (l.TooManyEvents line) = Some line
line_of_fault l.Memory = None

-- the words point at the front of the line, with its line in the whole input
abbrev pub PointsAtLineIn : Part → Option ℕ → (words : List ℕ) → Type 0
PointsAtLineIn part (Some line) words =
    (front : ℕ) × IsLineFront part.bytes.now line front × PointsInPart part front words
PointsAtLineIn part None words = ⊥

-- nothing is pointed at: the fault names no line, or the part has fewer
abbrev pub HasNoLineOf : (part : List ℕ) → Option ℕ → Type 0
HasNoLineOf part (Some line) = HasNoLine part line
HasNoLineOf part None = ⊤

-- the record that the line of a fault names; of too many, the first that is too much
abbrev pub record_of_fault : AuditFault → Option ℕ
record_of_fault a.Full = Some most_endings
record_of_fault (a.Row number fault) = Some number
record_of_fault a.Memory = None

-- the words point at the beginning of the record, with its line in the whole input
abbrev pub PointsAtRecord : Part → Option ℕ → (words : List ℕ) → Type 0
PointsAtRecord part (Some number) words =
    (place : ℕ) × IsRecordPlace part.bytes.now number place × PointsInPart part place words
PointsAtRecord part None words = ⊥

-- nothing is pointed at: the fault names no record, or fewer begin in the part
abbrev pub HasNoRecordOf : (part : List ℕ) → Option ℕ → Type 0
HasNoRecordOf part (Some number) = HasNoRecord part number
HasNoRecordOf part None = ⊤

-- `%%` stands here, and its line ends behind it
abbrev pub begins_separator : List ℕ → Bool
begins_separator bytes = bytes_eq bytes (codes "%%") || starts_with nat_eq bytes (codes "%%\n")

-- a line `%%` begins here
abbrev pub is_separator_at : (input : List ℕ) → (place : ℕ) → Bool
is_separator_at input place = ends_line (take place input) && begins_separator (drop place input)

abbrev pub IsSeparatorPlace : (input : List ℕ) → (place : ℕ) → Type 0
IsSeparatorPlace input place = is_separator_at input place ≡ true

-- the last line `%%` begins here
pub record IsLastSeparator (input : List ℕ) (place : ℕ) : Type 0 where
  pub stands : IsSeparatorPlace input place
  pub last : (other : ℕ) → place < other → other < length input → ¬ IsSeparatorPlace input other

-- the words point at the last line `%%`
abbrev pub PointsAtSeparator : (input : List ℕ) → (words : List ℕ) → Type 0
PointsAtSeparator input words = (place : ℕ) × IsLastSeparator input place × PointsAt input place words

-- no line is `%%`
abbrev pub HasNoSeparator : (input : List ℕ) → Type 0
HasNoSeparator input = (place : ℕ) → place < length input → ¬ IsSeparatorPlace input place
