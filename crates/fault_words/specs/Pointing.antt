-- What the words of a fault have to show.
use Rattle.std.specs.Prelude.{ℕ, ◌≡◌, ◌-◌, ◌==◌, ◌&&◌, ◌||◌, ◌⊎◌, ⊤, Bool, true, not, nat_le, List, ◌++◌, Option, Some, None, option_map, bytes_eq, codes, drop, length, map, take}
use Rattle.std.specs.List.{list_all, suffix_len}
use Rattle.text_places.specs.Reading.{begins_word, end_before, first_word, without_comments}
use Rattle.text_places.specs.Tokens.{first_token}
use Rattle.text_places.specs.Landmarks.{HasNoProgram, HasNoStatement, HasNoTable, IsProgramPlace, IsStatementPlace, IsTablePlace}
use Rattle.text_places.specs.Quotes.{pointed_out, visible}
use Rattle.fault_words.specs.Blocks.{open_head, open_text}
use Rattle.prog_check.specs.declared.fault.Place.{Place}
use Rattle.prog_check.specs.declared.fault.Place.TheVariants.{Table, Program, Statement}
use Rattle.prog_check.specs.declared.fault.CheckFault.{CheckFault}
use Rattle.prog_check.specs.declared.fault.CheckFault.TheVariants as c
use Rattle.prog_text.specs.declared.fault.TextFault.{TextFault}
use Rattle.prog_text.specs.declared.fault.TextFault.TheVariants as t

-- some sentence is said of the place, in one line, with the place's own line, column and mark
abbrev pub PointsAt : (text : List ℕ) → (place : ℕ) → (words : List ℕ) → Type 0
PointsAt text place words = (sentence : List ℕ) × (words ≡ pointed_out text place (map visible sentence))

-- that a `;` is missing, where the word or the sign before ends
abbrev pub missing_semicolon : (text : List ℕ) → (place : ℕ) → List ℕ
missing_semicolon text place = pointed_out text (end_before text place) (codes "a `;` is missing here")

-- neither a `;` nor a `{`
abbrev pub goes_on : (byte : ℕ) → Bool
goes_on byte = not (byte == 59) && not (byte == 123)

-- a `;`, a `{` or a `}`
abbrev pub is_end : (byte : ℕ) → Bool
is_end byte = not (goes_on byte) || byte == 125

-- none of these ends the bytes
abbrev pub is_unended : List ℕ → Bool
is_unended bytes = suffix_len is_end bytes == 0

-- a word or a `}` stands at the front
abbrev pub begins_anew : List ℕ → Bool
begins_anew bytes = bytes_eq (first_token bytes) (codes "}") || not (length (first_word bytes) == 0)

-- in a text without comments a `;` may be missing between where one token ends and where the next stands: no `;` and no
-- brace is the one, and a word or a `}` is the other
abbrev pub may_lack_semicolon : (plain : List ℕ) → (end : ℕ) → (place : ℕ) → Bool
may_lack_semicolon plain end place = is_unended (take end plain) && begins_anew (drop place plain)

-- the words tell that a `;` is missing before a word or a `}`, where one may be
abbrev pub TellsMissing : (text : List ℕ) → (place : ℕ) → (words : List ℕ) → Type 0
TellsMissing text place words =
    (words ≡ missing_semicolon text place)
    × (may_lack_semicolon (without_comments text) (end_before text place) place ≡ true)

-- the words point at a word or a sign, or tell that a `;` is missing before it
abbrev pub PointsAtToken : (text : List ℕ) → (place : ℕ) → (words : List ℕ) → Type 0
PointsAtToken text place words = PointsAt text place words ⊎ TellsMissing text place words

-- a sentence begins with what there is to say first, where there is something
abbrev pub BeginsBy : (first : Option (List ℕ)) → (sentence : List ℕ) → Type 0
BeginsBy None sentence = ⊤
BeginsBy (Some first) sentence = (more : List ℕ) × (sentence ≡ first ++ more)

-- the words point at the place, and tell first, in one line, which block is open there, where one is
abbrev pub TellsOpenBlock : (text : List ℕ) → (place : ℕ) → (words : List ℕ) → Type 0
TellsOpenBlock text place words =
    (sentence : List ℕ) × BeginsBy (option_map (open_text text) (open_head text place)) sentence
    × (words ≡ pointed_out text place (map visible sentence))

-- a table, a program or a statement begins here
abbrev pub IsPlaceOf : (text : List ℕ) → Place → (place : ℕ) → Type 0
IsPlaceOf text (Table table) place = IsTablePlace text table place
IsPlaceOf text (Program program) place = IsProgramPlace text program place
IsPlaceOf text (Statement program statement) place = IsStatementPlace text program statement place

-- no table, no program or no statement of this number begins in the text
abbrev pub HasNone : (text : List ℕ) → Place → Type 0
HasNone text (Table table) = HasNoTable text table
HasNone text (Program program) = HasNoProgram text program
HasNone text (Statement program statement) = HasNoStatement text program statement

-- the words of a fault point at the byte that its line names; want of memory has no place
abbrev pub PointsAtFault : (text : List ℕ) → TextFault → (words : List ℕ) → Type 0
PointsAtFault text (t.NotAscii place) words = PointsAt text place words
PointsAtFault text (t.UnknownByte place) words = PointsAt text place words
PointsAtFault text (t.UnexpectedToken place) words = PointsAtToken text place words
PointsAtFault text (t.UnexpectedEnd place) words = TellsOpenBlock text place words
PointsAtFault text (t.NumberOutOfRange place) words = PointsAt text place words
PointsAtFault text (t.NameTooLong place) words = PointsAt text place words
PointsAtFault text (t.TooDeep place) words = PointsAt text place words
PointsAtFault text (t.TooLong place) words = PointsAt text place words
PointsAtFault text t.Memory words = words ≡ codes "memory ran out"

-- the place that the line of a fault names, which want of memory has not
abbrev pub place_of : CheckFault → Option Place
place_of (c.DuplicateTable place) = Some place
place_of (c.DuplicateProgram place) = Some place
place_of (c.DuplicateParameter place) = Some place
place_of (c.UnknownTable place) = Some place
place_of (c.UnknownName place) = Some place
place_of (c.NameTaken place) = Some place
place_of (c.WrongArity place) = Some place
place_of (c.GrowTableChanged place) = Some place
place_of (c.AfterAbort place) = Some place
place_of (c.TooMany place) = Some place
place_of (c.TooManyPaths place) = Some place
place_of c.Memory = None

-- at the mark stands a word of the statement or the test that begins at a place: between them no statement ends, and no
-- block begins
abbrev pub is_word_of : (text : List ℕ) → (at : ℕ) → (mark : ℕ) → Bool
is_word_of text at mark =
    nat_le at mark && (begins_word text mark && list_all goes_on (take (mark - at) (drop at text)))

-- where the mark stands, of what begins at a place: there, or where a name is the fault at a word of the statement
abbrev pub IsMark : (text : List ℕ) → CheckFault → (at : ℕ) → (mark : ℕ) → Type 0
IsMark text (c.UnknownName place) at mark = (mark ≡ at) ⊎ (is_word_of (without_comments text) at mark ≡ true)
IsMark text fault at mark = mark ≡ at

-- the words point at the table, the program or the statement, or at the name in it
abbrev pub PointsFrom : (text : List ℕ) → CheckFault → Option Place → (words : List ℕ) → Type 0
PointsFrom text fault (Some place) words =
    (at : ℕ) × IsPlaceOf text place at × (mark : ℕ) × IsMark text fault at mark × PointsAt text mark words
PointsFrom text fault None words = ⊥

abbrev pub PointsAtFlaw : (text : List ℕ) → CheckFault → (words : List ℕ) → Type 0
PointsAtFlaw text fault words = PointsFrom text fault (place_of fault) words

-- nothing is pointed at: the fault names no place, or what it names begins nowhere in the text
abbrev pub HasNoPlace : (text : List ℕ) → Option Place → Type 0
HasNoPlace text (Some place) = HasNone text place
HasNoPlace text None = ⊤
