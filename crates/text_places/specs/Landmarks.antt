-- Where the tables, programs and statements of a set's text begin, and the records or the jobs of a list.
use Rattle.std.specs.Prelude.{ℕ, zero, suc, ◌≡◌, ◌≤◌, ◌+◌, Bool, true, false, ◌&&◌, List, [], ◌∷◌, ◌++◌, Option, Some, None, codes, bytes_eq, drop, length, map, if◌then◌else◌}
use Rattle.prog_text.specs.Words.{beginning_of}
use Rattle.prog_text.specs.declared.lexing.words.Beginning.{Beginning}
use Rattle.prog_text.specs.declared.lexing.words.Beginning.TheVariants as b
use Rattle.text_places.specs.Places.{begins_line}
use Rattle.text_places.specs.Reading.{short_word, stands_free, without_comments}
use Rattle.text_places.specs.declared.landmark.Landmark.{Landmark}
use Rattle.text_places.specs.declared.landmark.Landmark.TheVariants.{Table, Program, Statement, Record, Job}

abbrev pub is_table : Option Beginning → Bool
is_table (Some b.Table) = true
is_table other = false

abbrev pub is_program : Option Beginning → Bool
is_program (Some b.Program) = true
is_program other = false

abbrev pub is_statement : Option Beginning → Bool
is_statement (Some b.Statement) = true
is_statement other = false

-- what begins at a place: nothing within a word
abbrev pub begun_at : (text : List ℕ) → (place : ℕ) → Option Beginning
begun_at text place = if stands_free text place then beginning_of (short_word (drop place text)) else None

-- with the word one of a kind begins
abbrev pub is_sign_of : Landmark → List ℕ → Bool
is_sign_of Table word = is_table (beginning_of word)
is_sign_of Program word = is_program (beginning_of word)
is_sign_of Statement word = is_statement (beginning_of word)
is_sign_of Record word = bytes_eq word (codes "record")
is_sign_of Job word = bytes_eq word (codes "job")

-- a record and a job are a line each, and what else there is may stand anywhere in one
abbrev pub begins_here : Landmark → (text : List ℕ) → (place : ℕ) → Bool
begins_here Table text place = stands_free text place
begins_here Program text place = stands_free text place
begins_here Statement text place = stands_free text place
begins_here Record text place = begins_line text place
begins_here Job text place = begins_line text place

abbrev pub is_landmark : Landmark → (text : List ℕ) → (place : ℕ) → Bool
is_landmark kind text place = is_sign_of kind (short_word (drop place text)) && begins_here kind text place

-- how many of a kind begin before a place
abbrev pub landmarks_before : Landmark → (text : List ℕ) → (place : ℕ) → ℕ
landmarks_before kind text zero = 0
landmarks_before kind text (suc place) =
    if is_landmark kind text place then suc (landmarks_before kind text place) else landmarks_before kind text place

-- where those of a kind begin that begin before a place, in order
abbrev pub places_before : Landmark → (text : List ℕ) → (place : ℕ) → List ℕ
places_before kind text zero = []
places_before kind text (suc place) =
    places_before kind text place ++ (if is_landmark kind text place then place ∷ [] else [])

-- how many statements begin ahead of each program that begins before a place
abbrev pub statements_ahead : (text : List ℕ) → (place : ℕ) → List ℕ
statements_ahead text place = map (landmarks_before Statement text) (places_before Program text place)

-- these are the places where the statements of a text begin, and the counts of those that begin ahead of each program
pub record AreStatementPlaces (text places counts : List ℕ) : Type 0 where
  pub statements : places ≡ places_before Statement text (length text)
  pub ahead : counts ≡ statements_ahead text (length text)

-- the one of this number begins at the place; they are counted from 0, and from some place on
pub record IsNumbered (kind : Landmark) (text : List ℕ) (start : ℕ) (number : ℕ) (place : ℕ) : Type 0 where
  pub begins : is_landmark kind text place ≡ true
  pub numbered : landmarks_before kind text place ≡ landmarks_before kind text start + number

-- too few of a kind begin from the start on for one of this number
abbrev pub HasFewer : Landmark → (text : List ℕ) → (start : ℕ) → (number : ℕ) → Type 0
HasFewer kind text start number = landmarks_before kind text (length text) ≤ landmarks_before kind text start + number

abbrev pub IsTablePlace : (text : List ℕ) → (table : ℕ) → (place : ℕ) → Type 0
IsTablePlace text table place = IsNumbered Table (without_comments text) 0 table place

abbrev pub HasNoTable : (text : List ℕ) → (table : ℕ) → Type 0
HasNoTable text table = HasFewer Table (without_comments text) 0 table

abbrev pub IsProgramPlace : (text : List ℕ) → (program : ℕ) → (place : ℕ) → Type 0
IsProgramPlace text program place = IsNumbered Program (without_comments text) 0 program place

abbrev pub HasNoProgram : (text : List ℕ) → (program : ℕ) → Type 0
HasNoProgram text program = HasFewer Program (without_comments text) 0 program

-- statements are counted from where their program begins
abbrev pub IsStatementPlace : (text : List ℕ) → (program statement : ℕ) → (place : ℕ) → Type 0
IsStatementPlace text program statement place =
    (start : ℕ) × IsProgramPlace text program start × IsNumbered Statement (without_comments text) start statement place

-- there is no such program, or too few statements begin behind its beginning
pub data HasNoStatement (text : List ℕ) (program statement : ℕ) : Type 0 where
  NoProgram : HasNoProgram text program → HasNoStatement text program statement
  FewBehind : (start : ℕ) → IsProgramPlace text program start
      → HasFewer Statement (without_comments text) start statement → HasNoStatement text program statement

abbrev pub IsRecordPlace : (list : List ℕ) → (number : ℕ) → (place : ℕ) → Type 0
IsRecordPlace list number place = IsNumbered Record list 0 number place

abbrev pub HasNoRecord : (list : List ℕ) → (number : ℕ) → Type 0
HasNoRecord list number = HasFewer Record list 0 number

abbrev pub IsJobPlace : (list : List ℕ) → (number : ℕ) → (place : ℕ) → Type 0
IsJobPlace list number place = IsNumbered Job list 0 number place

abbrev pub HasNoJob : (list : List ℕ) → (number : ℕ) → Type 0
HasNoJob list number = HasFewer Job list 0 number
