-- Which certificate bytes are, and why they are none.
use Rattle.std.specs.Prelude.{◌≡◌, ◌≢◌, ℕ, List, All, codes, Option, Some, None, option_and_then, Result, Err, IsUtf8, ◌⊎◌}
use Rattle.serde_json.specs.Data.{Num, unsigned, negative, float, Data, Members, object}
use Rattle.serde_json.specs.Find.{get, as_number}
use Rattle.serde_json.specs.Read.{read}
use Rattle.robust_cert.specs.Json.{whole_data, list_data, entry_data, members_data, EntryFits, IsValueOf}
use Rattle.robust_cert.specs.Ranges.{IsSmall}
use Rattle.robust_cert.specs.declared.certificate.Certificate.{Certificate}
use Rattle.robust_cert.specs.declared.fault.JsonFault.{JsonFault}
use Rattle.robust_cert.specs.declared.fault.JsonFault.TheVariants.{NotJson, WrongShape, WrongVersion, Memory}
use Rattle.robust_cert.specs.declared.fault.Untaken.{Untaken}
use Rattle.robust_cert.specs.declared.fault.Untaken as untaken
use Rattle.robust_cert.specs.declared.text.version.TextVersion.{TextVersion}
use Rattle.robust_cert.specs.declared.text.version.TextVersion as version
use Rattle.robust_cert.specs.Sharing.{Entry}

-- the bytes are the JSON text of a value
abbrev pub ReadsAs : List ℕ → Data → Type 0
ReadsAs bytes d = IsUtf8 bytes × (read bytes ≡ Some d)

-- the bytes are the JSON text of a certificate
abbrev pub IsTextOf : Certificate → List ℕ → Type 0
IsTextOf c bytes = (d : Data) × ReadsAs bytes d × IsValueOf c d

-- a number that is no float
abbrev pub if_whole : Num → Option Num
if_whole (unsigned n) = Some (unsigned n)
if_whole (negative z) = Some (negative z)
if_whole (float x) = None

-- the whole number under `version`
abbrev pub version_of : Data → Option Num
version_of d = option_and_then if_whole (option_and_then as_number (get (codes "version") d))

-- the number of a version
abbrev pub number_of : TextVersion → Num
number_of version.TheVariants.First = unsigned 1
number_of version.TheVariants.Second = unsigned 2

-- there is a whole number, and it is neither 1 nor 2
abbrev pub IsOtherVersion : Option Num → Type 0
IsOtherVersion number = (number ≢ None) × (number ≢ Some (unsigned 1)) × (number ≢ Some (unsigned 2))

-- these are the entries and levels of members, whichever the version
pub record IsShared (entries : List Entry) (levels : List ℕ) (ms : Members) : Type 0 where
  pub entries_fit : All EntryFits entries
  pub levels_fit : All IsSmall levels
  pub same : (number : Num) → version_of (object ms) ≡ Some number
      → ms ≡ members_data (list_data entry_data entries) (list_data whole_data levels) number

-- members have no such entries and levels
abbrev pub IsNotShared : Members → Type 0
IsNotShared ms =
    (entries : List Entry) (levels : List ℕ) (number : Num) → version_of (object ms) ≡ Some number
    → All EntryFits entries → All IsSmall levels
    → ms ≢ members_data (list_data entry_data entries) (list_data whole_data levels) number

-- what is wrong with a JSON value: first its version, then the rest
abbrev pub IsFaultOf : Data → JsonFault → Type 0
IsFaultOf d NotJson = ⊥
IsFaultOf d WrongVersion = IsOtherVersion (version_of d)
IsFaultOf d WrongShape = ¬ IsOtherVersion (version_of d) × ((c : Certificate) → ¬ IsValueOf c d)
IsFaultOf d Memory = ⊥

-- what is wrong with bytes: they are no JSON text, or they are that of such a value
abbrev pub HasFault : List ℕ → JsonFault → Type 0
HasFault bytes NotJson = (d : Data) → ¬ ReadsAs bytes d
HasFault bytes WrongVersion = (d : Data) × ReadsAs bytes d × IsFaultOf d WrongVersion
HasFault bytes WrongShape = (d : Data) × ReadsAs bytes d × IsFaultOf d WrongShape
HasFault bytes Memory = ⊥

-- which fault a part that is not taken is of the whole
abbrev pub fault_of : Untaken → JsonFault
fault_of untaken.TheVariants.Misshapen = WrongShape
fault_of untaken.TheVariants.Memory = Memory

-- the answer, or want of memory in its place
abbrev pub Answers : Result Certificate JsonFault → Result Certificate JsonFault → Type 0
Answers given wanted = (given ≡ wanted) ⊎ (given ≡ Err Memory)
