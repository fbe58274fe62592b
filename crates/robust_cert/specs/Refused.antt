-- The first fault of a certificate that is not accepted.
use Rattle.std.specs.Prelude.{◌≡◌, ℕ, ◌<◌, ◌≤◌, ◌+◌, List, length, map, All, take, Some, slice_get}
use Rattle.prog_check.specs.declared.path.Path.{Path}
use Rattle.prog_paths.specs.Questions.{IsQuestion, questions_of}
use Rattle.prog_paths.specs.Limits.{most_questions}
use Rattle.prog_paths.specs.Listing.{IsBefore, RiseBy}
use Rattle.robust_cert.specs.declared.certificate.Certificate.{Certificate}
use Rattle.robust_cert.specs.declared.fault.CertFault.{CertFault}
use Rattle.robust_cert.specs.declared.fault.CertFault.TheVariants.{TooLarge, PathCount, NoSuchEntry, EntryOrder, BadChain, BadCover, LevelFalls, Dangerous, Memory}
use Rattle.robust_cert.specs.Accepted.{question_of, body_size, IsFitting, ChainsHold, Holds, IsLeft, IsLeftVulnerable, level_of}
use Rattle.robust_cert.specs.Levels.{IsLevelFault}
use Rattle.robust_cert.specs.Sharing.{Entry}

-- ---- the whole, in the order in which it is looked at

-- neither too many questions, nor a wrong number of levels, nor other accesses in bodies
pub record IsOfSize (nodes : List Path) (c : Certificate) : Type 0 where
  pub few : length (questions_of nodes) ≤ most_questions
  pub levels : length c.levels ≡ length nodes
  pub bodies : c.bodies ≡ map body_size nodes

-- the first entries, so many of them, rise and hold
pub record StandTo (nodes : List Path) (c : Certificate) (k : ℕ) : Type 0 where
  pub size : IsOfSize nodes c
  pub rising : RiseBy question_of (take k c.entries)
  pub holds : All (Holds nodes) (take k c.entries)

-- the entry of a number stands, as those before it do
pub record IsAtFault (nodes : List Path) (c : Certificate) (k : ℕ) (e : Entry) : Type 0 where
  pub before : StandTo nodes c k
  pub at : slice_get c.entries k ≡ Some e

-- the question of the entry stands behind that of the entry before it
abbrev pub IsBehindLast : List Entry → ℕ → Entry → Type 0
IsBehindLast entries k e =
    (j : ℕ) (last : Entry) → j + 1 ≡ k → slice_get entries j ≡ Some last
    → IsBefore (question_of last) (question_of e)

-- ---- what is wrong with an entry: first its question, then its place, then its cover, then its chains

-- it is about no question
abbrev pub IsNoQuestion : List Path → Entry → Type 0
IsNoQuestion nodes e = ¬ IsQuestion nodes (question_of e)

-- it is about a question, and not behind the last
abbrev pub IsOutOfOrder : List Path → List Entry → ℕ → Entry → Type 0
IsOutOfOrder nodes entries k e = IsQuestion nodes (question_of e) × ¬ IsBehindLast entries k e

-- it stands where it may, and names no two accesses that may cover with so many chains
abbrev pub HasBadCover : List Path → List Entry → ℕ → Entry → Type 0
HasBadCover nodes entries k e =
    IsQuestion nodes (question_of e) × IsBehindLast entries k e × ¬ IsFitting nodes e

-- it names such two, and its chains don't show what they have to
abbrev pub HasBadChain : List Path → List Entry → ℕ → Entry → Type 0
HasBadChain nodes entries k e =
    IsQuestion nodes (question_of e) × IsBehindLast entries k e × IsFitting nodes e × ¬ ChainsHold nodes e

-- ---- what is wrong with the levels

-- over the edges that are left
abbrev pub HasLevelFault : List Path → Certificate → CertFault → Type 0
HasLevelFault nodes c = IsLevelFault (IsLeft nodes c.entries) (IsLeftVulnerable nodes c.entries) (level_of c)

-- ---- the fault

-- the first fault, each with all that comes before it in order
abbrev pub IsFirstFault : List Path → Certificate → CertFault → Type 0
IsFirstFault nodes c TooLarge = most_questions < length (questions_of nodes)
IsFirstFault nodes c PathCount =
    (length (questions_of nodes) ≤ most_questions)
    × ((length c.levels ≡ length nodes) × (c.bodies ≡ map body_size nodes) → ⊥)
IsFirstFault nodes c (NoSuchEntry k) = (e : Entry) × IsAtFault nodes c k e × IsNoQuestion nodes e
IsFirstFault nodes c (EntryOrder k) = (e : Entry) × IsAtFault nodes c k e × IsOutOfOrder nodes c.entries k e
IsFirstFault nodes c (BadCover k) = (e : Entry) × IsAtFault nodes c k e × HasBadCover nodes c.entries k e
IsFirstFault nodes c (BadChain k) = (e : Entry) × IsAtFault nodes c k e × HasBadChain nodes c.entries k e
IsFirstFault nodes c (LevelFalls x y) =
    StandTo nodes c (length c.entries) × HasLevelFault nodes c (LevelFalls x y)
IsFirstFault nodes c (Dangerous x y z) =
    StandTo nodes c (length c.entries) × HasLevelFault nodes c (Dangerous x y z)
IsFirstFault nodes c Memory = Unit {0}
