-- What a certificate tells of the entries of a table.
use Rattle.std.specs.Prelude.{◌≡◌, ℕ, List, [], ◌∷◌, length, All, if◌then◌else◌}
use Rattle.std.specs.List.{flat_map}
use Rattle.order_facts.specs.declared.steps.Node.{Node}
use Rattle.order_facts.specs.Chain.{IsTight}
use Rattle.prog_check.specs.declared.path.Path.{Path}
use Rattle.prog_paths.specs.Few.{AreFew}
use Rattle.prog_paths.specs.Listing.{IsAskedOf}
use Rattle.prog_paths.specs.Questions.{questions_of}
use Rattle.prog_paths.specs.declared.accesses.questions.Question.{Question as Asked}
use Rattle.conflict_pairs.specs.declared.verdicts.Verdict.{Verdict}
use Rattle.conflict_pairs.specs.declared.verdicts.Verdict.TheVariants.{Apart, Covered, Exposed}
use Rattle.conflict_pairs.specs.Interning.{AreInterned}
use Rattle.conflict_pairs.specs.Listed.{AreJudged}
use Rattle.conflict_pairs.specs.Table.{Judged}
use Rattle.conflict_pairs.specs.Verdicts.{is_exposed}
use Rattle.robust_cert.specs.declared.certificate.EntryQuestion.{EntryQuestion}
use Rattle.robust_cert.specs.declared.entries.Reason.{Reason}
use Rattle.robust_cert.specs.declared.entries.Reason as reason
use Rattle.robust_cert.specs.declared.entries.Told.{Told}
use Rattle.robust_cert.specs.Ranges.{IsSmall, IsOfSmall}
use Rattle.robust_cert.specs.Json.{QuestionFits}
use Rattle.robust_cert.specs.Sharing.{Entry, HasReason, entries_told, entry_with}
use Rattle.si_repair.specs.Findings.{AreCounted}

-- ---- entries

-- a question's four numbers
abbrev pub told_question : Asked → EntryQuestion
told_question q = record { x = q.x; a = q.a; y = q.y; b = q.b }

-- the reason that a verdict gives; what stands for that of an exposed question is never told
abbrev pub reason_of : Verdict → Reason
reason_of (Apart chain) = reason.TheVariants.Apart chain
reason_of (Covered m t chains) = reason.TheVariants.Cover m t chains
reason_of (Exposed sample) = reason.TheVariants.Cover 0 0 []

-- what is told of a question with its verdict: nothing where it is exposed
abbrev pub told_by : Asked → Verdict → List Entry
told_by q v = if is_exposed v then [] else entry_with (told_question q) (reason_of v) ∷ []

-- what is told of the entries of a table, in order
abbrev pub told_of : List Judged → List Entry
told_of = flat_map (λ e. told_by e.question e.verdict)

-- ---- entries that share their reasons

-- a verdict gives a reason
abbrev pub Gives : Verdict → Reason → Type 0
Gives verdict reason = reason ≡ reason_of verdict

-- reasons, and for each verdict the number of the one that it gives
abbrev pub AreGiven : List Verdict → List Reason → List ℕ → Type 0
AreGiven = AreInterned (λ reason. Unit {0}) Gives

-- what is told of a question with its verdict, by the number of its reason
abbrev pub told_numbered : Asked → Verdict → ℕ → List Told
told_numbered q v n = if is_exposed v then [] else record { question = told_question q; reason = n } ∷ []

-- what is told of some questions with right verdicts on them, by the numbers of reasons
pub record IsToldOf (paths : List Path) (reasons : List Reason) (qs : List Asked) (told : List Told) : Type 0 where
  pub judged : List Judged
  pub are : AreJudged paths judged qs
  pub is : entries_told reasons told ≡ told_of judged
  pub within : All (HasReason reasons) told

-- these entries are what is told of all questions of the paths
pub record AreEntriesOf (paths : List Path) (entries : List Entry) : Type 0 where
  pub judged : List Judged
  pub are : AreJudged paths judged (questions_of paths)
  pub is : entries ≡ told_of judged

-- ---- levels

-- a level for each node, which counts the nodes that lead to it
pub record AreLevels (paths : List Path) (levels : List ℕ) : Type 0 where
  pub one_each : length levels ≡ length paths
  pub counted : AreCounted paths levels

-- ---- numbers

-- questions of few paths, so that their numbers are small
pub record AreOfFew (entries : List Judged) : Type 0 where
  pub paths : List Path
  pub few : AreFew paths
  pub asked : All (λ e. IsAskedOf paths e.question) entries

-- the numbers of a question are small
abbrev pub AskedFits : Asked → Type 0
AskedFits q = QuestionFits (told_question q)

-- those of a chain from which no node could be left out are
abbrev pub TightFits : List Node → Type 0
TightFits chain = IsTight chain → All IsOfSmall chain

-- and those of a verdict
abbrev pub VerdictFits : Verdict → Type 0
VerdictFits (Apart chain) = TightFits chain
VerdictFits (Covered m t chains) = IsSmall m × IsSmall t × All TightFits chains
VerdictFits (Exposed sample) = Unit {0}
