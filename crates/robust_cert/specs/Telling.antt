-- What the entries tell of a question, and what that leaves.
use Rattle.std.specs.Prelude.{◌≡◌, ℕ, ◌<◌, List, [], ◌∷◌, Bool, true, false, ◌&&◌, ◌==◌, if◌then◌else◌, Some, slice_get}
use Rattle.prog_paths.specs.StaticGraph.{QuestionNumbers}
use Rattle.prog_paths.specs.declared.accesses.questions.Question.{Question}
use Rattle.prog_paths.specs.Questions.{numbers_of}
use Rattle.prog_paths.specs.Listing.{IsBefore}
use Rattle.prog_paths.specs.Marks.{mark_by}
use Rattle.robust_cert.specs.declared.entries.Reason.{Reason}
use Rattle.robust_cert.specs.declared.entries.Reason.TheVariants.{Apart, Cover}
use Rattle.robust_cert.specs.declared.checking.numbers.AskedNumbers.{AskedNumbers}
use Rattle.robust_cert.specs.declared.checking.telling.Telling.{Telling}
use Rattle.robust_cert.specs.declared.checking.telling.Telling as telling
use Rattle.prog_paths.specs.declared.accesses.mark.Mark.{Mark}
use Rattle.robust_cert.specs.Accepted.{question_of}
use Rattle.robust_cert.specs.Sharing.{Entry}

-- the question of four numbers
abbrev pub question_with : AskedNumbers → QuestionNumbers
question_with n = record { x = n.x; a = n.a; y = n.y; b = n.b }

-- two questions have the same numbers
abbrev pub is_same : QuestionNumbers → QuestionNumbers → Bool
is_same p q = p.x == q.x && (p.a == q.a && (p.y == q.y && p.b == q.b))

-- what a reason tells of its question
abbrev pub telling_with : Reason → Telling
telling_with (Apart chain) = telling.TheVariants.Apart
telling_with (Cover mine theirs chains) = telling.TheVariants.Cover

-- what the entries tell of a question
abbrev pub telling_of : List Entry → QuestionNumbers → Telling
telling_of [] q = telling.TheVariants.Nothing
telling_of (e ∷ rest) q = if is_same (question_of e) q then telling_with e.reason else telling_of rest q

-- the entries before this one stand before the question
abbrev pub IsBehind : List Entry → ℕ → QuestionNumbers → Type 0
IsBehind entries cursor q =
    (k : ℕ) (e : Entry) → k < cursor → slice_get entries k ≡ Some e → IsBefore (question_of e) q

-- ---- what a question gives

-- a question of which this is told may have its accesses meet
abbrev pub may_meet : Telling → Bool
may_meet telling.TheVariants.Nothing = true
may_meet telling.TheVariants.Apart = false
may_meet telling.TheVariants.Cover = true

-- a question of which this is told counts as exposed
abbrev pub may_be_exposed : Telling → Bool
may_be_exposed telling.TheVariants.Nothing = true
may_be_exposed telling.TheVariants.Apart = false
may_be_exposed telling.TheVariants.Cover = false

-- what a question gives of which this is told
abbrev pub mark_with : Question → Telling → Mark
mark_with q told = mark_by q (may_meet told) (may_be_exposed told)

-- what a question gives under these entries
abbrev pub mark_under : List Entry → Question → Mark
mark_under entries q = mark_with q (telling_of entries (numbers_of q))
