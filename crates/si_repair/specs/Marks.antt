-- The statements behind which a cell is to be kept.
use Rattle.std.specs.Prelude.{ℕ, ◌&&◌, ◌==◌, Bool, List, Option, Some, None, slice_get}
use Rattle.std.specs.List.{list_any}
use Rattle.prog_check.specs.declared.path.Access.{Access}
use Rattle.prog_check.specs.declared.path.Path.{Path}
use Rattle.prog_paths.specs.declared.accesses.questions.Question.{Question}
use Rattle.repair_laws.specs.declared.plan.Pair.{Pair}
use Rattle.si_repair.specs.declared.repairs.marks.MarkedStatement.{MarkedStatement}

-- a mark is of the statement of this number in this program
abbrev pub is_at : (program number : ℕ) → MarkedStatement → Bool
is_at program number mark = (mark.program == program) && (mark.number == number)

-- some mark is
abbrev pub is_marked : List MarkedStatement → (program number : ℕ) → Bool
is_marked marks program number = list_any (is_at program number) marks

-- ---- reads

abbrev pub access_on : Option Path → ℕ → Option Access
access_on None a = None
access_on (Some path) a = slice_get path.accesses a

abbrev pub place_in : Option Access → ℕ
place_in None = 0
place_in (Some access) = access.place

-- the number of the statement whose access asks a question
abbrev pub place_of : List Path → Question → ℕ
place_of nodes q = place_in (access_on (slice_get nodes q.x) q.a)

-- a question of a pair is asked by the statement of this number in this program
abbrev pub reads_at : List Path → Pair → (program number : ℕ) → Question → Bool
reads_at nodes pair program number q = (pair.from == program) && (place_of nodes q == number)
