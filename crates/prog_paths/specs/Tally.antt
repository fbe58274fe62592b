-- How many accesses a table has, and how many questions they ask.
use Rattle.std.specs.Prelude.{◌≡◌, ℕ, ◌<◌, ⊤, ◌+◌, List, Option, Some, None, All, Bool, true, false, ◌&&◌, ◌==◌, nat_lt, min, length}
use Rattle.std.specs.List.{filter, count_by}
use Rattle.prog_check.specs.declared.path.Kind.{Kind}
use Rattle.prog_check.specs.declared.path.Kind.TheVariants.{Reads, Sees, Lacks, Writes, Adds}
use Rattle.prog_paths.specs.declared.accesses.places.Placed.{Placed}
use Rattle.prog_paths.specs.declared.accesses.tally.AccessTally.{AccessTally}
use Rattle.prog_paths.specs.Questions.{is_in_order, asked_among}
use Rattle.prog_paths.specs.Limits.{most_questions}

abbrev pub is_read : Kind → Bool
is_read Reads = true
is_read _ = false

-- it sees a row or lacks one
abbrev pub is_look : Kind → Bool
is_look Sees = true
is_look Lacks = true
is_look _ = false

abbrev pub is_write : Kind → Bool
is_write Writes = true
is_write _ = false

abbrev pub is_add : Kind → Bool
is_add Adds = true
is_add _ = false

-- the accesses of a table
abbrev pub of_table : ℕ → List Placed → List Placed
of_table table places = filter (λ p. p.access.table == table) places

-- how many accesses of a table have such a kind
abbrev pub count_of : (Kind → Bool) → ℕ → List Placed → ℕ
count_of kinds table places = count_by (λ p. (p.access.table == table) && kinds p.access.kind) places

-- a number, no further than one above the limit
abbrev pub capped : ℕ → ℕ
capped n = min n (most_questions + 1)

-- a tally counts the accesses of a table and the questions that they ask
pub record IsTally (table : ℕ) (places : List Placed) (tally : AccessTally) : Type 0 where
  pub reads : tally.reads ≡ capped (count_of is_read table places)
  pub looks : tally.looks ≡ capped (count_of is_look table places)
  pub writes : tally.writes ≡ capped (count_of is_write table places)
  pub adds : tally.adds ≡ capped (count_of is_add table places)
  pub questions : tally.questions ≡ capped (length (asked_among (of_table table places) places))

-- an access stands behind each of some
abbrev pub StandsBehind : Placed → List Placed → Type 0
StandsBehind p places = All (λ q. (is_in_order q p ≡ true) × (is_in_order p q ≡ false)) places

-- ---- tables, one after another

-- a table is greater than the last one, if there is a last one
abbrev pub is_behind : Option ℕ → ℕ → Bool
is_behind None table = true
is_behind (Some last) table = nat_lt last table

-- a table is less than the next one, if there is a next one
abbrev pub is_before : Option ℕ → ℕ → Bool
is_before None table = true
is_before (Some next) table = nat_lt table next

-- the next table is greater than the last one
abbrev pub NextIsGreater : Option ℕ → Option ℕ → Type 0
NextIsGreater (Some last) (Some next) = last < next
NextIsGreater _ _ = ⊤
