-- What is said of how a whole set is repaired.
use Rattle.std.specs.Prelude.{ℕ, ◌≡◌, ◌≢◌, ◌↔◌, Bool, true, false, List, [], codes, IsTrue}
use Rattle.prog_tree.specs.Syntax.{DraftTree}
use Rattle.repair_laws.specs.declared.plan.Pair.{Pair}
use Rattle.repair_laws.specs.Refusals.{StopsMaterialising, StopsPromotion}
use Rattle.si_repair.specs.Repairing.{StopsNowhere}

-- no pair of the plan stops a repair by new tables
abbrev pub IsRepairedByTables : DraftTree → List Pair → Type 0
IsRepairedByTables set plan = StopsNowhere (StopsMaterialising set plan) plan

-- no pair of the plan stops a repair by keeps behind looks
abbrev pub IsRepairedByKeeps : DraftTree → List Pair → Type 0
IsRepairedByKeeps set plan = StopsNowhere (StopsPromotion set plan) plan

abbrev pub untried_text : List ℕ
untried_text = codes "`sirob repair` does it, unless the set gets above a limit: by a row of a new table that both `keep`\n"

abbrev pub ways_text : (by_tables by_keeps : Bool) → List ℕ
ways_text true true =
    codes "`sirob repair` does it: by a row of a new table that both `keep`, or with `--promote` by a `keep` behind each look\n"
ways_text true false =
    codes "`sirob repair` does it, by a row of a new table that both `keep`; with `--promote` it would be refused\n"
ways_text false true = codes "`sirob repair --promote` does it, by a `keep` behind each look; with new tables the set gets above a limit\n"
ways_text false false =
    codes "`sirob repair` would be refused, since the set gets above a limit: have fewer programs, or merge some\n"

-- the text says which of both repairs carry the plan out; of an empty plan nothing is known
pub data IsWaysText (set : DraftTree) (plan : List Pair) (text : List ℕ) : Type 0 where
  Untried : plan ≡ [] → text ≡ untried_text → IsWaysText set plan text
  Tried : plan ≢ [] → (by_tables by_keeps : Bool) → (IsTrue by_tables ↔ IsRepairedByTables set plan)
      → (IsTrue by_keeps ↔ IsRepairedByKeeps set plan) → text ≡ ways_text by_tables by_keeps → IsWaysText set plan text
