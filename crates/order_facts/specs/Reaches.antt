-- Which node the facts put below which, by recursion on the facts, and how a table keeps it.
use Rattle.std.specs.Prelude.{◌≡◌, ◌≤ℤ◌, ℕ, List, [], ◌∷◌, Bool, true, false, ◌<◌, ◌⊎◌, length, ◌||◌, ◌&&◌, ◌==◌, slice_index_or}
use lib.Signed.{le_z}
use Rattle.order_facts.specs.declared.steps.Node.{Node}
use Rattle.order_facts.specs.declared.steps.Node.TheVariants.{Mine, MineUnknown, Theirs, TheirsUnknown}
use Rattle.order_facts.specs.declared.steps.Fact.{Fact}
use Rattle.order_facts.specs.Chain.{floor_of, ceiling_of}

-- two parameters or unknowns that are one
abbrev pub is_same_unknown : Node → Node → Bool
is_same_unknown (Mine i) (Mine j) = i == j
is_same_unknown (MineUnknown i) (MineUnknown j) = i == j
is_same_unknown (Theirs i) (Theirs j) = i == j
is_same_unknown (TheirsUnknown i) (TheirsUnknown j) = i == j
is_same_unknown _ _ = false

-- `x` is `y`, or at most `y` whatever they are
unfoldable pub is_below : Node → Node → Bool
is_below x y = is_same_unknown x y || le_z (ceiling_of x) (floor_of y)

-- the facts put `x` below `y`: one more fact joins what is below its lower node to what its upper node is below
unfoldable pub reaches : List Fact → Node → Node → Bool
reaches [] x y = is_below x y
reaches (f ∷ fs) x y = reaches fs x y || (reaches fs x f.lo && reaches fs f.hi y)

-- the fact at a place
abbrev pub fact_at : List Fact → ℕ → Fact
fact_at facts i = slice_index_or facts i (record { lo = Mine 0; hi = Mine 0 })

-- the fact at `from` leads to no fact whose upper node is surely less than its lower one
abbrev pub HasOrderlyRow : List Fact → ℕ → Type 0
HasOrderlyRow facts from =
    (to : ℕ) → to < length facts → (to ≡ from)
    ⊎ (reaches facts (fact_at facts from).hi (fact_at facts to).lo ≡ true)
    → floor_of (fact_at facts from).lo ≤ℤ ceiling_of (fact_at facts to).hi
