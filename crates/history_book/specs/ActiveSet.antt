-- The active instances by their starts.
use Rattle.std.specs.Prelude.{◌≡◌, ℕ, ◌≤◌, nat_lt, Bool, true, false, ◌&&◌, if◌then◌else◌, is_some, List}
use Rattle.std.specs.BTreeMap.{is_at}
use Rattle.std.specs.BTreeSet.{BTreeSet, contains}
use Rattle.std.specs.List.Sorted.{IsStrictlySortedBy}
use Rattle.std.specs.Map.{keys_of, lookup}
use Rattle.std.specs.Ordering.{nat_cmp, ordering_then}
use Rattle.std.specs.declared.cmp.Ordering.{Ordering}
use Rattle.history_book.specs.History.{Instance}
use Rattle.history_book.specs.View.{with_start}
use Rattle.history_book.specs.declared.instances.active_set.InstanceStart.{InstanceStart}

-- the order of starts: by start, then by number
abbrev pub instance_start_cmp : InstanceStart → InstanceStart → Ordering
instance_start_cmp a b = ordering_then (nat_cmp a.start b.start) (nat_cmp a.number b.number)

-- the instance of this number is active, and has this start
abbrev pub is_start_of : List (ℕ × Instance) → InstanceStart → Bool
is_start_of active b = is_some (with_start b.start (lookup (is_at (nat_cmp b.number)) active))

-- the active instances are in the order of their numbers; a set has starts of some: those that began out of turn; of
-- the others none has an older start than one of a lesser number; no start is above the newest
pub record AreInTurn (active : List (ℕ × Instance)) (others : BTreeSet InstanceStart) (newest : ℕ) : Type 0
  where
    pub ordered : IsStrictlySortedBy nat_cmp (keys_of active)
    pub among : (b : InstanceStart) → contains instance_start_cmp others b ≡ true → is_start_of active b ≡ true
    pub in_turn :
        (a b : InstanceStart) → is_start_of active a ≡ true → is_start_of active b ≡ true → a.number ≤ b.number →
        contains instance_start_cmp others b ≡ false → a.start ≤ b.start
    pub within : (b : InstanceStart) → is_start_of active b ≡ true → b.start ≤ newest

-- a set has this start besides what it had, or it has not, and then the start is as new as the newest
abbrev pub IsNoted : (newest : ℕ) → InstanceStart → (old new : BTreeSet InstanceStart) → Type 0
IsNoted newest start old new =
    (q : InstanceStart) → contains instance_start_cmp new q
    ≡ (if nat_lt start.start newest && is_at (instance_start_cmp start) q then true else contains instance_start_cmp old q)
