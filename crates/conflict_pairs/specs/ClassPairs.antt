-- Pairs of classes of which one asks something of the other: for each the first access of the one and the last of the
-- other, which ask it if any two do.
use Rattle.std.specs.Prelude.{◌≡◌, ℕ, ◌<◌, ◌≤◌, ◌++◌, List, length, All, Contains, Some, slice_get, slice_index_or, true}
use Rattle.prog_check.specs.declared.path.Path.{Path}
use Rattle.prog_paths.specs.Questions.{asks}
use Rattle.prog_paths.specs.declared.accesses.places.Placed.{Placed}
use Rattle.conflict_pairs.specs.declared.classes.AccessClasses.{AccessClasses}
use Rattle.conflict_pairs.specs.declared.class_pairs.ClassPairs.{ClassPairs}
use Rattle.conflict_pairs.specs.declared.class_pairs.Row.{Row}
use Rattle.conflict_pairs.specs.declared.pairing.PlacePair.{PlacePair}
use Rattle.conflict_pairs.specs.Classes.{class_at}
use Rattle.conflict_pairs.specs.Pairing.{IsAskedBetween, place_at}

-- the place of a pair is one of a row
pub record IsInRow (row : Row) (j : ℕ) : Type 0 where
  pub behind : row.start ≤ j
  pub before : j < row.end

-- the pair at this place is one of two classes
pub record IsPairOf (k : AccessClasses) (pairs : List PlacePair) (c d j : ℕ) : Type 0 where
  pub pair : PlacePair
  pub at : slice_get pairs j ≡ Some pair
  pub first : class_at k pair.first ≡ c
  pub second : class_at k pair.second ≡ d

-- the row of a class
abbrev pub row_at : List Row → ℕ → Row
row_at rows c = slice_index_or rows c (record { start = 0; end = 0 })

-- the row of a class has a pair of it and another class
abbrev pub HasPairIn : AccessClasses → ClassPairs → (c d : ℕ) → Type 0
HasPairIn k ps c d = (j : ℕ) × IsInRow (row_at ps.rows.items c) j × IsPairOf k ps.pairs.items c d j

-- each pair is asked, and each row has pairs of its own class alone: one at least for each class of which its own asks
-- something
pub record AreClassPairs (paths : List Path) (k : AccessClasses) (ps : ClassPairs) : Type 0 where
  pub sized : length ps.rows.items ≡ length k.firsts.items
  pub ends : (c : ℕ) → (row_at ps.rows.items c).end ≤ length ps.pairs.items
  pub asked : All (IsAskedBetween paths k.places.items) ps.pairs.items
  pub own : (c j : ℕ) → IsInRow (row_at ps.rows.items c) j → (d : ℕ) × IsPairOf k ps.pairs.items c d j
  pub whole : (m n : ℕ) → m < length k.places.items → n < length k.places.items
      → asks (place_at k.places.items m) (place_at k.places.items n) ≡ true
      → HasPairIn k ps (class_at k m) (class_at k n)

-- ---- one row more

-- the places of some accesses, among them each that is the last of its class
pub record HaveLastPlaces (k : AccessClasses) (places : List Placed) : Type 0 where
  pub there : All (Contains k.places.items) places
  pub whole : (n : ℕ) → n < length k.places.items
      → slice_index_or k.lasts.items (class_at k n) 0 ≡ n → Contains places (place_at k.places.items n)

-- a pair of the access of a number, and of one of some others of which it asks something
pub record AsksOneOf (places : List Placed) (number : ℕ) (seconds : List Placed) (pair : PlacePair) : Type 0 where
  pub first : pair.first ≡ number
  pub within : pair.second < length places
  pub one : Contains seconds (place_at places pair.second)
  pub asks_it : asks (place_at places number) (place_at places pair.second) ≡ true

-- some pair of a row is with this access
pub record HasPairWith (places : List Placed) (row : List PlacePair) (second : Placed) : Type 0 where
  pub pair : PlacePair
  pub among : Contains row pair
  pub is : place_at places pair.second ≡ second

-- a row is added: a pair for each of some accesses of which the access of a number asks something
pub record AddsRow (places : List Placed) (number : ℕ) (seconds : List Placed) (old new : List PlacePair) : Type 0 where
  pub row : List PlacePair
  pub added : new ≡ old ++ row
  pub asked : All (AsksOneOf places number seconds) row
  pub whole : (second : Placed) → Contains seconds second → asks (place_at places number) second ≡ true
      → HasPairWith places row second
