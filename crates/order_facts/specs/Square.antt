-- Square tables of which node is joined to which.
use Rattle.std.specs.Prelude.{◌≡◌, ℕ, ◌<◌, ◌+◌, ◌*◌, ◌||◌, ◌&&◌, List, Bool, true, false, slice_index_or}
use Rattle.order_facts.specs.Sets.{is_in}

-- so many nodes, and for each two of them whether the first is joined to the second, row by row
pub record Grid : Type 0 where
  pub size : ℕ
  pub entries : List Bool

-- the entry in the row of one node and the column of another
abbrev pub entry : Grid → ℕ → ℕ → Bool
entry s from to = slice_index_or s.entries (from * s.size + to) false

-- the table joins the first of two of its nodes to the second
pub record Joins (s : Grid) (from to : ℕ) : Type 0 where
  pub from_inside : from < s.size
  pub to_inside : to < s.size
  pub joined : entry s from to ≡ true

-- a table of so many nodes that joins just those of which a test is true
pub record IsSquareOf (s : Grid) (size : ℕ) (test : ℕ → ℕ → Bool) : Type 0 where
  pub size_is : s.size ≡ size
  pub entries : (i j : ℕ) → i < size → j < size → entry s i j ≡ test i j

-- one that joins none of them
abbrev pub IsEmptySquare : Grid → (size : ℕ) → Type 0
IsEmptySquare s size = IsSquareOf s size (λ i j. false)

-- the new table joins what the old one joins, and those of which a test is true
pub record Enters (old new : Grid) (test : ℕ → ℕ → Bool) : Type 0 where
  pub size : new.size ≡ old.size
  pub entries : (i j : ℕ) → i < old.size → j < old.size → entry new i j ≡ (entry old i j || test i j)

-- whatever is joined to `through` is joined to what that is joined to
abbrev pub JoinsThrough : (old new : Grid) → (through : ℕ) → Type 0
JoinsThrough old new through = Enters old new (λ i j. entry old i through && entry old through j)

-- one entry is true, and the others are as they were
pub record RaisesEntry (old new : Grid) (from to : ℕ) : Type 0 where
  pub size : new.size ≡ old.size
  pub here : entry new from to ≡ true
  pub others : (i j : ℕ) → i < old.size → j < old.size → ¬ ((i ≡ from) × (j ≡ to)) → entry new i j ≡ entry old i j

-- one row joins what a test tells too, and the other rows are as they were
pub record JoinsBy (old new : Grid) (row : ℕ) (test : ℕ → Bool) : Type 0 where
  pub size : new.size ≡ old.size
  pub here : (j : ℕ) → j < old.size → entry new row j ≡ (entry old row j || test j)
  pub others : (i j : ℕ) → i < old.size → j < old.size → ¬ (i ≡ row) → entry new i j ≡ entry old i j

-- what row `through` joins
abbrev pub JoinsRow : (old new : Grid) → (row through : ℕ) → Type 0
JoinsRow old new row through = JoinsBy old new row (λ j. entry old through j)

-- the nodes of a set
abbrev pub JoinsSet : (old new : Grid) → (row : ℕ) → (members : List Bool) → Type 0
JoinsSet old new row members = JoinsBy old new row (λ j. is_in members j)
