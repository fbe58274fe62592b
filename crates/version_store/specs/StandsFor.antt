-- The histories that a store stands for.
use Rattle.std.specs.Prelude.{◌≡◌, ℕ, ◌+◌, ◌≤◌, ⊤, ℤ, List, [], ◌∷◌, ◌++◌, length, Option, Some, None, unwrap_or, if◌then◌else◌}
use Rattle.std.specs.List.{AllByRecursion, sum_by}
use Rattle.std.specs.List.Sorted.{IsStrictlySortedBy}
use Rattle.std.specs.Map.{values_of}
use Rattle.prog_tree.specs.declared.cell.Cell.{Cell}
use Rattle.prog_tree.specs.ChangeSet.{ChangeSet, change_at}
use Rattle.prog_tree.specs.Table.{cell_cmp, is_cell_among, Cells, cells_of, at_cell, TableState, IsTableState, row_at}
use Rattle.version_store.specs.Trimming.{shown, versions_kept, marks_kept, touches_above}
use Rattle.version_store.specs.Versions.{retained}

-- what a store keeps of a cell: its values and removals, each with the number of its commit, and the numbers of the
-- commits that keep it; both rise
pub record VersionChain : Type 0 where
  pub versions : List (ℕ × Option ℤ)
  pub marks : List ℕ

abbrev pub no_chain : VersionChain
no_chain = record { versions = []; marks = [] }

-- what contracts see of a store
pub record StoreView : Type 0 where
  pub chains : Cells VersionChain
  pub commits : ℕ
  pub floor : ℕ
  pub versions : ℕ
  -- which cells the commits above the floor touched, with the commits' numbers
  pub pending : List (ℕ × Cell)

-- the version that a commit of a number makes of a cell
abbrev pub version_by : ℕ → Option (Option ℤ) → List (ℕ × Option ℤ)
version_by n None = []
version_by n (Some change) = (n, change) ∷ []

-- the versions of a cell that commits make, where the first of them has the number n
abbrev pub changes_of : Cell → ℕ → List ChangeSet → List (ℕ × Option ℤ)
changes_of c n [] = []
changes_of c n (w ∷ ws) = version_by n (change_at w c) ++ changes_of c (n + 1) ws

-- the numbers of the commits that keep a cell, where the first of them has the number n
abbrev pub marks_of : Cell → ℕ → List ChangeSet → List ℕ
marks_of c n [] = []
marks_of c n (w ∷ ws) = if is_cell_among w.kept c then n ∷ marks_of c (n + 1) ws else marks_of c (n + 1) ws

-- all of a cell in a history, where an opening row is a version of number 0
abbrev pub chain_of : TableState → List ChangeSet → Cell → VersionChain
chain_of opening ws c = record { versions = shown 0 (row_at opening c) ++ changes_of c 1 ws; marks = marks_of c 1 ws }

-- what is kept at a cell holds something
abbrev pub HoldsSome : Option VersionChain → Type 0
HoldsSome None = ⊤
HoldsSome (Some chain) = chain ≡ no_chain → ⊥

-- each chain that is kept holds something: a cell without versions and marks has none
abbrev pub EachHolds : Cells VersionChain → Type 0
EachHolds chains = (c : Cell) → HoldsSome (at_cell chains c)

-- what a vacuum at f leaves of a chain
abbrev pub trimmed : (f : ℕ) → VersionChain → VersionChain
trimmed f chain = record { versions = versions_kept f [] chain.versions; marks = marks_kept f chain.marks }

-- how many versions the chains have together
abbrev pub size : Cells VersionChain → ℕ
size chains = sum_by (λ chain. length chain.versions) (values_of chains)

-- the changed cells of each commit rise strictly, so each stands once
abbrev pub AreCommits : List ChangeSet → Type 0
AreCommits ws = AllByRecursion (λ w. IsStrictlySortedBy cell_cmp (cells_of w.cells)) ws

-- a store has of each cell in this history what a vacuum at its floor leaves
pub record StandsFor (s : StoreView) (opening : TableState) (ws : List ChangeSet) : Type 0 where
  pub ordered : IsTableState opening
  pub each : AreCommits ws
  pub chains : (c : Cell) → unwrap_or (at_cell s.chains c) no_chain ≡ trimmed s.floor (chain_of opening ws c)
  pub holds : EachHolds s.chains
  pub pending : s.pending ≡ touches_above s.floor 1 ws
  pub commits : s.commits ≡ length ws
  pub floor : s.floor ≤ s.commits
  pub versions : s.versions ≡ length (retained opening ws s.floor)

-- something is so in each history that a store stands for
abbrev pub InEachHistory : StoreView → (TableState → List ChangeSet → Type 0) → Type 0
InEachHistory s P = (opening : TableState) (ws : List ChangeSet) → StandsFor s opening ws → P opening ws

-- a store stands for what another stood for
abbrev pub KeepsHistories : (old new : StoreView) → Type 0
KeepsHistories old new = InEachHistory old (λ opening ws. StandsFor new opening ws)
