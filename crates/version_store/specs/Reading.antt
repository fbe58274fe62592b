-- What is read from the chains of cells, and what commits add to them.
use Rattle.std.specs.Prelude.{◌≡◌, ℕ, ◌+◌, ◌≤◌, ⊤, ℤ, max, nat_lt, leb, Bool, true, false, List, [], ◌∷◌, ◌++◌, filter, map, Option, Some, None, ◌⊎◌, unwrap_or, if◌then◌else◌}
use Rattle.std.specs.List.Sorted.{IsPartitionPoint}
use Rattle.prog_tree.specs.declared.cell.Cell.{Cell}
use Rattle.prog_tree.specs.ChangeSet.{ChangeSet, change_at, touches_cell}
use Rattle.prog_tree.specs.Table.{Cells, TableState, at_cell, is_same_cell, is_cell_among}
use Rattle.version_store.specs.StandsFor.{VersionChain, no_chain, HoldsSome, trimmed}

-- the chain of a cell; a cell without a chain has an empty one
abbrev pub chain_at : Cells VersionChain → Cell → VersionChain
chain_at chains c = unwrap_or (at_cell chains c) no_chain

-- each one's number is above the one before it, and the first is at least n
abbrev pub RisesBy : {A : Type 0} → (A → ℕ) → ℕ → List A → Type 0
RisesBy number n [] = ⊤
RisesBy number n (x ∷ xs) = (n ≤ number x) × RisesBy number (number x + 1) xs

-- the numbers of the first `count` are at most n, and the others above
abbrev pub IsNumberCut : {A : Type 0} → (A → ℕ) → (n : ℕ) → List A → (count : ℕ) → Type 0
IsNumberCut number n xs count = IsPartitionPoint (λ x. leb (number x) n ≡ true) (λ x. leb (number x) n ≡ false) xs count

-- the number of a version
abbrev pub version_number : ℕ × Option ℤ → ℕ
version_number v = v.0

-- the numbers of versions rise, and the first is at least n
abbrev pub RisesFrom : ℕ → List (ℕ × Option ℤ) → Type 0
RisesFrom n vs = RisesBy version_number n vs

-- the versions of each cell rise
abbrev pub AllRise : Cells VersionChain → Type 0
AllRise chains = (c : Cell) → RisesFrom 0 (chain_at chains c).versions

-- the first `count` versions are at most n, and the others above
abbrev pub IsCutAt : (n : ℕ) → List (ℕ × Option ℤ) → (count : ℕ) → Type 0
IsCutAt n vs count = IsNumberCut version_number n vs count

-- what a cell holds after the versions that are at most n, where it held something before them
abbrev pub value_after : ℕ → Option ℤ → List (ℕ × Option ℤ) → Option ℤ
value_after n before [] = before
value_after n before (v ∷ vs) = value_after n (if leb v.0 n then v.1 else before) vs

-- what the cell of a chain held after the first n commits
abbrev pub value_at : ℕ → VersionChain → Option ℤ
value_at n chain = value_after n None chain.versions

-- the numbers of versions
abbrev pub version_numbers : List (ℕ × Option ℤ) → List ℕ
version_numbers vs = map (λ v. v.0) vs

-- the last of some numbers, where there was one before them
abbrev pub last_number_or : (before : ℕ) → List ℕ → ℕ
last_number_or before [] = before
last_number_or before (n ∷ ns) = last_number_or n ns

-- the greatest number in a chain, or 0
abbrev pub last_number : VersionChain → ℕ
last_number chain = max (last_number_or 0 (version_numbers chain.versions)) (last_number_or 0 chain.marks)

abbrev pub with_version : ℕ → Option ℤ → VersionChain → VersionChain
with_version n value chain = record chain { versions = chain.versions ++ (n, value) ∷ [] }

abbrev pub with_mark : ℕ → VersionChain → VersionChain
with_mark n chain = record chain { marks = chain.marks ++ n ∷ [] }

-- a chain with what a map has at its cell put in
abbrev pub with_entry : {A : Type 0} → (A → VersionChain → VersionChain) → Option A → VersionChain → VersionChain
with_entry f None chain = chain
with_entry f (Some entry) chain = f entry chain

-- a chain with the version of an opening row
abbrev pub with_opening_row : Option ℤ → VersionChain → VersionChain
with_opening_row = with_entry (λ value. with_version 0 (Some value))

-- the chain of an opening row
abbrev pub opening_chain : ℤ → VersionChain
opening_chain value = with_version 0 (Some value) no_chain

-- opening rows with their chains in place of their values
abbrev pub opening_chains : TableState → Cells VersionChain
opening_chains = map (λ (row : Cell × ℤ). (row.0, opening_chain row.1))

-- a chain with the version of a commit that changes its cell
abbrev pub with_change_by : ℕ → Option (Option ℤ) → VersionChain → VersionChain
with_change_by n = with_entry (with_version n)

-- a chain with the mark of a commit that keeps its cell
abbrev pub with_mark_by : ℕ → Bool → VersionChain → VersionChain
with_mark_by n kept chain = if kept then with_mark n chain else chain

-- a chain with what a commit of a number does to its cell
abbrev pub with_commit : ℕ → ChangeSet → Cell → VersionChain → VersionChain
with_commit n w c chain = with_mark_by n (is_cell_among w.kept c) (with_change_by n (change_at w c) chain)

-- a chain without what has the number n or a greater one
abbrev pub cut_from : ℕ → VersionChain → VersionChain
cut_from n chain = record {
  versions = filter (λ v. nat_lt v.0 n) chain.versions;
  marks = filter (λ m. nat_lt m n) chain.marks;
}

-- all numbers of a chain are below n
abbrev pub IsBelow : ℕ → VersionChain → Type 0
IsBelow n chain = cut_from n chain ≡ chain

-- so is each chain
abbrev pub AreBelow : ℕ → Cells VersionChain → Type 0
AreBelow n chains = (c : Cell) → IsBelow n (chain_at chains c)

-- at each cell nothing has changed below the number, and nothing at all where the changes don't touch it
abbrev pub IsGrown : ℕ → ChangeSet → Cells VersionChain → Cells VersionChain → Type 0
IsGrown n w before after =
    (c : Cell) → (cut_from n (chain_at after c) ≡ cut_from n (chain_at before c))
    × (touches_cell w c ≡ false → chain_at after c ≡ chain_at before c)

-- the chain of a cell is what f makes of it, and the others are the same
abbrev pub MakesAt : Cell → (VersionChain → VersionChain) → Cells VersionChain → Cells VersionChain → Type 0
MakesAt cell f before after =
    (c : Cell) → chain_at after c ≡ if is_same_cell cell c then f (chain_at before c) else chain_at before c

-- the same for each cell that a commit touches
abbrev pub MakesTouched : ChangeSet → (VersionChain → VersionChain) → Cells VersionChain → Cells VersionChain → Type 0
MakesTouched w f before after =
    (c : Cell) → chain_at after c ≡ if touches_cell w c then f (chain_at before c) else chain_at before c

-- each chain is what f makes of it at its cell
abbrev pub MakesEach : (Cell → VersionChain → VersionChain) → Cells VersionChain → Cells VersionChain → Type 0
MakesEach f before after = (c : Cell) → chain_at after c ≡ f c (chain_at before c)

-- each chain is trimmed, where those of other cells than these have nothing to drop
abbrev pub TrimsAll : (f : ℕ) → List Cell → Cells VersionChain → Cells VersionChain → Type 0
TrimsAll f cells before after =
    ((c : Cell) → is_cell_among cells c ≡ false → trimmed f (chain_at before c) ≡ chain_at before c) → MakesEach (λ c. trimmed f) before after

-- a chain is as it was, or trimmed
abbrev pub MayBeTrimmed : (f : ℕ) → (before after : VersionChain) → Type 0
MayBeTrimmed f before after = (after ≡ before) ⊎ (after ≡ trimmed f before)

-- so is each one
abbrev pub MayTrim : (f : ℕ) → Cells VersionChain → Cells VersionChain → Type 0
MayTrim f before after = (c : Cell) → MayBeTrimmed f (chain_at before c) (chain_at after c)

-- where all numbers were below n, each chain is the same
abbrev pub KeepsBelow : ℕ → Cells VersionChain → Cells VersionChain → Type 0
KeepsBelow n before after = (c : Cell) → IsBelow n (chain_at before c) → chain_at after c ≡ chain_at before c

-- each chain that is kept holds something, but for that of one cell
abbrev pub OthersHold : Cell → Cells VersionChain → Type 0
OthersHold cell chains = (c : Cell) → is_same_cell cell c ≡ false → HoldsSome (at_cell chains c)

-- the greatest number in the chain of a cell, or 0
abbrev pub number_at : Cells VersionChain → Cell → ℕ
number_at chains c = last_number (chain_at chains c)
