-- How many versions the chains have, once one of them is written or leaves.
use Rattle.std.proofs.Common.{◌≡◌, ◌∙◌, ℕ, ◌+◌, Bool, true, false, cond, length, refl, ap, sym, arith}
use Rattle.std.specs.Prelude.{Option, Some, None, option_map, unwrap_or}
use Rattle.std.specs.Map.{set_value, remove_entry}
use Rattle.std.proofs.lemmas.Map.Entries.{sum_by-set_value, sum_by-remove_entry}
use Rattle.prog_tree.specs.declared.cell.Cell.{Cell}
use Rattle.prog_tree.specs.Table.{Cells, at_cell, is_same_cell}
use Rattle.prog_tree.proofs.TableStates.{cell_is}
use Rattle.version_store.specs.Reading.{chain_at}
use Rattle.version_store.specs.StandsFor.{VersionChain, no_chain, size}

abbrev count_of : VersionChain → ℕ
count_of chain = length chain.versions

pub size_written : (m n : Cells VersionChain) (cell : Cell) (old new : VersionChain) (k : ℕ) → Some old ≡ at_cell m cell → n ≡ set_value (is_same_cell cell) m new →
    length new.versions + k ≡ length old.versions → size n + k ≡ size m
size_written m n cell old new k found is count =
    let sum : size (set_value (is_same_cell cell) m new) + length old.versions ≡ size m + length new.versions = sum_by-set_value count_of (is_same_cell cell) m old new (sym found) in
    let at : size n ≡ size (set_value (is_same_cell cell) m new) = ap size is in
    omega (arith, sum, at, count)

pub size_removed : (m n : Cells VersionChain) (cell : Cell) → chain_at m cell ≡ no_chain → n ≡ remove_entry (is_same_cell cell) m → size n ≡ size m
size_removed m n cell empty is =
    let sum : size (remove_entry (is_same_cell cell) m) + unwrap_or (option_map count_of (at_cell m cell)) 0 ≡ size m = sum_by-remove_entry count_of (is_same_cell cell) m in
    let at : size n ≡ size (remove_entry (is_same_cell cell) m) = ap size is in
    omega (arith, sum, none (at_cell m cell) empty, at)
  where
    none : (o : Option VersionChain) → unwrap_or o no_chain ≡ no_chain → unwrap_or (option_map count_of o) 0 ≡ 0
    none None empty = refl
    none (Some chain) empty = ap count_of empty

-- a chain with nothing in it may leave
pub empty_leaves : (m n : Cells VersionChain) (cell : Cell) → chain_at m cell ≡ no_chain →
    ((c : Cell) → at_cell n c ≡ cond (is_same_cell cell c) None (at_cell m c)) → (c : Cell) → chain_at n c ≡ chain_at m c
empty_leaves m n cell empty updates c = ap (λ o. unwrap_or o no_chain) (updates c) ∙ go (is_same_cell cell c) (λ same. cell_is cell c same)
  where
    go : (b : Bool) → (b ≡ true → cell ≡ c) → unwrap_or (cond b None (at_cell m c)) no_chain ≡ chain_at m c
    go true same = sym empty ∙ ap (chain_at m) (same refl)
    go false same = refl
