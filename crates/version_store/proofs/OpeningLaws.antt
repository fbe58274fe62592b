-- The chains of opening rows, in a list and in the map that is built of it.
use Rattle.std.proofs.Common.{◌≡◌, ◌∙◌, ℤ, [], ◌∷◌, ◌++◌, refl, ap, sym, subst, append_assoc}
use Rattle.std.specs.Prelude.{Option, Some, None, option_map, unwrap_or}
use Rattle.std.specs.BTreeMap.{BTreeMap, IsFromIterResult}
use Rattle.std.specs.Cmp.{eq_by_cmp_equiv}
use Rattle.std.specs.List.{IsDistinct}
use Rattle.std.specs.Map.{keys_of}
use Rattle.std.specs.Ordering.{eq_by_cmp}
use Rattle.std.proofs.lemmas.Map.Keys.{IsDistinct-from_sorted}
use Rattle.std.proofs.lemmas.Map.Made.{update_all_none, lookup-map_values, keys_of-map_values}
use Rattle.prog_tree.specs.declared.cell.Cell.{Cell}
use Rattle.prog_tree.specs.Table.{cell_cmp, Cells, cells_of, at_cell, is_same_cell, row_at, TableState, IsTableState}
use Rattle.prog_tree.proofs.TableLemmas.{cell_total}
use Rattle.version_store.specs.declared.touches.Touch.TheVariants.{Change}
use Rattle.version_store.specs.Reading.{chain_at, opening_chain, opening_chains, with_opening_row}
use Rattle.version_store.specs.StandsFor.{VersionChain, no_chain, HoldsSome, EachHolds}
use Rattle.version_store.proofs.HoldLaws.{touch_holds}

-- the chain of one row more is in the list
pub row_more :
    (rows left rest : TableState) (done : Cells VersionChain) (k : Cell) (value : ℤ) (chain : VersionChain) → left ≡ (k, value) ∷ rest → chain ≡ opening_chain value →
    (done ++ opening_chains left) ≡ opening_chains rows → ((done ++ (k, chain) ∷ []) ++ opening_chains rest) ≡ opening_chains rows
row_more rows left rest done k value chain is made so_far =
    append_assoc done ((k, chain) ∷ []) (opening_chains rest)
    ∙ ap (λ (x : VersionChain). done ++ (k, x) ∷ opening_chains rest) made
    ∙ ap (λ (es : TableState). done ++ opening_chains es) (sym is)
    ∙ so_far

module _ (rows : TableState) (es : Cells VersionChain) (m : BTreeMap Cell VersionChain) (sorted : IsTableState rows) (is : es ≡ opening_chains rows) (made : IsFromIterResult cell_cmp es m) where
  distinct : IsDistinct (eq_by_cmp cell_cmp) (keys_of (opening_chains rows))
  distinct = subst (IsDistinct (eq_by_cmp cell_cmp)) (sym (keys_of-map_values opening_chain rows)) (IsDistinct-from_sorted cell_cmp (cells_of rows) sorted)

  -- the map has the chain of each row, and no other
  found : (c : Cell) → at_cell m.entries c ≡ option_map opening_chain (row_at rows c)
  found c =
      let built = subst (λ (xs : Cells VersionChain). IsFromIterResult cell_cmp xs m) is made in
      built.0 c
      ∙ update_all_none (eq_by_cmp_equiv cell_total) (eq_by_cmp cell_cmp) (λ _ _. refl) (opening_chains rows) c distinct
      ∙ lookup-map_values opening_chain (is_same_cell c) rows

  pub opened_rows : (c : Cell) → chain_at m.entries c ≡ with_opening_row (row_at rows c) no_chain
  opened_rows c = ap (λ o. unwrap_or o no_chain) (found c) ∙ go (row_at rows c)
    where
      go : (o : Option ℤ) → unwrap_or (option_map opening_chain o) no_chain ≡ with_opening_row o no_chain
      go None = refl
      go (Some value) = refl

  pub opened_hold : EachHolds m.entries
  opened_hold c = subst HoldsSome (sym (found c)) (go (row_at rows c))
    where
      go : (o : Option ℤ) → HoldsSome (option_map opening_chain o)
      go None = tt
      go (Some value) = touch_holds 0 (Change (Some value)) no_chain
