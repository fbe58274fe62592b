-- What a walk over chains keeps that gathers rows.
use Rattle.std.proofs.Common.{◌≡◌, ◌∙◌, ℤ, Bool, true, false, cond, [], ◌∷◌, refl, ap, sym, subst}
use Rattle.std.specs.Prelude.{Option, Some, None, unwrap_or}
use Rattle.std.specs.Cmp.{tied_itself}
use Rattle.std.specs.List.Sorted.{IsStrictlySortedBy}
use Rattle.std.specs.Ordering.{is_eq}
use Rattle.std.specs.Option.{option_or}
use Rattle.std.proofs.lemmas.Map.Keys.{sorted_tail}
use Rattle.prog_tree.specs.declared.cell.Cell.{Cell}
use Rattle.prog_tree.specs.Table.{cell_cmp, Cells, cells_of, at_cell, is_same_cell, TableState, IsTableState, row_at}
use Rattle.prog_tree.proofs.CellSets.{none-behind}
use Rattle.prog_tree.proofs.TableLemmas.{cell_total, at_cell-with_cell}
use Rattle.prog_tree.proofs.TableStates.{cell_is, IsTableState-nil, IsTableState-with_row}
use Rattle.version_store.specs.StandsFor.{VersionChain, no_chain}
use Rattle.version_store.specs.Reading.{AllRise, RisesFrom, chain_at}
use Rattle.version_store.specs.Regions.{with_found}

-- what is seen of a cell, with a chain or without one
abbrev pub seen_at : (Cell → VersionChain → Option ℤ) → Cell → Option VersionChain → Option ℤ
seen_at seen c None = None
seen_at seen c (Some chain) = seen c chain

-- with what is seen of the chains that are left, the rows are what they will be at the end
pub record Gathers (seen : Cell → VersionChain → Option ℤ) (chains left : Cells VersionChain) (rows : TableState) : Type 0 where
  pub sorted : IsStrictlySortedBy cell_cmp (cells_of left)
  pub within : (c : Cell) (chain : VersionChain) → at_cell left c ≡ Some chain → at_cell chains c ≡ Some chain
  pub ordered : IsTableState rows
  pub ends : (c : Cell) → option_or (seen_at seen c (at_cell left c)) (row_at rows c) ≡ seen_at seen c (at_cell chains c)

pub or_none : {A : Type 0} (o : Option A) → option_or o None ≡ o
or_none None = refl
or_none (Some x) = refl

-- ---- one more

row_at-with_found : (rows : TableState) (k : Cell) (o : Option ℤ) (c : Cell) → row_at (with_found rows k o) c ≡ cond (is_same_cell c k) (option_or o (row_at rows c)) (row_at rows c)
row_at-with_found rows k None c = elim (is_same_cell c k) as (λ b. row_at rows c ≡ cond b (row_at rows c) (row_at rows c)) [ true ↦ refl | false ↦ refl ]
row_at-with_found rows k (Some v) c = at_cell-with_cell rows k v c

ordered_with_found : (rows : TableState) (k : Cell) (o : Option ℤ) → IsTableState rows → IsTableState (with_found rows k o)
ordered_with_found rows k None h = h
ordered_with_found rows k (Some v) h = IsTableState-with_row rows k v h

pub gathers_more :
    (seen : Cell → VersionChain → Option ℤ) (chains left rest : Cells VersionChain) (k : Cell) (chain : VersionChain) (rows next : TableState) → AllRise chains →
    left ≡ (k, chain) ∷ rest → Gathers seen chains left rows → (RisesFrom 0 chain.versions → next ≡ with_found rows k (seen k chain)) →
    Gathers seen chains rest next
gathers_more seen chains left rest k chain rows next rise is so_far adds = record {
  sorted = sorted_tail cell_cmp k (cells_of rest) h.sorted;
  within = λ c x found. within (is_same_cell c k) c x refl found;
  ordered = subst (λ (m : TableState). IsTableState m) (sym added) (ordered_with_found rows k (seen k chain) h.ordered);
  ends = λ c. ap (λ m. option_or (seen_at seen c (at_cell rest c)) (row_at m c)) added ∙ turn c ∙ h.ends c;
}
  where
    h : Gathers seen chains ((k, chain) ∷ rest) rows
    h = subst (λ (es : Cells VersionChain). Gathers seen chains es rows) is so_far

    here : at_cell chains k ≡ Some chain
    here = h.within k chain (ap (λ b. cond b (Some chain) (at_cell rest k)) (ap is_eq (tied_itself cell_total k)))

    added : next ≡ with_found rows k (seen k chain)
    added = adds (subst (λ (o : Option VersionChain). RisesFrom 0 (unwrap_or o no_chain).versions) here (rise k))

    within : (b : Bool) (c : Cell) (x : VersionChain) → is_same_cell c k ≡ b → at_cell rest c ≡ Some x → at_cell chains c ≡ Some x
    within true c x same found = let none = none-behind k c rest h.sorted same in absurd (cc)
    within false c x apart found = h.within c x (ap (λ b. cond b (Some chain) (at_cell rest c)) apart ∙ found)

    turn : (c : Cell) → option_or (seen_at seen c (at_cell rest c)) (row_at (with_found rows k (seen k chain)) c) ≡ option_or (seen_at seen c (at_cell ((k, chain) ∷ rest) c)) (row_at rows c)
    turn c = ap (option_or (seen_at seen c (at_cell rest c))) (row_at-with_found rows k (seen k chain) c) ∙ go (is_same_cell c k) refl
      where
        go : (b : Bool) → is_same_cell c k ≡ b →
            option_or (seen_at seen c (at_cell rest c)) (cond b (option_or (seen k chain) (row_at rows c)) (row_at rows c))
            ≡ option_or (seen_at seen c (cond b (Some chain) (at_cell rest c))) (row_at rows c)
        go true same =
            ap (λ o. option_or (seen_at seen c o) (option_or (seen k chain) (row_at rows c))) (none-behind k c rest h.sorted same)
            ∙ ap (λ x. option_or (seen x chain) (row_at rows c)) (sym (cell_is c k same))
        go false apart = refl

-- ---- the end

pub gathered : (seen : Cell → VersionChain → Option ℤ) → ((c : Cell) → seen c no_chain ≡ None) → (chains left : Cells VersionChain) (rows : TableState) → left ≡ [] →
    Gathers seen chains left rows → (c : Cell) → row_at rows c ≡ seen c (chain_at chains c)
gathered seen unseen chains left rows none h c = ap (λ es. option_or (seen_at seen c (at_cell es c)) (row_at rows c)) (sym none) ∙ h.ends c ∙ go (at_cell chains c)
  where
    go : (o : Option VersionChain) → seen_at seen c o ≡ seen c (unwrap_or o no_chain)
    go None = sym (unseen c)
    go (Some chain) = refl

-- ---- all chains

pub gathers_all : (seen : Cell → VersionChain → Option ℤ) (chains : Cells VersionChain) → IsStrictlySortedBy cell_cmp (cells_of chains) → Gathers seen chains chains []
gathers_all seen chains sorted = record {
  sorted = sorted;
  within = λ c chain found. found;
  ordered = IsTableState-nil;
  ends = λ c. or_none (seen_at seen c (at_cell chains c));
}
