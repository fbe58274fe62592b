-- Pairs of a region's readers.
use Rattle.std.proofs.Common.{◌≡◌, ◌∙◌, ℕ, Bool, true, false, cond, ◌&&◌, not, if◌then◌else◌, List, [], ◌∷◌, ◌++◌, refl, ap, sym, subst}
use Rattle.std.specs.Prelude.{filter, All, Some}
use Rattle.std.proofs.lemmas.List.Elements.{All-head, All-tail, All-filter}
use Rattle.prog_tree.specs.declared.cell.Cell.{Cell}
use Rattle.prog_tree.specs.declared.cell.Region.{Region}
use Rattle.prog_tree.specs.Table.{Cells, is_in, is_cell_among}
use Rattle.prog_tree.specs.Corners.{is_between, AreCorners}
use Rattle.serial_orders.specs.Reduced.{Pairs, AddsPairs, RiseFrom, AreWithin, AllRiseWithin, successive_pairs, writers_pairs, reader_pairs, region_pairs}
use Rattle.serial_orders.specs.Traces.{takes_in}
use Rattle.serial_orders.specs.declared.trace.Sight.TheVariants as sight
use Rattle.serial_orders.proofs.PairLaws.{Walk, walk_begins, walk_on}

abbrev pub Both : (rest all : Pairs) (old now : List (List ℕ)) (n : ℕ) (left : Cells (List ℕ)) → Type 0
Both rest all old now n left = Walk rest all old now × AllRiseWithin n left

module _ (old : List (List ℕ)) (n : ℕ) where
  pub entry_first : (left rest : Cells (List ℕ)) (k : Cell) (ws : List ℕ) → left ≡ (k, ws) ∷ rest → AllRiseWithin n left → (RiseFrom 0 ws × AreWithin n ws) × AllRiseWithin n rest
  entry_first left rest k ws is all =
      let P : Cell × List ℕ → Type 0 = λ e. RiseFrom 0 e.1 × AreWithin n e.1 in
      let here : All P ((k, ws) ∷ rest) = subst (λ (es : Cells (List ℕ)). All P es) is all in
      (All-head P (k, ws) rest here, All-tail P (k, ws) rest here)

  pub successive_on : (all : Pairs) (now next : List (List ℕ)) (left rest : Cells (List ℕ)) (k : Cell) (ws : List ℕ) → left ≡ (k, ws) ∷ rest →
      Both (writers_pairs left) all old now n left → AddsPairs (successive_pairs ws) now next → Both (writers_pairs rest) all old next n rest
  successive_on all now next left rest k ws is so_far adds =
      (walk_on (writers_pairs left) (successive_pairs ws) (writers_pairs rest) all old now next (ap writers_pairs is) so_far.0 adds, (entry_first left rest k ws is so_far.1).1)

  module _ (reader start : ℕ) (region : Region) (own : List Cell) where
    pub region_on : (b : Bool) (all : Pairs) (now next : List (List ℕ)) (left rest : Cells (List ℕ)) (k : Cell) (ws : List ℕ) → left ≡ (k, ws) ∷ rest →
        takes_in (sight.Range region own) k ≡ b → Both (region_pairs reader start region own left) all old now n left →
        AddsPairs (if b then reader_pairs reader start ws else []) now next →
        Both (region_pairs reader start region own rest) all old next n rest
    region_on b all now next left rest k ws is taken so_far adds =
        let ps : Bool → Pairs = λ t. if t then reader_pairs reader start ws else [] in (
          walk_on (region_pairs reader start region own left) (ps b) (region_pairs reader start region own rest) all old now next
              (ap (region_pairs reader start region own) is ∙ ap (λ t. ps t ++ region_pairs reader start region own rest) taken) so_far.0 adds,
          (entry_first left rest k ws is so_far.1).1,
        )

    -- an entry that is not between the corners says nothing
    pairs_between : (low high : Cell) (es : Cells (List ℕ)) → AreCorners region (Some (low, high)) →
        region_pairs reader start region own (filter (λ e. is_between low high e.0) es) ≡ region_pairs reader start region own es
    pairs_between low high [] corners = refl
    pairs_between low high (e ∷ es) corners =
        go (is_between low high e.0) (is_in region e.0) refl (corners.1 e.0) (pairs_between low high es corners)
      where
        kept : Cells (List ℕ)
        kept = filter (λ d. is_between low high d.0) es

        go : (b a : Bool) → is_in region e.0 ≡ a → (is_in region e.0 ≡ true → b ≡ true) → region_pairs reader start region own kept ≡ region_pairs reader start region own es →
            region_pairs reader start region own (cond b (e ∷ kept) kept) ≡ region_pairs reader start region own (e ∷ es)
        go true a is inside rest = ap (λ (ps : Pairs). (if takes_in (sight.Range region own) e.0 then reader_pairs reader start e.1 else []) ++ ps) rest
        go false true is inside rest = absurd (let t = inside is in cc)
        go false false is inside rest = rest ∙ ap (λ t. (if (t && not (is_cell_among own e.0)) then reader_pairs reader start e.1 else []) ++ region_pairs reader start region own es) (sym is)

    pub region_begins : (low high : Cell) (es between : Cells (List ℕ)) → AreCorners region (Some (low, high)) → between ≡ filter (λ e. is_between low high e.0) es → AllRiseWithin n es →
        Both (region_pairs reader start region own between) (region_pairs reader start region own es) old old n between
    region_begins low high es between corners is all =
        let P : Cell × List ℕ → Type 0 = λ e. RiseFrom 0 e.1 × AreWithin n e.1 in
        let same : region_pairs reader start region own es ≡ region_pairs reader start region own between =
        sym (ap (region_pairs reader start region own) is ∙ pairs_between low high es corners) in (
          subst (λ (ps : Pairs). Walk ps (region_pairs reader start region own es) old old) same (walk_begins (region_pairs reader start region own es) old),
          subst (λ (ds : Cells (List ℕ)). All P ds) (sym is) (All-filter (λ e. is_between low high e.0) P es all),
        )

    pub no_region : (es : Cells (List ℕ)) → ((c : Cell) → is_in region c ≡ false) → region_pairs reader start region own es ≡ []
    no_region [] outside = refl
    no_region (e ∷ es) outside =
        ap (λ t. (if (t && not (is_cell_among own e.0)) then reader_pairs reader start e.1 else []) ++ region_pairs reader start region own es) (outside e.0)
        ∙ no_region es outside
