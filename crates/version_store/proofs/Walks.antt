-- What walks over the touches of a commit keep.
use Rattle.std.proofs.Common.{◌≡◌, ◌∙◌, ℕ, ℤ, Bool, true, false, ◌||◌, cond, if◌then◌else◌, List, [], ◌∷◌, ◌++◌, refl, ap, sym, subst, arith, nat_lt}
use Rattle.std.specs.Prelude.{Option, filter}
use Rattle.std.specs.List.Sorted.{IsStrictlySortedBy}
use Rattle.std.proofs.lemmas.Bool.{or_parts}
use Rattle.std.proofs.lemmas.Bool.Decides.{nat_tests}
use Rattle.prog_tree.specs.declared.cell.Cell.{Cell}
use Rattle.prog_tree.specs.ChangeSet.{ChangeSet}
use Rattle.prog_tree.specs.Table.{cell_cmp, Cells, cells_of, is_same_cell, is_cell_among}
use Rattle.prog_tree.proofs.CellSets.{same-turned}
use Rattle.version_store.specs.declared.touches.Touch.{Touch}
use Rattle.version_store.specs.declared.touches.Touch.TheVariants.{Change, Keep}
use Rattle.version_store.specs.StandsFor.{VersionChain, EachHolds}
use Rattle.version_store.specs.Reading.{chain_at, with_version, with_mark, with_commit, cut_from, IsGrown, MakesAt, MakesTouched}
use Rattle.version_store.specs.Touches.{with_touch}
use Rattle.version_store.proofs.TouchLaws.{among_touches, commit_touches, touches_of, with_touches}

-- ---- walks over the touches of a commit

filter_push : {X : Type 0} (p : X → Bool) (xs : List X) (x : X) → p x ≡ false → filter p (xs ++ x ∷ []) ≡ filter p xs
filter_push p [] x drops = ap (λ b. cond b (x ∷ []) []) drops
filter_push p (y ∷ xs) x drops = ap (λ ys. cond (p y) (y ∷ ys) ys) (filter_push p xs x drops)

not_below : (n : ℕ) → nat_lt n n ≡ false
not_below n = grind (arith, nat_tests)

cut_version : (n : ℕ) (value : Option ℤ) (chain : VersionChain) → cut_from n (with_version n value chain) ≡ cut_from n chain
cut_version n value chain i = record {
  versions = filter_push (λ (v : ℕ × Option ℤ). nat_lt v.0 n) chain.versions (n, value) (not_below n) i;
  marks = filter (λ (m : ℕ). nat_lt m n) chain.marks;
}

cut_mark : (n : ℕ) (chain : VersionChain) → cut_from n (with_mark n chain) ≡ cut_from n chain
cut_mark n chain i = record {
  versions = filter (λ (v : ℕ × Option ℤ). nat_lt v.0 n) chain.versions;
  marks = filter_push (λ (m : ℕ). nat_lt m n) chain.marks n (not_below n) i;
}

below_touch : (n : ℕ) (touch : Touch) (chain : VersionChain) → cut_from n (with_touch n touch chain) ≡ cut_from n chain
below_touch n (Change value) chain = cut_version n value chain
below_touch n Keep chain = cut_mark n chain

-- with the touches that are left, the chains are what they will be at the end; nothing below the number changes, and nothing at all of a cell that is not touched
pub record AddsTouches (n : ℕ) (touches rest : Cells Touch) (before now : Cells VersionChain) : Type 0 where
  pub ends : (c : Cell) → with_touches n rest c (chain_at now c) ≡ with_touches n touches c (chain_at before c)
  pub below : (c : Cell) → cut_from n (chain_at now c) ≡ cut_from n (chain_at before c)
  pub apart : (c : Cell) → is_cell_among (cells_of touches) c ≡ false → (is_cell_among (cells_of rest) c ≡ false) × (chain_at now c ≡ chain_at before c)
  pub hold : EachHolds before → EachHolds now

pub one_more_touch :
    (n : ℕ) (touches left rest : Cells Touch) (k : Cell) (touch : Touch) (before now next : Cells VersionChain) → left ≡ (k, touch) ∷ rest → AddsTouches n touches left before now →
    MakesAt k (with_touch n touch) now next → (EachHolds now → EachHolds next) → AddsTouches n touches rest before next
one_more_touch n touches left rest k touch before now next is so_far made holds_next = record {
  ends = λ c. ap (with_touches n rest c) (made c) ∙ h.ends c;
  below = λ c. ap (cut_from n) (made c) ∙ go (is_same_cell k c) c ∙ h.below c;
  apart = λ c none.
      let both = h.apart c none in
      let neither = or_parts (is_same_cell c k) (is_cell_among (cells_of rest) c) both.0 in
      (neither.1, made c ∙ ap (λ b. if b then with_touch n touch (chain_at now c) else chain_at now c) (same-turned k c ∙ neither.0) ∙ both.1);
  hold = λ holds. holds_next (h.hold holds);
}
  where
    h : AddsTouches n touches ((k, touch) ∷ rest) before now
    h = subst (λ (ts : Cells Touch). AddsTouches n touches ts before now) is so_far

    go : (b : Bool) (c : Cell) → cut_from n (if b then with_touch n touch (chain_at now c) else chain_at now c) ≡ cut_from n (chain_at now c)
    go true c = below_touch n touch (chain_at now c)
    go false c = refl

-- all touches of a commit were added
pub commit_added :
    (n : ℕ) (w : ChangeSet) (left : Cells Touch) (before now : Cells VersionChain) → IsStrictlySortedBy cell_cmp (cells_of w.cells) → IsStrictlySortedBy cell_cmp w.kept → left ≡ [] →
    AddsTouches n (touches_of w) left before now → (c : Cell) → chain_at now c ≡ with_commit n w c (chain_at before c)
commit_added n w left before now changed kept none h c =
    ap (λ ts. with_touches n ts c (chain_at now c)) (sym none) ∙ h.ends c ∙ commit_touches n w c (chain_at before c) changed kept

-- some of them were added
pub commit_grown :
    (n : ℕ) (w : ChangeSet) (rest : Cells Touch) (before now next : Cells VersionChain) → AddsTouches n (touches_of w) rest before now →
    ((c : Cell) → chain_at next c ≡ chain_at now c) → IsGrown n w before next
commit_grown n w rest before now next h same c = (ap (cut_from n) (same c) ∙ h.below c, λ apart. same c ∙ (h.apart c (among_touches w c ∙ apart)).1)

-- ---- walks that cut

filter_twice : {X : Type 0} (p : X → Bool) (xs : List X) → filter p (filter p xs) ≡ filter p xs
filter_twice p [] = refl
filter_twice {X = X} p (x ∷ xs) = go (p x) refl (filter_twice p xs)
  where
    go : (b : Bool) → p x ≡ b → filter p (filter p xs) ≡ filter p xs → filter p (cond b (x ∷ filter p xs) (filter p xs)) ≡ cond b (x ∷ filter p xs) (filter p xs)
    go true passes rest = ap (λ b. cond b (x ∷ filter p (filter p xs)) (filter p (filter p xs))) passes ∙ ap (λ (ys : List X). x ∷ ys) rest
    go false drops rest = rest

cut_twice : (n : ℕ) (chain : VersionChain) → cut_from n (cut_from n chain) ≡ cut_from n chain
cut_twice n chain i = record {
  versions = filter_twice (λ (v : ℕ × Option ℤ). nat_lt v.0 n) chain.versions i;
  marks = filter_twice (λ (m : ℕ). nat_lt m n) chain.marks i;
}

-- once the touches that are left are cut too, all of them are
pub record CutsTouches (n : ℕ) (touches rest : Cells Touch) (before now : Cells VersionChain) : Type 0 where
  pub ends : (c : Cell) → (if is_cell_among (cells_of rest) c then cut_from n (chain_at now c) else chain_at now c) ≡ (if is_cell_among (cells_of touches) c then cut_from n (chain_at before c) else chain_at before c)
  pub hold : EachHolds before → EachHolds now

pub one_more_cut :
    (n : ℕ) (touches left rest : Cells Touch) (k : Cell) (touch : Touch) (before now next : Cells VersionChain) → left ≡ (k, touch) ∷ rest → CutsTouches n touches left before now →
    MakesAt k (cut_from n) now next → (EachHolds now → EachHolds next) → CutsTouches n touches rest before next
one_more_cut n touches left rest k touch before now next is so_far made holds_next = record {
  ends = λ c.
      ap (λ x. if is_cell_among (cells_of rest) c then cut_from n x else x) (made c ∙ ap (λ b. if b then cut_from n (chain_at now c) else chain_at now c) (same-turned k c))
      ∙ go (is_same_cell c k) (is_cell_among (cells_of rest) c) (chain_at now c)
      ∙ h.ends c;
  hold = λ holds. holds_next (h.hold holds);
}
  where
    h : CutsTouches n touches ((k, touch) ∷ rest) before now
    h = subst (λ (ts : Cells Touch). CutsTouches n touches ts before now) is so_far

    go : (a b : Bool) (chain : VersionChain) → (if b then cut_from n (if a then cut_from n chain else chain) else (if a then cut_from n chain else chain)) ≡ (if a || b then cut_from n chain else chain)
    go true true chain = cut_twice n chain
    go true false chain = refl
    go false true chain = refl
    go false false chain = refl

-- all cells that a commit touches were cut
pub commit_cut :
    (n : ℕ) (w : ChangeSet) (left : Cells Touch) (before now : Cells VersionChain) → left ≡ [] → CutsTouches n (touches_of w) left before now → MakesTouched w (cut_from n) before now
commit_cut n w left before now none h c =
    ap (λ (ts : Cells Touch). if is_cell_among (cells_of ts) c then cut_from n (chain_at now c) else chain_at now c) (sym none)
    ∙ h.ends c
    ∙ ap (λ b. if b then cut_from n (chain_at before c) else chain_at before c) (among_touches w c)
