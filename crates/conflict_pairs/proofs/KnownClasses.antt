-- What is known of classes, one access more at a time.
use Rattle.std.proofs.Common.{◌≡◌, ℕ, ◌<◌, ◌≤◌, ◌+◌, ◌⊎◌, inl, inr, ◌↔◌, List, Vec, Global, [], length, get_or, set, refl, sym, subst, ap, ◌∙◌, arith, Contains, Some}
use Rattle.std.proofs.lemmas.Bool.{cases_lt, cases_eq}
use Rattle.std.proofs.lemmas.List.{length-set, get_or-set_same, get_or-set_other}
use Rattle.std.proofs.lemmas.Option.{slice_get-get_or, slice_get_past}
use Rattle.prog_paths.specs.declared.accesses.places.Placed.{Placed}
use Rattle.conflict_pairs.specs.Classes.{HasAccessOf, nodes_in, nodes_at}
use Rattle.conflict_pairs.specs.Pairing.{place_at}

-- ---- lists of nodes

-- the list that is put at a place, and those at other places
pub nodes-here : (lists : List (Vec ℕ Global)) (c : ℕ) (v : Vec ℕ Global) → c < length lists → nodes_at (set lists c v) c ≡ v.items
nodes-here lists c v lt =
    ap nodes_in (slice_get-get_or (set lists c v) c v (let long = length-set lists c v in omega (arith, lt, long)) ∙ ap Some (get_or-set_same lists c v v lt))

pub nodes-other : (lists : List (Vec ℕ Global)) (c d : ℕ) (v : Vec ℕ Global) → (d ≡ c → ⊥) → nodes_at (set lists c v) d ≡ nodes_at lists d
nodes-other lists c d v other = by (cases_lt d (length lists))
  where
    long : length (set lists c v) ≡ length lists
    long = length-set lists c v

    by : (d < length lists) ⊎ (length lists ≤ d) → nodes_at (set lists c v) d ≡ nodes_at lists d
    by (inl a) = ap nodes_in (slice_get-get_or (set lists c v) d v (omega (arith, a, long)) ∙ ap Some (get_or-set_other lists c d v v other) ∙ sym (slice_get-get_or lists d v a))
    by (inr b) = ap nodes_in (slice_get_past (set lists c v) d (omega (arith, b, long)) ∙ sym (slice_get_past lists d b))

-- a list that is read has the nodes at its place
pub nodes-read : (lists : List (Vec ℕ Global)) (c : ℕ) (v d : Vec ℕ Global) → c < length lists → v ≡ get_or lists c d → v.items ≡ nodes_at lists c
nodes-read lists c v d lt is = ap (λ (w : Vec ℕ Global). w.items) is ∙ sym (ap nodes_in (slice_get-get_or lists c d lt))

-- the nodes of classes, as far as the accesses before the next one go
pub record AreNodesSoFar (places : List Placed) (numbers : List ℕ) (lists : List (Vec ℕ Global)) (k : ℕ) : Type 0 where
  pub has : (n : ℕ) → n < k → Contains (nodes_at lists (get_or numbers n 0)) (place_at places n).node
  pub only : (c x : ℕ) → Contains (nodes_at lists c) x → HasAccessOf places numbers c x

pub nodes-none : (places : List Placed) (numbers : List ℕ) (lists : List (Vec ℕ Global)) → ((c : ℕ) → nodes_at lists c ≡ []) → AreNodesSoFar places numbers lists 0
nodes-none places numbers lists empty = record {
  has = λ n lt. absurd (omega (arith, lt));
  only = λ c x h. let none = subst (λ (l : List ℕ). Contains l x) (empty c) h in let lt = none.1 in absurd (omega (arith, lt));
}

pub nodes-more : (places : List Placed) (numbers : List ℕ) (old new : List (Vec ℕ Global)) (k c : ℕ) (v : Vec ℕ Global) → k < length places → c ≡ get_or numbers k 0 → c < length old → new ≡ set old c v
    → ((x : ℕ) → Contains v.items x ↔ (Contains (nodes_at old c) x ⊎ (x ≡ (place_at places k).node)))
    → AreNodesSoFar places numbers old k → AreNodesSoFar places numbers new (k + 1)
nodes-more places numbers old new k c v inside class within added adds h = subst (λ (l : List (Vec ℕ Global)). AreNodesSoFar places numbers l (k + 1)) (sym added) (record {
  has = λ n lt. has n lt (cases_lt n k) (cases_eq (get_or numbers n 0) c);
  only = λ d x told. only d x told (cases_eq d c);
})
  where
    has : (n : ℕ) → n < k + 1 → (n < k) ⊎ (k ≤ n) → (get_or numbers n 0 ≡ c) ⊎ (get_or numbers n 0 ≡ c → ⊥) → Contains (nodes_at (set old c v) (get_or numbers n 0)) (place_at places n).node
    has n lt (inl a) (inl e) =
        subst (λ (d : ℕ). Contains (nodes_at (set old c v) d) (place_at places n).node) (sym e)
        (subst (λ (l : List ℕ). Contains l (place_at places n).node) (sym (nodes-here old c v within))
        ((adds (place_at places n).node).1 (inl (subst (λ (d : ℕ). Contains (nodes_at old d) (place_at places n).node) e (h.has n a)))))
    has n lt (inl a) (inr e) = subst (λ (l : List ℕ). Contains l (place_at places n).node) (sym (nodes-other old c (get_or numbers n 0) v e)) (h.has n a)
    has n lt (inr b) by =
        let same : n ≡ k = omega (arith, lt, b) in
        subst (λ (m : ℕ). Contains (nodes_at (set old c v) (get_or numbers m 0)) (place_at places m).node) (sym same)
        (subst (λ (d : ℕ). Contains (nodes_at (set old c v) d) (place_at places k).node) class
        (subst (λ (l : List ℕ). Contains l (place_at places k).node) (sym (nodes-here old c v within)) ((adds (place_at places k).node).1 (inr refl))))

    only : (d x : ℕ) → Contains (nodes_at (set old c v) d) x → (d ≡ c) ⊎ (d ≡ c → ⊥) → HasAccessOf places numbers d x
    only d x told (inr e) = h.only d x (subst (λ (l : List ℕ). Contains l x) (nodes-other old c d v e) told)
    only d x told (inl e) =
        subst (λ (b : ℕ). HasAccessOf places numbers b x) (sym e)
        (by ((adds x).0 (subst (λ (l : List ℕ). Contains l x) (nodes-here old c v within) (subst (λ (b : ℕ). Contains (nodes_at (set old c v) b) x) e told))))
      where
        by : Contains (nodes_at old c) x ⊎ (x ≡ (place_at places k).node) → HasAccessOf places numbers c x
        by (inl a) = h.only c x a
        by (inr b) = record { number = k; within = inside; class = sym class; node = sym b }
