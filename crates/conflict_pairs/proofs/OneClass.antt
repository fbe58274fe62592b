-- Classes of accesses, and where their numbers stand.
use Rattle.std.proofs.Common.{◌≡◌, ℕ, ◌<◌, ◌+◌, List, [], ◌∷◌, ◌++◌, length, get_or, drop, refl, sym, subst, ap, ◌∙◌, arith, append_assoc, length-append, zero, suc}
use Rattle.std.specs.Prelude.{All, Some, slice_get}
use Rattle.std.specs.List.{AllZip}
use Rattle.std.proofs.lemmas.List.{drop_more}
use Rattle.std.proofs.lemmas.List.Elements.{All-weaker}
use Rattle.std.proofs.lemmas.Option.{slice_get-get_or, slice_get_within, same_Some}
use Rattle.prog_tree.proofs.Elements.{get_left, at-right}
use Rattle.prog_check.specs.declared.path.Access.{Access}
use Rattle.prog_check.specs.declared.path.Path.{Path}
use Rattle.prog_paths.specs.declared.accesses.places.Placed.{Placed}
use Rattle.prog_paths.specs.Places.{AreAlike, IsAt, placed_from, all_from}
use Rattle.prog_paths.specs.StaticGraph.{IsAccessOf}
use Rattle.prog_paths.proofs.Questions.{placed, all_places_stand}
use Rattle.conflict_pairs.specs.Alike.{AreCoverClasses, HasAccess}
use Rattle.conflict_pairs.specs.Interning.{IsServed}
use Rattle.conflict_pairs.specs.Classes.{HasCoverClass, AreOneClass, AreNumbered, starts_from, AreLikePlaces, AreAccessClasses}
use Rattle.conflict_pairs.specs.Pairing.{no_place, place_at}
use Rattle.conflict_pairs.proofs.Serving.{served-at}
use Rattle.conflict_pairs.proofs.Zipped.{AllZip-lengths}
use Rattle.conflict_pairs.proofs.Likeness.{alike-back, alike-through, like_at-classes}

-- ---- one number, one class

one_class : (classes : List ℕ) (firsts : List Placed) (p q : Placed) (m n : ℕ) → IsServed (AreOneClass classes) firsts p m → IsServed (AreOneClass classes) firsts q n → m ≡ n → AreOneClass classes p q
one_class classes firsts p q m n h k same =
    let is : h.value ≡ k.value = same_Some h.value k.value (sym h.at ∙ ap (slice_get firsts) same ∙ k.at) in
    record {
      class = h.serves.class ∙ ap (λ (r : Placed). get_or classes r.node 0) is ∙ sym k.serves.class;
      alike =
          alike-through p.access h.value.access q.access h.serves.alike
          (subst (λ (r : Placed). AreAlike r.access q.access) (sym is) (alike-back q.access k.value.access k.serves.alike));
    }

pub AreNumbered-from : (classes : List ℕ) (firsts places : List Placed) (numbers : List ℕ) → AllZip (IsServed (AreOneClass classes) firsts) places numbers → AreNumbered classes places numbers
AreNumbered-from classes firsts places numbers h = record {
  one_each = sym (AllZip-lengths (IsServed (AreOneClass classes) firsts) places numbers h);
  same = λ i j p q at_p at_q same. one_class classes firsts p q (get_or numbers i 0) (get_or numbers j 0) (served i p at_p) (served j q at_q) same;
}
  where
    served : (i : ℕ) (p : Placed) → slice_get places i ≡ Some p → IsServed (AreOneClass classes) firsts p (get_or numbers i 0)
    served i p at = served-at (AreOneClass classes) firsts places numbers i p (get_or numbers i 0) 0 h at refl

-- ---- places

pub each_has_class : (paths : List Path) (classes : List ℕ) (places : List Placed) → AreCoverClasses paths classes → places ≡ all_from 0 paths → All (HasCoverClass classes) places
each_has_class paths classes places classed is =
    subst (λ (l : List Placed). All (HasCoverClass classes) l) (sym is)
    (All-weaker (λ p. IsAt paths p) (HasCoverClass classes) (λ p at. has p at) (all_from 0 paths) (all_places_stand paths))
  where
    has : (p : Placed) → IsAt paths p → HasCoverClass classes p
    has p at = let within = slice_get_within paths p.node at.0 at.1 in omega (arith, within, classed.one_each)

placed-length : (node n : ℕ) (xs : List Access) → length (placed_from node n xs) ≡ length xs
placed-length node n [] = refl
placed-length node n (x ∷ xs) = ap suc (placed-length node (n + 1) xs)

placed-at : (node n : ℕ) (xs : List Access) (a : ℕ) (x : Access) → slice_get xs a ≡ Some x → slice_get (placed_from node n xs) a ≡ Some (placed node (n + a) x)
placed-at node n [] a x at = absurd (none a at)
  where
    none : (a : ℕ) → slice_get [] a ≡ Some x → ⊥
    none a h = let lt = slice_get_within [] a x h in omega (arith, lt)
placed-at node n (y ∷ xs) zero x at =
    let e : n + 0 ≡ n = omega arith in
    ap Some ((λ i. placed node n (same_Some y x at i)) ∙ ap (λ (k : ℕ). placed node k x) (sym e))
placed-at node n (y ∷ xs) (suc a) x at =
    let e : n + 1 + a ≡ n + suc a = omega arith in
    placed-at node (n + 1) xs a x at ∙ ap (λ (k : ℕ). Some (placed node k x)) e

-- access `a` of the node `x` from here on stands where its node begins, with those before it
place-from : (n : ℕ) (paths : List Path) (before : List Placed) (x a : ℕ) (access : Access) → IsAccessOf paths x a access → slice_get (before ++ all_from n paths) (get_or (starts_from (length before) paths) x 0 + a) ≡ Some (placed (n + x) a access)
place-from n [] before x a access h = absurd (none x h.1)
  where
    none : (x : ℕ) → slice_get [] x ≡ Some h.0 → ⊥
    none x k = let lt = slice_get_within [] x h.0 k in omega (arith, lt)
place-from n (path ∷ rest) before zero a access h =
    let is : path ≡ h.0 = same_Some path h.0 h.1 in
    let e : n + 0 ≡ n = omega arith in
    let f : 0 + a ≡ a = omega arith in
    at-right before (placed_from n 0 path.accesses ++ all_from (n + 1) rest) a (placed n a access)
    (get_left (placed_from n 0 path.accesses) (all_from (n + 1) rest) a (placed n a access)
    (placed-at n 0 path.accesses a access (ap (λ (p : Path). slice_get p.accesses a) is ∙ h.2) ∙ ap (λ (k : ℕ). Some (placed n k access)) f))
    ∙ ap (λ (k : ℕ). Some (placed k a access)) (sym e)
place-from n (path ∷ rest) before (suc x) a access h =
    let here = placed_from n 0 path.accesses in
    let long : length (before ++ here) ≡ length before + length path.accesses = length-append before here ∙ ap (λ (k : ℕ). length before + k) (placed-length n 0 path.accesses) in
    let e : n + 1 + x ≡ n + suc x = omega arith in
    sym (λ i. slice_get (append_assoc before here (all_from (n + 1) rest) i) (get_or (starts_from (long i) rest) x 0 + a))
    ∙ place-from (n + 1) rest (before ++ here) x a access (h.0, h.1, h.2)
    ∙ ap (λ (k : ℕ). Some (placed k a access)) e

pub starts-length : (start : ℕ) (paths : List Path) → length (starts_from start paths) ≡ length paths
starts-length start [] = refl
starts-length start (path ∷ rest) = ap suc (starts-length (start + length path.accesses) rest)

-- ---- one more start

pub starts-more : (old new whole : List ℕ) (start next n : ℕ) (paths : List Path) (path : Path) → n < length paths → path ≡ get_or paths n path → new ≡ old ++ start ∷ [] → next ≡ start + length path.accesses → old ++ starts_from start (drop n paths) ≡ whole → new ++ starts_from next (drop (n + 1) paths) ≡ whole
starts-more old new whole start next n paths path lt is added step h =
    (λ i. added i ++ starts_from (step i) (drop (n + 1) paths))
    ∙ append_assoc old (start ∷ []) (starts_from (start + length path.accesses) (drop (n + 1) paths))
    ∙ ap (λ (l : List Path). old ++ starts_from start l) (sym (drop_more paths n path lt ∙ ap (λ (p : Path). p ∷ drop (n + 1) paths) (sym is)))
    ∙ h

-- the accesses of this node and of those that are left
pub left-more : (n : ℕ) (paths : List Path) (path : Path) → n < length paths → path ≡ get_or paths n path → length (all_from n (drop n paths)) ≡ length path.accesses + length (all_from (n + 1) (drop (n + 1) paths))
left-more n paths path lt is =
    ap (λ (l : List Path). length (all_from n l)) (drop_more paths n path lt ∙ ap (λ (p : Path). p ∷ drop (n + 1) paths) (sym is))
    ∙ length-append (placed_from n 0 path.accesses) (all_from (n + 1) (drop (n + 1) paths))
    ∙ ap (λ (k : ℕ). k + length (all_from (n + 1) (drop (n + 1) paths))) (placed-length n 0 path.accesses)

-- each access stands where its node begins and its own number on
pub place-stands : (paths : List Path) (x a : ℕ) (h : HasAccess paths x a) → slice_get (all_from 0 paths) (get_or (starts_from 0 paths) x 0 + a) ≡ Some (placed x a h.0)
place-stands paths x a h =
    let e : 0 + x ≡ x = omega arith in
    place-from 0 paths [] x a h.0 h.1 ∙ ap (λ (k : ℕ). Some (placed k a h.0)) e

-- ---- the classes of all accesses

module _ (paths : List Path) (classes numbers : List ℕ) (classed : AreCoverClasses paths classes) (numbered : AreNumbered classes (all_from 0 paths) numbers) where
  alike : (m n : ℕ) → m < length (all_from 0 paths) → n < length (all_from 0 paths) → get_or numbers m 0 ≡ get_or numbers n 0 → AreLikePlaces paths m n
  alike m n lt le same =
      like_at-classes paths classes (place_at (all_from 0 paths) m) (place_at (all_from 0 paths) n) classed (all_places_stand paths m no_place lt) (all_places_stand paths n no_place le)
      (numbered.same m n (place_at (all_from 0 paths) m) (place_at (all_from 0 paths) n) (slice_get-get_or (all_from 0 paths) m no_place lt) (slice_get-get_or (all_from 0 paths) n no_place le) same)

  pub AreAccessClasses-from : AreAccessClasses paths numbers
  AreAccessClasses-from = record { one_each = numbered.one_each; alike = alike }
