-- The lists behind the numbers, as pairs are added.
use Rattle.std.proofs.Common.{◌≡◌, ℕ, zero, suc, ◌-◌, ◌<◌, ◌≤◌, ◌==◌, ◌&&◌, ◌||◌, true, false, List, [], ◌∷◌, ◌++◌, length, get_or, set, inl, inr, refl, sym, ap, ◌∙◌, subst, arith}
use Rattle.std.specs.declared.vec.Vec.{Vec}
use Rattle.std.specs.declared.alloc.Global.{Global}
use Rattle.std.proofs.Math.Bool.{or-false}
use Rattle.std.proofs.lemmas.Bool.{cases_Bool, false≢true}
use Rattle.std.proofs.lemmas.Bool.Decides.{nat_tests, eqb_tells}
use Rattle.std.proofs.lemmas.List.{map-set, get_or-map, get_or-set_same, get_or-set_other, set-get_or, length-set, length-map}
use Rattle.serial_orders.specs.Orders.{is_one_of}
use Rattle.serial_orders.specs.Precedence.{number_lists, behind, precedes, HasCommitsAlone}
use Rattle.serial_orders.proofs.NumberLists.{Same, Either, one-push}
use Rattle.serial_orders.proofs.PlacingLaws.{behind-at}

pub behind-items : (items : List (Vec ℕ Global)) (number : ℕ) (v : Vec ℕ Global) → 0 < number → number ≤ length (number_lists items) → v ≡ get_or items (number - 1) v → v.items ≡ behind (number_lists items) number
behind-items items number v first within is =
    let long = length-map items (λ (w : Vec ℕ Global). w.items) in
    ap (λ (w : Vec ℕ Global). w.items) is
    ∙ sym (get_or-map (λ (w : Vec ℕ Global). w.items) items (number - 1) v [] (omega arith))
    ∙ sym (behind-at (number_lists items) number first)

-- ---- no pair

behind-push : (lists : List (List ℕ)) (i : ℕ) → behind (lists ++ [] ∷ []) i ≡ behind lists i
behind-push lists zero = refl
behind-push [] (suc zero) = refl
behind-push [] (suc (suc i)) = refl
behind-push (list ∷ lists) (suc zero) = refl
behind-push (list ∷ lists) (suc (suc i)) = behind-push lists (suc i)

numbers-push : (items : List (Vec ℕ Global)) (v : Vec ℕ Global) → number_lists (items ++ v ∷ []) ≡ number_lists items ++ v.items ∷ []
numbers-push [] v = refl
numbers-push (item ∷ items) v = ap (λ (w : List (List ℕ)). item.items ∷ w) (numbers-push items v)

pub none-precede : (items : List (Vec ℕ Global)) (v : Vec ℕ Global) → v.items ≡ [] → ((i j : ℕ) → precedes (number_lists items) i j ≡ false) → (i j : ℕ) → precedes (number_lists (items ++ v ∷ [])) i j ≡ false
none-precede items v empty none i j =
    ap (λ (w : List (List ℕ)). precedes w i j) (numbers-push items v ∙ ap (λ (w : List ℕ). number_lists items ++ w ∷ []) empty)
    ∙ ap (λ (w : List ℕ). is_one_of w j) (behind-push (number_lists items) i)
    ∙ none i j

-- ---- one pair more

pub precedes-add : (lists : List (List ℕ)) (p second : ℕ) → p < length lists → (i j : ℕ)
    → precedes (set lists p (get_or lists p [] ++ second ∷ [])) i j ≡ (precedes lists i j || (i == suc p && j == second))
precedes-add lists p second inside zero j = let z : (0 == suc p) ≡ false = grind (arith, nat_tests) in rw z refl
precedes-add lists p second inside (suc q) j = go (eqb_tells q p) (eqb_tells (suc q) (suc p))
  where
    go : Same q p → Same (suc q) (suc p)
        → is_one_of (get_or (set lists p (get_or lists p [] ++ second ∷ [])) q []) j ≡ (is_one_of (get_or lists q []) j || (suc q == suc p && j == second))
    go (inl e) (inl s) =
        let here = get_or-set_same lists p (get_or lists p [] ++ second ∷ []) [] inside in
        let there : get_or (set lists p (get_or lists p [] ++ second ∷ [])) q [] ≡ get_or lists q [] ++ second ∷ [] = subst (λ m. get_or (set lists p (get_or lists p [] ++ second ∷ [])) m [] ≡ get_or lists m [] ++ second ∷ []) (sym e.1) here in
        let swap : (second == j) ≡ (j == second) = grind (arith, nat_tests) in
        ap (λ (w : List ℕ). is_one_of w j) there ∙ one-push (get_or lists q []) second j ∙ rw s.0 (ap (λ b. is_one_of (get_or lists q []) j || b) swap)
    go (inr e) (inr s) = ap (λ (w : List ℕ). is_one_of w j) (get_or-set_other lists p q (get_or lists p [] ++ second ∷ []) [] e.1) ∙ rw s.0 (sym (or-false (is_one_of (get_or lists q []) j)))
    go (inl e) (inr s) = absurd (s.1 (ap suc e.1))
    go (inr e) (inl s) = let t = s.1 in absurd (e.1 (omega arith))

-- the lists, and those after a change of one of them
module _ (items : List (Vec ℕ Global)) (lists : List (List ℕ)) (view : number_lists items ≡ lists) (first second : ℕ) (low : 0 < first) (high : first ≤ length lists) (old new : Vec ℕ Global) (is : old ≡ get_or items (first - 1) old) where
  at-first : get_or lists (first - 1) [] ≡ old.items
  at-first =
      let long = length-map items (λ (w : Vec ℕ Global). w.items) in
      let same = ap (λ (w : List (List ℕ)). length w) view in
      ap (λ (w : List (List ℕ)). get_or w (first - 1) []) (sym view)
      ∙ get_or-map (λ (w : Vec ℕ Global). w.items) items (first - 1) old [] (omega arith)
      ∙ ap (λ (w : Vec ℕ Global). w.items) (sym is)

  changed : number_lists (set items (first - 1) new) ≡ set lists (first - 1) new.items
  changed = map-set (λ (w : Vec ℕ Global). w.items) items (first - 1) new ∙ ap (λ (w : List (List ℕ)). set w (first - 1) new.items) view

  pub kept : new.items ≡ old.items → number_lists (set items (first - 1) new) ≡ lists
  kept e = changed ∙ ap (λ (w : List ℕ). set lists (first - 1) w) (e ∙ sym at-first) ∙ set-get_or lists (first - 1) []

  pub added : new.items ≡ old.items ++ second ∷ [] → (i j : ℕ) → precedes (number_lists (set items (first - 1) new)) i j ≡ (precedes lists i j || (i == first && j == second))
  added e i j =
      let s : suc (first - 1) ≡ first = omega arith in
      ap (λ (w : List (List ℕ)). precedes w i j) (changed ∙ ap (λ (w : List ℕ). set lists (first - 1) w) (e ∙ ap (λ (w : List ℕ). w ++ second ∷ []) (sym at-first)))
      ∙ precedes-add lists (first - 1) second (omega arith) i j
      ∙ ap (λ m. precedes lists i j || (i == m && j == second)) s

  long-kept : length (number_lists (set items (first - 1) new)) ≡ length lists
  long-kept = ap (λ (w : List (List ℕ)). length w) changed ∙ length-set lists (first - 1) new.items

  pub within-kept : new.items ≡ old.items → HasCommitsAlone lists → HasCommitsAlone (number_lists (set items (first - 1) new))
  within-kept e within = subst (λ (w : List (List ℕ)). HasCommitsAlone w) (sym (kept e)) within

  pub within-added : new.items ≡ old.items ++ second ∷ [] → 0 < second → second ≤ length lists → HasCommitsAlone lists → HasCommitsAlone (number_lists (set items (first - 1) new))
  within-added e above below within i j h = go (cases_Bool (precedes lists i j)) (eqb_tells j second) (cases_Bool (i == first)) (sym (added e i j) ∙ h)
    where
      go : Either (precedes lists i j) → Same j second → Either (i == first)
          → (precedes lists i j || (i == first && j == second)) ≡ true → (0 < j) × (j ≤ length (number_lists (set items (first - 1) new)))
      go (inl p) _ _ t = let w = within i j p in let l = long-kept in (w.0, (let b = w.1 in omega arith))
      go (inr p) (inl s) _ t = let l = long-kept in let q = s.1 in (omega arith, omega arith)
      go (inr p) (inr s) (inl f) t = absurd (false≢true (rw (p, f, s.0) at t))
      go (inr p) (inr s) (inr f) t = absurd (false≢true (rw (p, f) at t))

pub told-twice : (lists : List (List ℕ)) (first second : ℕ) → precedes lists first second ≡ true → (i j : ℕ) → precedes lists i j ≡ (precedes lists i j || (i == first && j == second))
told-twice lists first second h i j = go (eqb_tells i first) (eqb_tells j second) (cases_Bool (precedes lists i j))
  where
    go : Same i first → Same j second → Either (precedes lists i j)
        → precedes lists i j ≡ (precedes lists i j || (i == first && j == second))
    go _ _ (inl p) = rw p refl
    go (inl e) (inl d) (inr p) = absurd (false≢true (sym p ∙ rw (e.1, d.1) h))
    go (inl e) (inr d) (inr p) = rw (p, e.0, d.0) refl
    go (inr e) _ (inr p) = rw (p, e.0) refl
