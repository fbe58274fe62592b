-- Steps of searches through lists, the nodes of a program, and structures whose nodes are of three programs.
use Rattle.std.proofs.Common.{◌≡◌, ◌↔◌, ℕ, ◌+◌, ◌<◌, ◌≤◌, ◌⊎◌, inl, inr, List, [], ◌∷◌, ◌++◌, length, length-append, get_or, take, Contains, Vec, Global, sym, subst, ap, ◌∙◌, arith}
use Rattle.std.specs.Prelude.{Any, All, Some, slice_get}
use Rattle.std.proofs.lemmas.Bool.{cases_eq}
use Rattle.std.proofs.Math.Seq.{get_or-append_seam}
use Rattle.std.proofs.lemmas.List.{get_or_append_left, take_more, take_all}
use Rattle.std.proofs.lemmas.List.Elements.{Contains-get_or, Contains-append_left, Contains-push, Contains-push_cases}
use Rattle.std.proofs.lemmas.Option.{slice_get-get_or, get_or_from_slice_get, slice_get_within}
use Rattle.prog_check.specs.declared.path.Path.{Path}
use Rattle.repair_laws.specs.Striking.{IsOfProgram}
use Rattle.repair_laws.specs.Closing.{Closes}
use Rattle.si_repair.specs.Planning.{AreNodesOf, AreListedBy, BeginsIn}

-- ---- searches

pub any-more : {X : Type 0} (P : X → Type 0) (xs : List X) (i : ℕ) (d : X) → i < length xs → (Any P (take i xs) → ⊥) → (P (get_or xs i d) → ⊥) → Any P (take (i + 1) xs) → ⊥
any-more {X = X} P xs i d inside none other h =
    go (Contains-push_cases (take i xs) (get_or xs i d) h.1 (subst (λ (ys : List X). Contains ys h.1) (take_more xs i d inside) (h.0, h.2, h.3)))
  where
    go : Contains (take i xs) h.1 ⊎ (get_or xs i d ≡ h.1) → ⊥
    go (inl c) = none (c.0, h.1, c.1, c.2, h.4)
    go (inr e) = other (subst P (sym e) h.4)

pub any-here : {X : Type 0} (P : X → Type 0) (xs : List X) (i : ℕ) (d : X) → i < length xs → P (get_or xs i d) → Any P xs
any-here P xs i d inside h = let at = Contains-get_or xs i d inside in (at.0, get_or xs i d, at.1, at.2, h)

pub any-end : {X : Type 0} (P : X → Type 0) (xs : List X) (n : ℕ) → length xs ≤ n → (Any P (take n xs) → ⊥) → Any P xs → ⊥
any-end {X = X} P xs n past none h = none (subst (λ (ys : List X). Any P ys) (sym (take_all n xs past)) h)

pub all-contained : {X : Type 0} (P : X → Type 0) (xs : List X) → ((x : X) → Contains xs x → P x) → All P xs
all-contained P xs each k d inside = each (get_or xs k d) (Contains-get_or xs k d inside)

-- ---- nodes of a program

pub of_program_at : (nodes : List Path) (x : ℕ) (d : Path) (program : ℕ) → x < length nodes → (get_or nodes x d).program ≡ program → IsOfProgram nodes program x
of_program_at nodes x d program inside e = (get_or nodes x d, slice_get-get_or nodes x d inside, e)

pub program_at : (nodes : List Path) (x : ℕ) (d : Path) (program : ℕ) → IsOfProgram nodes program x → (get_or nodes x d).program ≡ program
program_at nodes x d program (path, at, is) = ap (λ (p : Path). p.program) (get_or_from_slice_get nodes x path d at) ∙ is

pub within : (nodes : List Path) (program x : ℕ) → IsOfProgram nodes program x → x < length nodes
within nodes program x (path, at, is) = slice_get_within nodes x path at

-- the nodes of a program below a bound
abbrev pub AreNodesBelow : List Path → ℕ → ℕ → List ℕ → Type 0
AreNodesBelow nodes program bound xs = (x : ℕ) → Contains xs x ↔ ((x < bound) × IsOfProgram nodes program x)

pub nodes-pushed : (nodes : List Path) (program x : ℕ) (xs : List ℕ) → AreNodesBelow nodes program x xs → IsOfProgram nodes program x → AreNodesBelow nodes program (x + 1) (xs ++ x ∷ [])
nodes-pushed nodes program x xs are is y = (λ c. to (Contains-push_cases xs x y c), λ h. from (cases_eq y x) h.0 h.1)
  where
    to : Contains xs y ⊎ (x ≡ y) → (y < x + 1) × IsOfProgram nodes program y
    to (inl c) = let h = (are y).0 c in let l = h.0 in (omega (arith, l), h.1)
    to (inr e) = (omega (arith, e), subst (λ (z : ℕ). IsOfProgram nodes program z) e is)

    from : (y ≡ x) ⊎ (y ≡ x → ⊥) → y < x + 1 → IsOfProgram nodes program y → Contains (xs ++ x ∷ []) y
    from (inl e) l h = subst (λ (z : ℕ). Contains (xs ++ x ∷ []) z) (sym e) (Contains-push xs x)
    from (inr n) l h = let k : y < x = omega (arith, l, n) in Contains-append_left xs (x ∷ []) y ((are y).1 (k, h))

pub nodes-passed : (nodes : List Path) (program x : ℕ) (xs : List ℕ) → AreNodesBelow nodes program x xs → (IsOfProgram nodes program x → ⊥) → AreNodesBelow nodes program (x + 1) xs
nodes-passed nodes program x xs are not y = (λ c. let h = (are y).0 c in let l = h.0 in (omega (arith, l), h.1), λ h. from (cases_eq y x) h.0 h.1)
  where
    from : (y ≡ x) ⊎ (y ≡ x → ⊥) → y < x + 1 → IsOfProgram nodes program y → Contains xs y
    from (inl e) l h = absurd (not (subst (λ (z : ℕ). IsOfProgram nodes program z) e h))
    from (inr n) l h = let k : y < x = omega (arith, l, n) in (are y).1 (k, h)

pub nodes-all : (nodes : List Path) (program n : ℕ) (xs : List ℕ) → length nodes ≤ n → AreNodesBelow nodes program n xs → AreNodesOf nodes program xs
nodes-all nodes program n xs past are x = (λ c. ((are x).0 c).1, λ h. let l = within nodes program x h in (are x).1 (omega (arith, l, past), h))

pub nodes-below : (nodes : List Path) (program : ℕ) (xs : List ℕ) (n : ℕ) → n ≡ length nodes → AreNodesOf nodes program xs → All (λ x. x < n) xs
nodes-below nodes program xs n same are = all-contained (λ x. x < n) xs (λ x c. let l = within nodes program x ((are x).0 c) in omega (arith, l, same))

-- ---- the nodes of each program

pub none-listed : (nodes : List Path) (lists : List (Vec ℕ Global)) → lists ≡ [] → AreListedBy nodes lists
none-listed nodes lists none = subst (λ (l : List (Vec ℕ Global)). AreListedBy nodes l) (sym none) (λ program list at. absurd (nothing program list at))
  where
    nothing : (program : ℕ) (list : Vec ℕ Global) → slice_get [] program ≡ Some list → ⊥
    nothing program list at = let lt = slice_get_within [] program list at in omega (arith, lt)

-- with the list of the next program behind the others
pub listed-more : (nodes : List Path) (n : ℕ) (lists : List (Vec ℕ Global)) (list : Vec ℕ Global) → length lists ≡ n → AreListedBy nodes lists → AreNodesOf nodes n list.items → AreListedBy nodes (lists ++ list ∷ [])
listed-more nodes n lists list long are own program other at = go (cases_eq program n)
  where
    all : List (Vec ℕ Global)
    all = lists ++ list ∷ []

    read : get_or all program list ≡ other
    read = get_or_from_slice_get all program other list at

    go : (program ≡ n) ⊎ (program ≡ n → ⊥) → AreNodesOf nodes program other.items
    go (inl e) =
        let is = sym (get_or-append_seam lists list [] list) ∙ ap (λ (k : ℕ). get_or all k list) (long ∙ sym e) ∙ read in
        subst (λ (v : Vec ℕ Global). AreNodesOf nodes program v.items) is (subst (λ (k : ℕ). AreNodesOf nodes k list.items) (sym e) own)
    go (inr ne) =
        let inside = slice_get_within all program other at in
        let grown = length-append lists (list ∷ []) in
        let k : program < length lists = omega (arith, inside, grown, ne, long) in
        are program other (slice_get-get_or lists program list k ∙ ap Some (sym (get_or_append_left lists (list ∷ []) list program k) ∙ read))

-- ---- structures of three programs

module _ (nodes : List Path) (p q r : ℕ) (xs ys zs : List ℕ) (firsts : AreNodesOf nodes p xs) (seconds : AreNodesOf nodes q ys) (thirds : AreNodesOf nodes r zs) where
  pub closes-from_begins : BeginsIn nodes xs ys zs → Closes nodes p q r
  closes-from_begins (i, x, i_in, i_at, (j, y, j_in, j_at, (k, z, k_in, k_at, d))) = (
    x,
    y,
    z,
    (firsts x).0 (i, i_in, i_at),
    (seconds y).0 (j, j_in, j_at),
    (thirds z).0 (k, k_in, k_at),
    d,
  )

  pub begins-from_closes : Closes nodes p q r → BeginsIn nodes xs ys zs
  begins-from_closes (x, y, z, fx, fy, fz, d) =
      let i = (firsts x).1 fx in
      let j = (seconds y).1 fy in
      let k = (thirds z).1 fz in
      (i.0, x, i.1, i.2, (j.0, y, j.1, j.2, (k.0, z, k.1, k.2, d)))
