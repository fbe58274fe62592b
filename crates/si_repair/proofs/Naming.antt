-- Names of new tables: which are taken, and that one of the first is free.
use Rattle.std.proofs.Common.{◌≡◌, ℕ, zero, suc, ◌+◌, ◌<◌, ◌≤◌, ◌^◌, ◌⊎◌, inl, inr, Bool, true, false, ◌||◌, List, [], ◌∷◌, ◌++◌, length, refl, sym, ap, subst, ◌∙◌, arith}
use Rattle.std.specs.List.{list_any, AllByRecursion, IsDistinct}
use Rattle.std.specs.Prelude.{Option, Some, None, is_some, decimal}
use Rattle.std.specs.Cmp.Lexicographic.{nat_list_eq_equiv, same_text}
use Rattle.std.proofs.lemmas.Bool.{true≢false, false_from_ne_true, cases_lt}
use Rattle.std.proofs.lemmas.Fmt.{decimal_injective}
use Rattle.std.proofs.lemmas.List.{length-append, length-map}
use Rattle.std.proofs.lemmas.List.Folds.{list_any-append, list_any_at}
use Rattle.std.proofs.lemmas.List.Quantifiers.{position-Some}
use Rattle.std.proofs.lemmas.Map.Made.{length-le_from_is_member}
use Rattle.prog_tree.specs.declared.table.TableDecl.{TableDecl}
use Rattle.prog_tree.specs.Syntax.{Name, DraftTree}
use Rattle.prog_tree.specs.Value.{same_name}
use Rattle.prog_check.specs.Faults.{table_names}
use Rattle.prog_check.specs.Names.{is_among, place_among}
use Rattle.prog_check.proofs.NameLemmas.{list_any-map}
use Rattle.repair_laws.specs.declared.plan.NewTable.{NewTable}
use Rattle.repair_laws.specs.Materialised.{mat_name, IsLeastFree}
use Rattle.repair_laws.proofs.PathLaws.{has_place}
use Rattle.si_repair.specs.Names.{new_names, taken_names}

-- ---- names that are taken

-- a new table has the name where the table of a pair does
abbrev pub has_name : Name → NewTable → Bool
has_name name m = same_name name m.table

pub new_is : (name : Name) (made : List NewTable) → is_among (new_names made) name ≡ list_any (has_name name) made
new_is name made = list_any-map (same_name name) (λ (m : NewTable). m.table) made

-- a name is taken where it has a place among the names of tables, and else where a new table has it
place-taken : (names : List Name) (x : Name) (b : Bool) → is_some (place_among names x) ≡ b → is_among names x ≡ b
place-taken names x true e = found (place_among names x) refl e
  where
    found : (place : Option ℕ) → place_among names x ≡ place → is_some place ≡ true → is_among names x ≡ true
    found None at e = absurd (true≢false (sym e))
    found (Some i) at e = let inside = position-Some (same_name x) names i x at in list_any_at (same_name x) names i x inside.0 inside.1
place-taken names x false e =
    false_from_ne_true (is_among names x) (λ h. let place = has_place names x h in true≢false (sym (ap is_some place.1) ∙ e))

pub taken_first : (names more : List Name) (x : Name) → is_some (place_among names x) ≡ true → is_among (names ++ more) x ≡ true
taken_first names more x e = list_any-append (same_name x) names more ∙ ap (λ b. b || is_among more x) (place-taken names x true e)

pub taken_second : (names more : List Name) (x : Name) → is_some (place_among names x) ≡ false → is_among (names ++ more) x ≡ is_among more x
taken_second names more x e = list_any-append (same_name x) names more ∙ ap (λ b. b || is_among more x) (place-taken names x false e)

-- ---- one of the first names is free

-- the first `n` names, the last of them first
abbrev first_names : ℕ → List Name
first_names zero = []
first_names (suc n) = mat_name n ∷ first_names n

length-first_names : (n : ℕ) → length (first_names n) ≡ n
length-first_names zero = refl
length-first_names (suc n) = ap suc (length-first_names n)

same_numbers : (m n : ℕ) → m < 2 ^ 64 → n < 2 ^ 64 → mat_name m ≡ mat_name n → m ≡ n
same_numbers m n below within e = let digits : decimal m ≡ decimal n = cc in decimal_injective m n below within digits

apart : (m n : ℕ) → m < n → n < 2 ^ 64 → same_name (mat_name n) (mat_name m) ≡ false
apart m n less small =
    false_from_ne_true (same_name (mat_name n) (mat_name m))
    (λ e. let equal = same_numbers n m small (omega arith) (same_text (mat_name n) (mat_name m) (sym e)) in omega arith)

others : (top n : ℕ) → n ≤ top → top < 2 ^ 64 → AllByRecursion (λ y. same_name (mat_name top) y ≡ false) (first_names n)
others top zero less small = tt
others top (suc n) less small = (apart n top (omega arith) small, others top n (omega arith) small)

distinct : (n : ℕ) → n ≤ 2 ^ 64 → IsDistinct same_name (first_names n)
unfolding IsDistinct
distinct zero small = tt
distinct (suc n) small = (others n n (omega arith) (omega arith), distinct n (omega arith))

member : (taken : List Name) (n : ℕ) → ((k : ℕ) → k < n → is_among taken (mat_name k) ≡ true) → (q : Name) → is_among (first_names n) q ≡ true → is_among taken q ≡ true
member taken zero each q h = absurd (true≢false (sym h))
member taken (suc n) each q h = go (same_name q (mat_name n)) refl (member taken n (λ k below. each k (omega (arith, below))) q) h
  where
    go : (b : Bool) → same_name q (mat_name n) ≡ b → (is_among (first_names n) q ≡ true → is_among taken q ≡ true) → (b || is_among (first_names n) q) ≡ true → is_among taken q ≡ true
    go true e rest found = subst (λ (x : Name). is_among taken x ≡ true) (sym (same_text q (mat_name n) (sym e))) (each n (omega arith))
    go false e rest found = rest found

-- as many names are taken as the first of them are
pub taken_many : (taken : List Name) (n : ℕ) → n ≤ 2 ^ 64 → ((k : ℕ) → k < n → is_among taken (mat_name k) ≡ true) → n ≤ length taken
taken_many taken n small each =
    subst (λ (k : ℕ). k ≤ length taken) (length-first_names n) (length-le_from_is_member nat_list_eq_equiv (first_names n) taken (distinct n small) (member taken n each))

-- the first name that isn't taken
pub first_free : (taken : List Name) (n : ℕ) (name : Name) → name ≡ mat_name n → is_among taken name ≡ false → ((k : ℕ) → k < n → is_among taken (mat_name k) ≡ true) → IsLeastFree taken name
first_free taken n name e free each = (n, e, free, each)

-- not all of the first names are taken, of which there is one more than names that are
pub one_free : (draft : DraftTree) (made : List NewTable) (n : ℕ) → length draft.tables + length made ≡ n → n < 2 ^ 64
    → ((k : ℕ) → k < n → is_among (taken_names draft made) (mat_name k) ≡ true)
    → is_among (taken_names draft made) (mat_name n) ≡ true → ⊥
one_free draft made n size small each last =
    let taken = taken_names draft made in
    let many = taken_many taken (n + 1) (omega arith) each_one in
    let old = length-map draft.tables (λ (d : TableDecl). d.name) in
    let new = length-map made (λ (m : NewTable). m.table) in
    let count = length-append (table_names draft) (new_names made) in
    omega (arith, many, old, new, count, size)
  where
    each_one : (k : ℕ) → k < n + 1 → is_among (taken_names draft made) (mat_name k) ≡ true
    each_one k below = go (cases_lt k n)
      where
        go : (k < n) ⊎ (n ≤ k) → is_among (taken_names draft made) (mat_name k) ≡ true
        go (inl less) = each k less
        go (inr more) = let same : n ≡ k = omega (arith, below, more) in subst (λ (j : ℕ). is_among (taken_names draft made) (mat_name j) ≡ true) same last
