-- Lists that rise, and the order of pairs of numbers.
use Rattle.std.proofs.Common.{◌≡◌, ℕ, ◌<◌, ◌⊎◌, inl, inr, List, [], ◌∷◌, ◌++◌, get_or, refl, sym, subst, ◌∙◌, arith, Contains}
use Rattle.std.proofs.lemmas.Bool.{cases_order}
use Rattle.std.proofs.lemmas.List.Elements.{All-nil, All-append, All-contains, Contains-append_left, Contains-append_right, Contains-append_cases, Contains-get_or}
use Rattle.prog_tree.proofs.Elements.{contains_only}
use Rattle.prog_paths.specs.StaticGraph.{Precedes, Rises}

-- ---- lists in two parts

module _ {A : Type 0} (R : A → A → Type 0) where
  pub rises-append : (xs ys : List A) → Rises R xs → Rises R ys → ((x y : A) → Contains xs x → Contains ys y → R x y) → Rises R (xs ++ ys)
  rises-append [] ys h k across = k
  rises-append (x ∷ xs) ys h k across = (
    All-append (R x) xs ys h.0 (λ n d lt. across x (get_or ys n d) (0, omega arith, refl) (Contains-get_or ys n d lt)),
    rises-append xs ys h.1 k (λ y z i j. across y z (Contains-append_right (x ∷ []) xs y i) j),
  )

  pub rises-push : (xs : List A) (x : A) → Rises R xs → ((y : A) → Contains xs y → R y x) → Rises R (xs ++ x ∷ [])
  rises-push xs x h before =
      rises-append xs (x ∷ []) h (All-nil (R x), tt) (λ y z i j. subst (R y) (contains_only x z j) (before y i))

  pub rises-left : (xs ys : List A) → Rises R (xs ++ ys) → Rises R xs
  rises-left [] ys h = tt
  rises-left (x ∷ xs) ys h = (
    (λ n d lt. All-contains (R x) (xs ++ ys) (get_or xs n d) h.0 (Contains-append_left xs ys (get_or xs n d) (Contains-get_or xs n d lt))),
    rises-left xs ys h.1,
  )

  pub rises-right : (xs ys : List A) → Rises R (xs ++ ys) → Rises R ys
  rises-right [] ys h = h
  rises-right (x ∷ xs) ys h = rises-right xs ys h.1

  -- the first part stands before the second
  pub rises-across : (xs ys : List A) (x y : A) → Rises R (xs ++ ys) → Contains xs x → Contains ys y → R x y
  rises-across [] ys x y h i j = let none = i.1 in absurd (omega (arith, none))
  rises-across (z ∷ xs) ys x y h i j = go (Contains-append_cases (z ∷ []) xs x i) (λ k. rises-across xs ys x y h.1 k j)
    where
      go : Contains (z ∷ []) x ⊎ Contains xs x → (Contains xs x → R x y) → R x y
      go (inl k) later =
          subst (λ (w : A). R w y) (contains_only z x k) (All-contains (R z) (xs ++ ys) y h.0 (Contains-append_right xs ys y j))
      go (inr k) later = later k

-- ---- pairs of numbers

pub Precedes-trans : (x a y b z c : ℕ) → Precedes x a y b → Precedes y b z c → Precedes x a z c
Precedes-trans x a y b z c (inl h) (inl k) = inl (omega (arith, h, k))
Precedes-trans x a y b z c (inl h) (inr (e, k)) = inl (omega (arith, h, e))
Precedes-trans x a y b z c (inr (e, h)) (inl k) = inl (omega (arith, e, k))
Precedes-trans x a y b z c (inr (e, h)) (inr (f, k)) = inr (e ∙ f, omega (arith, h, k))

pub Precedes-irreflexive : (x a : ℕ) → Precedes x a x a → ⊥
Precedes-irreflexive x a (inl h) = absurd (omega (arith, h))
Precedes-irreflexive x a (inr (e, h)) = absurd (omega (arith, h))

pub Precedes-cases : (x a y b : ℕ) → Precedes x a y b ⊎ (Precedes y b x a ⊎ ((x ≡ y) × (a ≡ b)))
Precedes-cases x a y b = go (cases_order x y) (cases_order a b)
  where
    go : (x ≡ y) ⊎ ((x < y) ⊎ (y < x)) → (a ≡ b) ⊎ ((a < b) ⊎ (b < a)) → Precedes x a y b ⊎ (Precedes y b x a ⊎ ((x ≡ y) × (a ≡ b)))
    go (inr (inl h)) _ = inl (inl h)
    go (inr (inr h)) _ = inr (inl (inl h))
    go (inl e) (inl f) = inr (inr (e, f))
    go (inl e) (inr (inl h)) = inl (inr (e, h))
    go (inl e) (inr (inr h)) = inr (inl (inr (sym e, h)))
