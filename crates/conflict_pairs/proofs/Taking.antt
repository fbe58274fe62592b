-- A list that each item of another one adds to.
use Rattle.std.proofs.Common.{◌≡◌, ℕ, ◌<◌, ◌+◌, List, [], ◌∷◌, ◌++◌, length, get_or, map, take, append_assoc, sym, ap, ◌∙◌}
use Rattle.std.proofs.lemmas.List.{map_more}

pub mapped-more : (f : ℕ → ℕ) (base old new xs : List ℕ) (k d m : ℕ) → k < length xs → m ≡ f (get_or xs k d) → new ≡ old ++ m ∷ [] → old ≡ base ++ map f (take k xs) → new ≡ base ++ map f (take (k + 1) xs)
mapped-more f base old new xs k d m lt is added h =
    added
    ∙ (λ i. h i ++ is i ∷ [])
    ∙ append_assoc base (map f (take k xs)) (f (get_or xs k d) ∷ [])
    ∙ ap (λ (l : List ℕ). base ++ l) (sym (map_more f xs k d lt))
