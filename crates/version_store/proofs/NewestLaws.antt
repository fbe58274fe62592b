-- Laws of versions whose newest stands apart.
use Rattle.std.proofs.Common.{◌≡◌, ◌∙◌, ℕ, ℤ, ◌+◌, ◌≤◌, ◌&&◌, Bool, true, false, cond, leb, List, [], ◌∷◌, ◌++◌, refl, ap, sym, append_assoc, append-nil}
use Rattle.std.specs.List.{list_all}
use Rattle.std.specs.Prelude.{Option, Some, None, is_some, filter}
use Rattle.std.proofs.lemmas.Bool.{le-leb}
use Rattle.std.proofs.lemmas.List.Elements.{filter-append}
use Rattle.std.specs.Option.{option_to_list}
use Rattle.version_store.specs.Newest.{with_newest}
use Rattle.version_store.specs.Reading.{RisesFrom, value_after, version_numbers, last_number_or}
use Rattle.version_store.specs.Trimming.{shown, versions_kept}
use Rattle.version_store.proofs.TrimLaws.{value_append}

-- its number is the last
pub last_newest : (before : ℕ) (vs : List (ℕ × Option ℤ)) (v : ℕ × Option ℤ) → last_number_or before (version_numbers (vs ++ v ∷ [])) ≡ v.0
last_newest before [] v = refl
last_newest before (x ∷ vs) v = last_newest x.0 vs v

-- the older ones rise too
pub rises_older : (n : ℕ) (vs ws : List (ℕ × Option ℤ)) → RisesFrom n (vs ++ ws) → RisesFrom n vs
rises_older n [] ws rises = tt
rises_older n (v ∷ vs) ws rises = (rises.0, rises_older (v.0 + 1) vs ws rises.1)

-- from its number on it is read, and before it what the older ones hold
pub value_newest : (n : ℕ) (vs : List (ℕ × Option ℤ)) (v : ℕ × Option ℤ) → v.0 ≤ n → v.1 ≡ value_after n None (vs ++ v ∷ [])
value_newest n vs v low =
    ap (λ b. cond b v.1 (value_after n None vs)) (sym (le-leb v.0 n low)) ∙ sym (value_append n None vs (v ∷ []))

pub value_older : (n : ℕ) (vs : List (ℕ × Option ℤ)) (v : ℕ × Option ℤ) → leb v.0 n ≡ false → value_after n None vs ≡ value_after n None (vs ++ v ∷ [])
value_older n vs v high =
    ap (λ b. cond b v.1 (value_after n None vs)) (sym high) ∙ sym (value_append n None vs (v ∷ []))

-- where a test takes it, it stays behind what stays of the older ones; else these alone stay
pub newest_stays : (p : ℕ × Option ℤ → Bool) (vs : List (ℕ × Option ℤ)) (v : ℕ × Option ℤ) → p v ≡ true → filter p vs ++ v ∷ [] ≡ filter p (vs ++ v ∷ [])
newest_stays p vs v takes =
    ap (λ b. filter p vs ++ cond b (v ∷ []) []) (sym takes) ∙ sym (filter-append p vs (v ∷ []))

pub newest_goes : (p : ℕ × Option ℤ → Bool) (vs : List (ℕ × Option ℤ)) (v : ℕ × Option ℤ) → p v ≡ false → filter p vs ≡ filter p (vs ++ v ∷ [])
newest_goes p vs v refuses =
    sym (append-nil (filter p vs)) ∙ ap (λ b. filter p vs ++ cond b (v ∷ []) []) (sym refuses) ∙ sym (filter-append p vs (v ∷ []))

-- behind a version above the floor nothing goes
pub kept_behind : (f : ℕ) (held vs : List (ℕ × Option ℤ)) (v : ℕ × Option ℤ) → list_all (λ (w : ℕ × Option ℤ). leb w.0 f) vs ≡ false →
    versions_kept f held vs ++ v ∷ [] ≡ versions_kept f held (vs ++ v ∷ [])
kept_behind f held [] v above = absurd (cc)
kept_behind f held (w ∷ vs) v above = go (leb w.0 f) above (λ rest. kept_behind f (shown w.0 w.1) vs v rest)
  where
    go : (b : Bool) → (b && list_all (λ (w : ℕ × Option ℤ). leb w.0 f) vs) ≡ false
        → (list_all (λ (w : ℕ × Option ℤ). leb w.0 f) vs ≡ false → versions_kept f (shown w.0 w.1) vs ++ v ∷ [] ≡ versions_kept f (shown w.0 w.1) (vs ++ v ∷ []))
        → cond b (versions_kept f (shown w.0 w.1) vs) (held ++ w ∷ vs) ++ v ∷ [] ≡ cond b (versions_kept f (shown w.0 w.1) (vs ++ v ∷ [])) (held ++ w ∷ (vs ++ v ∷ []))
    go true rest more = more rest
    go false rest more = append_assoc held (w ∷ vs) (v ∷ [])

-- where all are at most the floor, the newest alone is left, unless it is a removal
pub kept_newest : (f : ℕ) (held vs : List (ℕ × Option ℤ)) (v : ℕ × Option ℤ) → v.0 ≤ f → list_all (λ (w : ℕ × Option ℤ). leb w.0 f) vs ≡ true →
    shown v.0 v.1 ≡ versions_kept f held (vs ++ v ∷ [])
kept_newest f held [] v low within = ap (λ b. cond b (shown v.0 v.1) (held ++ v ∷ [])) (sym (le-leb v.0 f low))
kept_newest f held (w ∷ vs) v low within = go (leb w.0 f) within (λ rest. kept_newest f (shown w.0 w.1) vs v low rest)
  where
    go : (b : Bool) → (b && list_all (λ (w : ℕ × Option ℤ). leb w.0 f) vs) ≡ true
        → (list_all (λ (w : ℕ × Option ℤ). leb w.0 f) vs ≡ true → shown v.0 v.1 ≡ versions_kept f (shown w.0 w.1) (vs ++ v ∷ []))
        → shown v.0 v.1 ≡ cond b (versions_kept f (shown w.0 w.1) (vs ++ v ∷ [])) (held ++ w ∷ (vs ++ v ∷ []))
    go true rest more = more rest
    go false rest more = absurd (cc)

pub shown_value : (k : ℕ) (o : Option ℤ) → is_some o ≡ true → (k, o) ∷ [] ≡ shown k o
shown_value k None some = absurd (cc)
shown_value k (Some x) some = refl

pub shown_removal : (k : ℕ) (o : Option ℤ) → is_some o ≡ false → [] ≡ shown k o
shown_removal k None none = refl
shown_removal k (Some x) none = absurd (cc)

pub with_last : (vs : List (ℕ × Option ℤ)) (o : Option (ℕ × Option ℤ)) → with_newest vs o ≡ vs ++ option_to_list o
with_last vs None = sym (append-nil vs)
with_last vs (Some v) = refl
