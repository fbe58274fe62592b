-- Entries as questions that have the numbers of their reasons.
use Rattle.std.proofs.Common.{◌≡◌, ℕ, ◌<◌, List, [], ◌∷◌, ◌++◌, length, get_or, refl, sym, subst, ap, ◌∙◌, arith, zero, suc, Some}
use Rattle.std.specs.Prelude.{All, slice_get}
use Rattle.std.proofs.lemmas.List.{length-map, length-append, map-append, get_or_append_left}
use Rattle.std.proofs.lemmas.List.Elements.{All-head, All-tail, All-push}
use Rattle.std.proofs.lemmas.Option.{same_Some, none-some, get_or_from_slice_get, slice_get-get_or}
use Rattle.robust_cert.specs.declared.certificate.EntryQuestion.{EntryQuestion}
use Rattle.robust_cert.specs.declared.entries.Reason.{Reason}
use Rattle.robust_cert.specs.declared.entries.Reason.TheVariants.{Apart}
use Rattle.robust_cert.specs.declared.entries.Told.{Told}
use Rattle.robust_cert.specs.Sharing.{Entry, entry_with, reason_at, entry_told, entries_told, HasReason}

-- the entry of a number
pub entry_at : (entries : List Entry) (k : ℕ) → k < length entries → (e : Entry) × (slice_get entries k ≡ Some e) × (get_or entries k e ≡ e)
entry_at [] k lt = absurd (omega arith)
entry_at (e ∷ rest) zero lt = (e, refl, refl)
entry_at (e ∷ rest) (suc k) lt = entry_at rest k (omega (arith, lt))

-- ---- reasons with their numbers

-- a reason that is there doesn't depend on what stands for a missing one
pub reason_any : (rs : List Reason) (n : ℕ) (d : Reason) → n < length rs → get_or rs n d ≡ reason_at rs n
reason_any rs n d lt = get_or_from_slice_get rs n (reason_at rs n) d (slice_get-get_or rs n (Apart []) lt)

module _ (rs : List Reason) where
  pub told-length : (ts : List Told) → length (entries_told rs ts) ≡ length ts
  told-length ts = length-map ts (entry_told rs)

  pub told-none : (ts : List Told) → (ts ≡ [] → entries_told rs ts ≡ []) × (entries_told rs ts ≡ [] → ts ≡ [])
  told-none [] = (λ e. refl, λ e. refl)
  told-none (t ∷ ts) = (λ e. absurd (cc), λ e. absurd (cc))

  -- the entry of a number
  pub told-at : (ts : List Told) (k : ℕ) (t : Told) (e : Entry) → slice_get (entries_told rs ts) k ≡ Some e → e ≡ entry_told rs (get_or ts k t)
  told-at [] k t e at = absurd (none-some e at)
  told-at (u ∷ ts) zero t e at = sym (same_Some (entry_told rs u) e at)
  told-at (u ∷ ts) (suc k) t e at = told-at ts k t e at

  pub asked-at : (ts : List Told) (k : ℕ) (t : Told) (e : Entry) → slice_get (entries_told rs ts) k ≡ Some e → e.question ≡ (get_or ts k t).question
  asked-at ts k t e at = ap (λ (x : Entry). x.question) (told-at ts k t e at)

  pub reason-at : (ts : List Told) (k : ℕ) (t : Told) (e : Entry) → slice_get (entries_told rs ts) k ≡ Some e → e.reason ≡ reason_at rs (get_or ts k t).reason
  reason-at ts k t e at = ap (λ (x : Entry). x.reason) (told-at ts k t e at)

  -- an entry like another one
  pub told-like : (ts : List Told) (k : ℕ) (t : Told) (q : EntryQuestion) (e : Entry) → slice_get (entries_told rs ts) k ≡ Some e → entry_told rs record { question = q; reason = (get_or ts k t).reason } ≡ entry_with q e.reason
  told-like ts k t q e at = ap (entry_with q) (sym (reason-at ts k t e at))

  -- one entry more
  pub told-push : (ts : List Told) (t : Told) → entries_told rs (ts ++ t ∷ []) ≡ entries_told rs ts ++ entry_told rs t ∷ []
  told-push ts t = map-append (entry_told rs) ts (t ∷ [])

-- ---- one reason more

module _ (rs : List Reason) (r : Reason) where
  pub within-longer : (t : Told) → HasReason rs t → HasReason (rs ++ r ∷ []) t
  within-longer t lt = subst (λ (n : ℕ). t.reason < n) (sym (length-append rs (r ∷ []))) (omega (arith, lt))

  pub all-within-longer : (ts : List Told) → All (HasReason rs) ts → All (HasReason (rs ++ r ∷ [])) ts
  all-within-longer ts h k d lt = within-longer (get_or ts k d) (h k d lt)

  pub last-within : (q : EntryQuestion) → HasReason (rs ++ r ∷ []) record { question = q; reason = length rs }
  last-within q = subst (λ (n : ℕ). length rs < n) (sym (length-append rs (r ∷ []))) (omega arith)

  entry-longer : (t : Told) → HasReason rs t → entry_told (rs ++ r ∷ []) t ≡ entry_told rs t
  entry-longer t lt = ap (entry_with t.question) (get_or_append_left rs (r ∷ []) (Apart []) t.reason lt)

  pub told-longer : (ts : List Told) → All (HasReason rs) ts → entries_told (rs ++ r ∷ []) ts ≡ entries_told rs ts
  told-longer [] h = refl
  told-longer (t ∷ ts) h =
      ap (λ (e : Entry). e ∷ entries_told (rs ++ r ∷ []) ts) (entry-longer t (All-head (HasReason rs) t ts h))
      ∙ ap (λ (l : List Entry). entry_told rs t ∷ l) (told-longer ts (All-tail (HasReason rs) t ts h))

  last-reason : (xs : List Reason) → get_or (xs ++ r ∷ []) (length xs) (Apart []) ≡ r
  last-reason [] = refl
  last-reason (x ∷ xs) = last-reason xs

  -- an entry with the last reason
  pub entry-last : (q : EntryQuestion) → entry_told (rs ++ r ∷ []) record { question = q; reason = length rs } ≡ entry_with q r
  entry-last q = ap (entry_with q) (last-reason rs)

  pub told-own : (ts : List Told) (q : EntryQuestion) → All (HasReason rs) ts
      → entries_told (rs ++ r ∷ []) (ts ++ record { question = q; reason = length rs } ∷ []) ≡ entries_told rs ts ++ entry_with q r ∷ []
  told-own ts q h =
      told-push (rs ++ r ∷ []) ts record { question = q; reason = length rs }
      ∙ ap (λ (l : List Entry). l ++ entry_told (rs ++ r ∷ []) record { question = q; reason = length rs } ∷ []) (told-longer ts h)
      ∙ ap (λ (e : Entry). entries_told rs ts ++ e ∷ []) (entry-last q)

  pub all-within-own : (ts : List Told) (q : EntryQuestion) → All (HasReason rs) ts → All (HasReason (rs ++ r ∷ [])) (ts ++ record { question = q; reason = length rs } ∷ [])
  all-within-own ts q h = All-push (HasReason (rs ++ r ∷ [])) ts record { question = q; reason = length rs } (all-within-longer ts h) (last-within q)
