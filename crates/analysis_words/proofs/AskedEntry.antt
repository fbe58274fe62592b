-- The question that a number of an entry stands for.
use Rattle.std.proofs.Common.{◌≡◌, ◌<◌, ◌≤◌, ◌⊎◌, ◌∙◌, inl, inr, ℕ, List, Some, None, ap, arith, get_or, length, option_map, slice_get, sym}
use Rattle.std.proofs.lemmas.Option.{slice_get_cases}
use Rattle.robust_cert.specs.Sharing.{Entry}
use Rattle.robust_cert.specs.declared.certificate.EntryQuestion.{EntryQuestion}

pub asked_within : (entries : List Entry) (k : ℕ) (told : EntryQuestion) → k < length entries
    → ((e : Entry) → slice_get entries k ≡ Some e → told ≡ e.question) → Some told ≡ option_map (λ (e : Entry). e.question) (slice_get entries k)
asked_within entries k told inside is = go (slice_get_cases entries k).1
  where
    go : ((e : Entry) × (k < length entries) × (slice_get entries k ≡ Some e) × (get_or entries k e ≡ e)) ⊎ ((length entries ≤ k) × (slice_get entries k ≡ None))
        → Some told ≡ option_map (λ (e : Entry). e.question) (slice_get entries k)
    go (inl (e, within, at, read)) = ap Some (is e at) ∙ sym (ap (option_map (λ (x : Entry). x.question)) at)
    go (inr (past, none)) = absurd (omega (arith, inside, past))
