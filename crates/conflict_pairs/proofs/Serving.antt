-- Values that serve keys, by their numbers.
use Rattle.std.proofs.Common.{◌≡◌, ℕ, ◌<◌, List, [], ◌∷◌, length, sym, subst, get_or}
use Rattle.std.specs.Prelude.{All, Some, slice_get}
use Rattle.std.proofs.lemmas.List.Elements.{All-nil, All-cons}
use Rattle.std.specs.List.{AllZip}
use Rattle.std.proofs.lemmas.Option.{get_or_from_slice_get, slice_get_within}
use Rattle.conflict_pairs.specs.Interning.{IsServed}
use Rattle.conflict_pairs.proofs.Zipped.{AllZip-at}

module _ {Key Value : Type 0} (Serves : Key → Value → Type 0) where
  -- a value that is still there serves its key still
  pub served-kept : (old new : List Value) → ((k : ℕ) (v : Value) → slice_get old k ≡ Some v → slice_get new k ≡ Some v) → (key : Key) (n : ℕ) → IsServed Serves old key n → IsServed Serves new key n
  served-kept old new keeps key n h = record { value = h.value; at = keeps n h.value h.at; serves = h.serves }

  pub served-within : (values : List Value) (key : Key) (n : ℕ) → IsServed Serves values key n → n < length values
  served-within values key n h = slice_get_within values n h.value h.at

  -- the value of a key's number serves it
  pub served-at : (values : List Value) (keys : List Key) (ns : List ℕ) (k : ℕ) (key : Key) (n d : ℕ) → AllZip (IsServed Serves values) keys ns → slice_get keys k ≡ Some key → n ≡ get_or ns k d → IsServed Serves values key n
  served-at values keys ns k key n d h at is =
      let there = AllZip-at (IsServed Serves values) keys ns k key d h (slice_get_within keys k key at) in
      subst (λ (m : ℕ). IsServed Serves values key m) (sym is)
      (subst (λ (w : Key). IsServed Serves values w (get_or ns k d)) (get_or_from_slice_get keys k key key at) there)

  -- each key's number is that of a value
  pub all-within : (values : List Value) (keys : List Key) (ns : List ℕ) → AllZip (IsServed Serves values) keys ns → All (λ n. n < length values) ns
  all-within values [] [] h = All-nil (λ n. n < length values)
  all-within values [] (n ∷ ns) h = absurd h
  all-within values (key ∷ keys) [] h = absurd h
  all-within values (key ∷ keys) (n ∷ ns) h = All-cons (λ n. n < length values) n ns (served-within values key n h.0) (all-within values keys ns h.1)
