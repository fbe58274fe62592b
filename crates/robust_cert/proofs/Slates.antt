-- Texts of the next entries on slates: there is room for them, and one behind the other they are what was to be written.
use Rattle.std.proofs.Common.{◌≡◌, ◌⊎◌, inl, inr, ◌<◌, ◌≤◌, ◌+◌, ◌*◌, ◌∷◌, [], ◌++◌, ℕ, List, length, take, drop, get_or, set, string_bytes, codes, refl, sym, ap, ◌∙◌, append_assoc, arith, zero, suc}
use Rattle.std.proofs.Math.Nat.{suc-mul}
use Rattle.std.proofs.lemmas.Bool.{cases_lt}
use Rattle.std.proofs.lemmas.Nat.{mul-le}
use Rattle.std.proofs.lemmas.List.{at_drop_more, drop_all, map-append, take_more, take_more_set}
use Rattle.std.proofs.lemmas.List.Elements.{All-head, All-weaker}
use Rattle.std.proofs.lemmas.Grind.{flat_map-append}
use Rattle.std.specs.Prelude.{All}
use Rattle.robust_cert.specs.declared.entries.Reason.{Reason}
use Rattle.robust_cert.specs.declared.entries.Reason.TheVariants.{Apart}
use Rattle.robust_cert.specs.declared.entries.Told.{Told}
use Rattle.robust_cert.specs.declared.text.slates.Slate.{Slate}
use Rattle.serde_json.specs.Written.{compact_text}
use Rattle.robust_cert.specs.Json.{entry_data}
use Rattle.robust_cert.specs.Parts.{tail_text, HasRoomFor}
use Rattle.robust_cert.specs.Pieces.{next_entries_text, entries_room}
use Rattle.robust_cert.specs.Sharing.{Entry, reason_at, entry_told, entries_told, HasReason}
use Rattle.robust_cert.specs.declared.text.slates.Slates.{Slates}
use Rattle.robust_cert.specs.Slates.{slates_entries, slates_left, slates_text}

-- once more is one time more
more-times : (n m : ℕ) → (n + 1) * m ≡ n * m + m
more-times n m = let one : n + 1 ≡ suc n = omega arith in ap (λ (k : ℕ). k * m) one ∙ suc-mul n m

-- stands for an entry where there is none
abbrev pub no_told : Told
no_told = record { question = record { x = 0; a = 0; y = 0; b = 0 }; reason = 0 }

module _ (rs : List Reason) where
  -- ---- room

  -- one entry more takes its room
  pub room_more : (ts : List Told) (i : ℕ) (d : Told) → i < length ts → entries_room rs (drop i ts) ≡ (length (tail_text (reason_at rs (get_or ts i d).reason)) + 64) + entries_room rs (drop (i + 1) ts)
  room_more ts i d lt = at_drop_more (entries_room rs) ts i d lt

  -- and so it does behind others
  room-append : (xs ys : List Told) → entries_room rs (xs ++ ys) ≡ entries_room rs xs + entries_room rs ys
  room-append [] ys = omega arith
  room-append (t ∷ ts) ys = omega (arith, room-append ts ys)

  pub room_taken : (ts : List Told) (i : ℕ) (d : Told) → i < length ts → entries_room rs (take (i + 1) ts) ≡ entries_room rs (take i ts) + (length (tail_text (reason_at rs (get_or ts i d).reason)) + 64)
  room_taken ts i d lt = omega (arith, ap (entries_room rs) (take_more ts i d lt), room-append (take i ts) (get_or ts i d ∷ []))

  -- where there is room for the text of any reason, there is in a wider text
  pub wider_room : (room wide : ℕ) → room ≤ wide → All (HasRoomFor room) rs → All (HasRoomFor wide) rs
  wider_room room wide le all =
      All-weaker (HasRoomFor room) (HasRoomFor wide) (λ (r : Reason) (h : HasRoomFor room r). omega (arith, h, le)) rs all

  -- one entry at least fits
  pub one_fits : (ts : List Told) (count bytes : ℕ) → All (HasReason rs) ts → All (HasRoomFor bytes) rs → (count < length ts → bytes < entries_room rs (take (count + 1) ts)) → 0 < length ts → 0 < count
  one_fits [] count bytes within short full some = absurd (omega (arith, some))
  one_fits (t ∷ ts) zero bytes within short full some =
      let first : length (tail_text (reason_at rs t.reason)) + 64 ≤ bytes = short t.reason (Apart []) (All-head (HasReason rs) t ts within) in
      let over : bytes < entries_room rs (take (0 + 1) (t ∷ ts)) = full (omega arith) in
      let number : 0 + 1 ≡ suc zero = omega arith in
      let one = ap (λ (n : ℕ). entries_room rs (take n (t ∷ ts))) number in
      absurd (omega (arith, first, over, one))
  one_fits (t ∷ ts) (suc count) bytes within short full some = omega arith

  -- ---- texts

  abbrev pub next : List Told → List ℕ
  next ts = next_entries_text (entries_told rs ts)

  pub next-append : (xs ys : List Told) → next (xs ++ ys) ≡ next xs ++ next ys
  next-append xs ys =
      ap next_entries_text (map-append (entry_told rs) xs ys)
      ∙ flat_map-append (λ e. codes "," ++ compact_text (entry_data e)) (entries_told rs xs) (entries_told rs ys)

  -- slates have the texts of the entries that others were to have
  abbrev pub AreWritten : List Slate → List Slate → Type 0
  AreWritten before after = (k : ℕ) (d : Slate) → k < length after → string_bytes (get_or after k d).text ≡ next (get_or before k d).entries.now

  pub all_written : (before after : List Slate) → length before ≡ length after → AreWritten before after → slates_text after ≡ next (slates_entries before)
  all_written [] [] same h = refl
  all_written [] (s ∷ ss) same h = absurd (omega (arith, same))
  all_written (b ∷ bs) [] same h = absurd (omega (arith, same))
  all_written (b ∷ bs) (s ∷ ss) same h =
      let later : AreWritten bs ss = λ k d lt. h (suc k) d (omega (arith, lt)) in
      ap (λ (l : List ℕ). string_bytes s.text ++ l) (all_written bs ss (omega (arith, same)) later)
      ∙ ap (λ (l : List ℕ). l ++ next (slates_entries bs)) (h 0 s (omega arith))
      ∙ sym (next-append b.entries.now (slates_entries bs))

-- ---- one after the other

-- one slate more takes its entries from those that were left
pub one_more : (slates : List Slate) (n : ℕ) (s : Slate) (told left behind : List Told) → n < length slates → slates_entries (take n slates) ++ left ≡ told → s.entries.now ++ behind ≡ left
    → slates_entries (take (n + 1) (set slates n s)) ++ behind ≡ told
one_more slates n s told left behind lt all own =
    ap (λ (l : List Slate). slates_entries l ++ behind) (take_more_set slates n s lt)
    ∙ ap (λ (l : List Told). l ++ behind) (flat_map-append (λ (t : Slate). t.entries.now) (take n slates) (s ∷ []))
    ∙ append_assoc (slates_entries (take n slates)) (s.entries.now ++ []) behind
    ∙ ap (λ (l : List Told). slates_entries (take n slates) ++ l) (append_assoc s.entries.now [] behind ∙ own)
    ∙ all

-- nothing is left of slates that are all given
pub none_left : (slates : Slates) → (slates.given < length slates.all.items → ⊥) → slates_left slates ≡ []
none_left slates past = drop_all slates.given slates.all.items (omega (arith, past))

-- where one is taken from those that are left, if there is one, fewer stand behind it than there were
pub fewer_behind : (told left behind : ℕ) → 0 < told → left ≤ told → behind ≤ left → (0 < left → behind < left) → behind < told
fewer_behind told left behind some most no_more one = by (cases_lt 0 left)
  where
    by : (0 < left) ⊎ (left ≤ 0) → behind < told
    by (inl more) = omega (arith, one more, most)
    by (inr none) = omega (arith, none, some, no_more)

-- one less is so many less
pub times_less : (n rest left : ℕ) → rest < left → rest * (n + 1) + (n + 1) ≤ left * (n + 1)
times_less n rest left less =
    let product : (rest + 1) * (n + 1) ≡ rest * (n + 1) + (n + 1) = more-times rest (n + 1) in
    omega (arith, mul-le (rest + 1) (n + 1) left (n + 1) (omega (arith, less)) (omega arith), product)

-- a round takes at least one entry where it takes a slate
pub fewer_left : (slates left rest : ℕ) → (0 < slates → rest < left) → rest ≤ left → slates + rest * (slates + 1) ≤ left * (slates + 1)
fewer_left slates left rest one most = by (cases_lt 0 slates)
  where
    by : (0 < slates) ⊎ (slates ≤ 0) → slates + rest * (slates + 1) ≤ left * (slates + 1)
    by (inl some) = omega (arith, times_less slates rest left (one some))
    by (inr none) =
        let product = mul-le rest (slates + 1) left (slates + 1) most (omega arith) in
        omega (arith, product, none)

-- and leaves a slate that is to be given, or all entries
pub some_left : (slates left rest : ℕ) → 0 < left → (slates ≡ 0 → rest ≡ left) → 0 < slates + rest * (slates + 1)
some_left slates left rest some all = by (cases_lt 0 slates)
  where
    by : (0 < slates) ⊎ (slates ≤ 0) → 0 < slates + rest * (slates + 1)
    by (inl one) = omega (arith, one)
    by (inr none) =
        let product = mul-le 1 1 rest (slates + 1) (omega (arith, some, all (omega (arith, none)))) (omega arith) in
        omega (arith, product)
