-- Words and the bytes that they begin with.
use Rattle.std.proofs.Common.{◌≡◌, ◌+◌, ℕ, suc, Bool, true, false, if◌then◌else◌, List, [], ◌∷◌, length, take, bytes_eq, refl, ap, nat_lt, slice_index_or, subst, arith}
use Rattle.std.specs.List.{prefix_len}
use Rattle.std.proofs.lemmas.Slice.Eq.{bytes_eq-Decides}
use Rattle.prog_text.specs.Lexing.{is_word_byte}
use Rattle.text_places.specs.Reading.{short_word}

-- texts with other first bytes are other texts
others_differ : (b w : ℕ) (bs ws : List ℕ) → (b ≡ w → ⊥) → (same : Bool) → bytes_eq (b ∷ bs) (w ∷ ws) ≡ same → false ≡ same
others_differ b w bs ws other true is =
    let same = (bytes_eq-Decides (b ∷ bs) (w ∷ ws)).0 is in
    absurd (other (ap (λ xs. slice_index_or xs 0 0) same))
others_differ b w bs ws other false is = refl

-- bytes that begin with another one than a word does not begin with the word
pub other_front :
    (bytes word : List ℕ) → nat_lt (length word) 1 ≡ false → (slice_index_or bytes 0 0 ≡ slice_index_or word 0 0 → ⊥) → false ≡ bytes_eq (short_word bytes) word
other_front bytes [] some other = absurd (cc)
other_front [] (w ∷ ws) some other = refl
other_front (b ∷ bs) (w ∷ ws) some other = go (is_word_byte b)
  where
    go : (begins : Bool) → false ≡ bytes_eq (take (if begins then 1 + prefix_len is_word_byte (take 7 bs) else 0) (b ∷ take 7 bs)) (w ∷ ws)
    go true =
        let left = prefix_len is_word_byte (take 7 bs) in
        let rest = take left (take 7 bs) in
        let more : suc left ≡ 1 + left = omega arith in
        subst (λ n. false ≡ bytes_eq (take n (b ∷ take 7 bs)) (w ∷ ws)) more (others_differ b w rest ws other (bytes_eq (b ∷ rest) (w ∷ ws)) refl)
    go false = refl
