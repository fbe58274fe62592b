-- Where lines begin and end.
use Rattle.std.proofs.Common.{◌≡◌, ◌∙◌, ◌<◌, ◌+◌, ◌++◌, ℕ, Bool, true, false, List, [], ◌∷◌, Option, Some, None, zero, suc, length, take, drop, get_or, nat_eq, refl, sym, ap, arith}
use Rattle.std.proofs.lemmas.Bool.Decides.{nat_tests}
use Rattle.std.proofs.Common.{◌≢◌, cond, append_assoc, subst}
use Rattle.std.proofs.Math.Seq.{take-add}
use Rattle.std.proofs.lemmas.Grind.{common_steps}
use Rattle.std.specs.Prelude.{MatchOption, is_some}
use Rattle.std.specs.Borrow.{Bor}
use Rattle.run_words.specs.PartPointing.{begins_separator}
use Rattle.sirob.specs.Parts.{before_lines, full_lines_of, parts_of, parts_in, before_parts}

-- up to the first line feed
pub line_to_feed : (bs : List ℕ) (n : ℕ) → n < length bs → ((k : ℕ) → k < n → get_or bs k 0 ≢ 10) → get_or bs n 0 ≡ 10
    → full_lines_of bs ≡ take (suc n) bs ∷ full_lines_of (drop (suc n) bs)
line_to_feed [] n lt below here = absurd (omega arith)
line_to_feed (b ∷ bs) zero lt below here = rw here refl
line_to_feed (b ∷ bs) (suc n) lt below here =
    let rest = line_to_feed bs n (omega arith) (λ k less. below (suc k) (omega arith)) here in
    let first : nat_eq b 10 ≡ false = grind (arith, nat_tests, below 0 (omega arith)) in
    rw first (ap (before_lines b) rest)

-- with no line feed all is one line
pub line_to_end : (bs : List ℕ) → 0 < length bs → ((k : ℕ) → k < length bs → get_or bs k 0 ≢ 10) → full_lines_of bs ≡ bs ∷ []
line_to_end [] some below = absurd (omega arith)
line_to_end (b ∷ []) some below =
    let first : nat_eq b 10 ≡ false = grind (arith, nat_tests, below 0 (omega arith)) in
    rw first refl
line_to_end (b ∷ c ∷ bs) some below =
    let rest = line_to_end (c ∷ bs) (omega arith) (λ k less. below (suc k) (omega arith)) in
    let first : nat_eq b 10 ≡ false = grind (arith, nat_tests, below 0 (omega arith)) in
    rw first (ap (before_lines b) rest)

-- there is always a part
pub has_part : (lines : List (List ℕ)) → 0 < length (parts_in lines)
has_part [] = omega arith
has_part (line ∷ lines) = go (begins_separator line) (parts_in lines)
  where
    go : (b : Bool) (ps : List (List ℕ)) → 0 < length (cond b ([] ∷ ps) (before_parts line ps))
    go true ps = omega arith
    go false [] = omega arith
    go false (p ∷ ps) = omega arith

pub parts_of-some : (bs : List ℕ) → 0 < length (parts_of bs)
parts_of-some bs = has_part (full_lines_of bs)

-- nothing before the parts leaves them as they are
pub before_parts-nil : (ps : List (List ℕ)) → 0 < length ps → before_parts [] ps ≡ ps
before_parts-nil [] some = absurd (omega arith)
before_parts-nil (p ∷ ps) some = refl

-- two lines before the parts are one text before them
pub before_parts-twice : (a b : List ℕ) (ps : List (List ℕ)) → before_parts a (before_parts b ps) ≡ before_parts (a ++ b) ps
before_parts-twice a b [] = refl
before_parts-twice a b (p ∷ ps) = ap (λ (l : List ℕ). l ∷ ps) (sym (append_assoc a b p))

-- a first line that is no separator begins the first part
pub parts_of-line : (bs line : List ℕ) → full_lines_of bs ≡ line ∷ full_lines_of (drop (length line) bs) → begins_separator line ≡ false
    → parts_of bs ≡ before_parts line (parts_of (drop (length line) bs))
parts_of-line bs line first plain = ap parts_in first ∙ rw plain refl

-- the text so far takes one more line
pub one_more_line : (bs line : List ℕ) (at : ℕ) → parts_of bs ≡ before_parts (take at bs) (parts_of (drop at bs))
    → full_lines_of (drop at bs) ≡ line ∷ full_lines_of (drop (length line) (drop at bs)) → begins_separator line ≡ false → line ≡ take (length line) (drop at bs)
    → parts_of bs ≡ before_parts (take (at + length line) bs) (parts_of (drop (at + length line) bs))
one_more_line bs line at same first plain front =
    let next = parts_of-line (drop at bs) line first plain in
    let grown : take at bs ++ line ≡ take (at + length line) bs = ap (λ (l : List ℕ). take at bs ++ l) front ∙ sym (take-add at (length line) bs) in
    let behind : drop (length line) (drop at bs) ≡ drop (at + length line) bs = grind (arith, common_steps) in
    same ∙ ap (before_parts (take at bs)) next ∙ before_parts-twice (take at bs) line _ ∙ (λ i. before_parts (grown i) (parts_of (behind i)))

-- what stands behind a separator has a part of its own
pub two_parts : (all p : List ℕ) (o : Option (Bor (List ℕ))) → MatchOption o (parts_of all ≡ p ∷ []) (λ b. parts_of all ≡ p ∷ parts_of b.now) → is_some o ≡ true
    → 1 < length (parts_of all)
two_parts all p None first some = cc
two_parts all p (Some b) first some = omega (arith, ap length first, parts_of-some b.now)

-- and a second separator makes a third part
pub three_parts : (all p q : List ℕ) (r : Bor (List ℕ)) (o more : Option (Bor (List ℕ))) → o ≡ Some r
    → MatchOption o (parts_of all ≡ p ∷ []) (λ b. parts_of all ≡ p ∷ parts_of b.now)
    → MatchOption more (parts_of r.now ≡ q ∷ []) (λ b. parts_of r.now ≡ q ∷ parts_of b.now) → is_some more ≡ true → 2 < length (parts_of all)
three_parts all p q r o None is first second some = cc
three_parts all p q r o (Some b) is first second some =
    let begins : parts_of all ≡ p ∷ parts_of r.now =
    subst (λ (x : Option (Bor (List ℕ))). MatchOption x (parts_of all ≡ p ∷ []) (λ b. parts_of all ≡ p ∷ parts_of b.now)) is first in
    omega (arith, ap length begins, ap length second, parts_of-some b.now)
