-- Laws on a text that grows, and is cut back where its growth stopped half way.
use Rattle.std.proofs.Common.{◌≡◌, ◌≤◌, List, [], ◌++◌, ℕ, length, take, sym, subst, ap, ◌∙◌, append_assoc, append-nil, string_bytes, arith, Result, Ok, Err, OnErr}
use Rattle.std.specs.Str.{IsUtf8, IsCharBoundary}
use Rattle.std.specs.declared.string.String.{String}
use Rattle.std.proofs.Math.Seq.{take-append_seam}
use Rattle.std.proofs.lemmas.List.{length-append}
use Rattle.std.proofs.lemmas.Str.{IsUtf8-string_bytes, IsCharBoundary-from_take}
use Rattle.si_engine.specs.Writing.{Keeps}

pub keeps_same : (a b : List ℕ) → b ≡ a → Keeps a b
unfolding Keeps
keeps_same a b same = ([], same ∙ sym (append-nil a))

pub keeps_added : (a b x : List ℕ) → b ≡ a ++ x → Keeps a b
unfolding Keeps
keeps_added a b x same = (x, same)

pub keeps_trans : (a b c : List ℕ) → Keeps a b → Keeps b c → Keeps a c
unfolding Keeps
keeps_trans a b c (x, more) (rest, is) = (x ++ rest, is ∙ (ap (λ t. t ++ rest) more ∙ append_assoc a x rest))

-- as far as it went before
pub keeps_first : (a b : List ℕ) → Keeps a b → take (length a) b ≡ a
unfolding Keeps
keeps_first a b (rest, is) = ap (take (length a)) is ∙ take-append_seam a rest

keeps_longer : (a b : List ℕ) → Keeps a b → length a ≤ length b
unfolding Keeps
keeps_longer a b (rest, is) = let sum = ap length is ∙ length-append a rest in omega (arith, sum)

-- so it may be cut there
pub kept_place : {Z : Type 0} (s t : String Z) (n : ℕ) → n ≡ length (string_bytes s) → Keeps (string_bytes s) (string_bytes t) → IsCharBoundary (string_bytes t) n
kept_place s t n is keeps =
    let first = ap (λ m. take m (string_bytes t)) is ∙ keeps_first (string_bytes s) (string_bytes t) keeps in
    let longer = keeps_longer (string_bytes s) (string_bytes t) keeps in
    IsCharBoundary-from_take (string_bytes t) n (IsUtf8-string_bytes t) (omega (arith, is, longer))
    (subst (λ (bs : List ℕ). IsUtf8 bs) (sym first) (IsUtf8-string_bytes s))

-- and is what it was
pub cut_back : {A E : Type 0} (r : Result A E) (a b c : List ℕ) (n : ℕ) → n ≡ length a → Keeps a b → OnErr r (c ≡ take n b) → OnErr r (c ≡ a)
cut_back (Ok x) a b c n is keeps cut = tt
cut_back (Err e) a b c n is keeps cut = cut ∙ (ap (λ m. take m b) is ∙ keeps_first a b keeps)
