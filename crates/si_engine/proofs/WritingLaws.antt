-- Laws on what is added to a text, part by part.
use Rattle.std.proofs.Common.{◌≡◌, List, [], ◌++◌, ℕ, length, take, refl, sym, ap, subst, ◌∙◌, append_assoc, append-nil, string_bytes, Result, Ok, Err, OnOk, OnErr}
use Rattle.std.proofs.lemmas.Grind.{common_steps}
use Rattle.std.specs.Str.{IsCharBoundary}
use Rattle.std.specs.declared.alloc.AllocError.{AllocError}
use Rattle.std.specs.declared.string.String.{String}
use Rattle.si_engine.specs.Writing.{AddsOrStays, Keeps, AddsBytes}
use Rattle.si_engine.proofs.KeepLaws.{cut_back, kept_place, keeps_added, keeps_same, keeps_trans}

-- a word goes in as a whole, or not at all
pub writes_word : {Z : Type 0} (old new : String Z) (r : Result (Unit {0}) AllocError) (bytes : List ℕ) → OnOk r (string_bytes new ≡ string_bytes old ++ bytes) → OnErr r (string_bytes new ≡ string_bytes old) → AddsBytes old new r bytes
unfolding AddsBytes
writes_word old new (Ok done) bytes all none = all
writes_word old new (Err e) bytes all none = keeps_same (string_bytes old) (string_bytes new) none

-- nothing is added to a text that is the same
pub writes_nothing : {Z : Type 0} (old new : String Z) (v : Unit {0}) → string_bytes new ≡ string_bytes old → AddsBytes old new (Ok v) []
unfolding AddsBytes
writes_nothing old new v same = same ∙ sym (append-nil _)

-- where it stopped, it does not matter of what it was to be a part
pub writes_part : {Z : Type 0} (old new : String Z) (e f : AllocError) (x y : List ℕ) → AddsBytes old new (Err e) x → AddsBytes old new (Err f) y
unfolding AddsBytes
writes_part old new e f x y part = part

-- one behind the other
pub writes_both : {Z : Type 0} (old middle new : String Z) (v : Unit {0}) (r : Result (Unit {0}) AllocError) (x y z : List ℕ) → AddsBytes old middle (Ok v) x → AddsBytes middle new r y → z ≡ x ++ y → AddsBytes old new r z
unfolding AddsBytes
writes_both old middle new v (Ok w) x y z first second whole =
    second ∙ (ap (λ bs. bs ++ y) first ∙ (append_assoc (string_bytes old) x y ∙ ap (λ bs. string_bytes old ++ bs) (sym whole)))
writes_both old middle new v (Err e) x y z first second whole =
    keeps_trans (string_bytes old) (string_bytes middle) (string_bytes new) (keeps_added (string_bytes old) (string_bytes middle) x first) second

pub writes_three : {Z : Type 0} (a b c d : String Z) (v w : Unit {0}) (r : Result (Unit {0}) AllocError) (x y z whole : List ℕ) → AddsBytes a b (Ok v) x → AddsBytes b c (Ok w) y → AddsBytes c d r z → whole ≡ x ++ (y ++ z) → AddsBytes a d r whole
writes_three a b c d v w r x y z whole first second third is = writes_both a b d v r x (y ++ z) whole first (writes_both b c d w r y z (y ++ z) second third refl) is

-- one behind the other, of which the last stopped
pub stops_second : {Z : Type 0} (old middle new : String Z) (v : Unit {0}) (e f : AllocError) (x y z : List ℕ) → AddsBytes old middle (Ok v) x → AddsBytes middle new (Err e) y → AddsBytes old new (Err f) z
stops_second old middle new v e f x y z first second = writes_part old new e f (x ++ y) z (writes_both old middle new v (Err e) x y (x ++ y) first second refl)

pub stops_third : {Z : Type 0} (a b c d : String Z) (v w : Unit {0}) (e f : AllocError) (x y z whole : List ℕ) → AddsBytes a b (Ok v) x → AddsBytes b c (Ok w) y → AddsBytes c d (Err e) z → AddsBytes a d (Err f) whole
stops_third a b c d v w e f x y z whole first second third = writes_part a d e f (x ++ (y ++ z)) whole (writes_three a b c d v w (Err e) x y z (x ++ (y ++ z)) first second third refl)

pub ruleset writing_steps = (writes_word, writes_nothing, writes_part, writes_both, writes_three, stops_second, stops_third, append_assoc)

-- and those on lists that grow in a loop
pub ruleset growing_steps = (writing_steps, common_steps)

-- a text still begins as it did
writes_keeps : {Z : Type 0} (old new : String Z) (r : Result (Unit {0}) AllocError) (bytes : List ℕ) → AddsBytes old new r bytes → Keeps (string_bytes old) (string_bytes new)
unfolding AddsBytes
writes_keeps old new (Ok done) bytes added = keeps_added (string_bytes old) (string_bytes new) bytes added
writes_keeps old new (Err e) bytes kept = kept

-- where it did not stop, all was added
all_added : {Z : Type 0} (old middle new : String Z) (r : Result (Unit {0}) AllocError) (bytes : List ℕ) → AddsBytes old middle r bytes → OnOk r (string_bytes new ≡ string_bytes middle) → OnOk r (string_bytes new ≡ string_bytes old ++ bytes)
unfolding AddsBytes
all_added old middle new (Ok done) bytes added same = same ∙ added
all_added old middle new (Err e) bytes kept same = tt

-- ---- bytes were written behind a text, which is cut back where they stopped half way

module _ {Z : Type 0} (old middle : String Z) (r : Result (Unit {0}) AllocError) (bytes : List ℕ) (written : AddsBytes old middle r bytes) (start : ℕ) (began : start ≡ length (string_bytes old)) where
  pub may_be_cut : IsCharBoundary (string_bytes middle) start
  may_be_cut = kept_place old middle start began (writes_keeps old middle r bytes written)

  pub is_cut_back : (new : String Z) (q : Result (Unit {0}) AllocError) → q ≡ r →
      OnOk q (string_bytes new ≡ string_bytes middle) → OnErr q (string_bytes new ≡ take start (string_bytes middle)) → AddsOrStays old new q bytes
  is_cut_back new q same ok err = record {
    ok = all_added old middle new q bytes (subst (λ x. AddsBytes old middle x bytes) (sym same) written) ok;
    err = cut_back q (string_bytes old) (string_bytes middle) (string_bytes new) start began (writes_keeps old middle r bytes written) err;
  }
