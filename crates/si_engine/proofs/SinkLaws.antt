-- Laws on texts that are under way to a sink.
use Rattle.std.proofs.Common.{◌≡◌, List, [], ◌++◌, ℕ, ◌+◌, length, take, Bool, true, false, Option, refl, sym, ap, subst, ◌∙◌, append_assoc}
use Rattle.std.proofs.Math.Seq.{take-append-add}
use Rattle.std.proofs.KnownBytes.{Appends-nil, Appends-trans}
use Rattle.std.specs.Io.KnownBytes.{Appends}
use Rattle.si_engine.specs.Writing.{AppendsFront, IsJust, IsUnderWay, WritesOr, WritesSoFar}

-- bytes, and then some first of others
pub front_behind : (old mid new : Option (List ℕ)) (first second : List ℕ) → Appends old mid first → AppendsFront mid new second → AppendsFront old new (first ++ second)
front_behind old mid new first second appends (n, more) =
    (length first + n, subst (Appends old new) (sym (take-append-add first second n)) (Appends-trans old mid new first (take n second) appends more))

-- all of a text waits
pub all_waits : (old : Option (List ℕ)) (text : List ℕ) → IsUnderWay text old old text
all_waits old text = ([], refl, Appends-nil old)

-- more bytes wait
pub more_waits : (waiting more later text : List ℕ) (old new : Option (List ℕ)) → later ≡ waiting ++ more → IsUnderWay waiting old new text → IsUnderWay later old new (text ++ more)
more_waits waiting more later text old new is (sent, parts, appends) =
    (sent, ap (λ t. t ++ more) parts ∙ (append_assoc sent waiting more ∙ ap (λ w. sent ++ w) (sym is)), appends)

-- some first bytes of what waits are written
pub fewer_wait : (waiting later text : List ℕ) (old mid new : Option (List ℕ)) → IsUnderWay waiting old mid text → IsUnderWay later mid new waiting → IsUnderWay later old new text
fewer_wait waiting later text old mid new (sent, parts, appends) (more, rest, adds) =
    (sent ++ more, parts ∙ (ap (λ w. sent ++ w) rest ∙ sym (append_assoc sent more later)), Appends-trans old mid new sent more appends adds)

-- the sink fails while what waits is written
pub cut_off : (waiting text : List ℕ) (old mid new : Option (List ℕ)) → IsUnderWay waiting old mid text → AppendsFront mid new waiting → AppendsFront old new text
cut_off waiting text old mid new (sent, parts, appends) front =
    subst (AppendsFront old new) (sym parts) (front_behind old mid new sent waiting appends front)

module _ {E : Type 0} (P : List ℕ → E → Type 0) where
  -- nothing of such a text was written
  pub not_begun : (text : List ℕ) (failed : Bool) (old : Option (List ℕ)) (ended : E) → P text ended → WritesSoFar P text failed old old ended
  not_begun text false old ended is = (text, is, all_waits old text)
  not_begun text true old ended is = (text, ended, is, (0, Appends-nil old))

  -- such a text is under way to a sink that works
  pub under_way : (waiting text : List ℕ) (failed : Bool) (old new : Option (List ℕ)) (ended : E) → failed ≡ false → P text ended → IsUnderWay waiting old new text → WritesSoFar P waiting failed old new ended
  under_way waiting text false old new ended works is way = (text, is, way)
  under_way waiting text true old new ended works is way = absurd (cc)

  -- the sink failed, and has some first bytes of such a text
  pub has_front : (waiting text : List ℕ) (failed : Bool) (old new : Option (List ℕ)) (meant ended : E) → failed ≡ true → P text meant → AppendsFront old new text → WritesSoFar P waiting failed old new ended
  has_front waiting text false old new meant ended fails is front = absurd (cc)
  has_front waiting text true old new meant ended fails is front = (text, meant, is, front)

  -- the sink failed, and that is told
  pub told_lost : (lost : E) (waiting : List ℕ) (failed : Bool) (old new : Option (List ℕ)) (meant ended : E) → failed ≡ true → ended ≡ lost → WritesSoFar P waiting failed old new meant → WritesOr lost P failed old new ended
  told_lost lost waiting false old new meant ended fails is so_far = absurd (cc)
  told_lost lost waiting true old new meant ended fails is (text, other, given, front) = (is, text, other, given, front)

  -- what waits is written
  pub rest_written : (lost : E) (waiting : List ℕ) (mid_failed failed : Bool) (old mid new : Option (List ℕ)) (meant ended : E) → mid_failed ≡ false → WritesSoFar P waiting mid_failed old mid meant
      → WritesOr lost (IsJust waiting meant) failed mid new ended → WritesOr lost P failed old new ended
  rest_written lost waiting true failed old mid new meant ended works so_far writes = absurd (cc)
  rest_written lost waiting false false old mid new meant ended works (text, is, (sent, parts, before)) (written, just, adds) =
      let whole = subst (λ w. Appends mid new w) just.0 adds in
      (text, subst (P text) (sym just.1) is, subst (Appends old new) (sym parts) (Appends-trans old mid new sent waiting before whole))
  rest_written lost waiting false true old mid new meant ended works (text, is, way) (lost_is, written, other, just, front) =
      (lost_is, text, meant, is, cut_off waiting text old mid new way (subst (AppendsFront mid new) just.0 front))

-- what is written of one text is written of another, which goes on behind it
pub goes_on : {E : Type 0} {F : Type 0} (P : List ℕ → E → Type 0) (Q : List ℕ → F → Type 0) (waiting later : List ℕ) (failed : Bool) (old new : Option (List ℕ)) (ended : E) (end : F)
    → ((sent : List ℕ) → P (sent ++ waiting) ended → Q (sent ++ later) end) → ((text : List ℕ) (meant : E) → P text meant → (other : F) × Q text other)
    → WritesSoFar P waiting failed old new ended → WritesSoFar Q later failed old new end
goes_on P Q waiting later false old new ended end works lost (text, is, (sent, parts, appends)) =
    (sent ++ later, works sent (subst (λ t. P t ended) parts is), (sent, refl, appends))
goes_on P Q waiting later true old new ended end works lost (text, meant, is, front) =
    let other = lost text meant is in (text, other.0, other.1, front)

-- what is so of each text that may have been written is so of what was, also where its end is told in other words
pub writes_or_as : {D E : Type 0} (g : D → E) (lost : D) (P : List ℕ → D → Type 0) (Q : List ℕ → E → Type 0) (failed : Bool) (old new : Option (List ℕ)) (ended : D)
    → ((text : List ℕ) (end : D) → P text end → Q text (g end)) → WritesOr lost P failed old new ended → WritesOr (g lost) Q failed old new (g ended)
writes_or_as g lost P Q false old new ended turn (written, is, appends) = (written, turn written ended is, appends)
writes_or_as g lost P Q true old new ended turn (lost_is, written, meant, is, front) = (ap g lost_is, written, g meant, turn written meant is, front)

pub writes_as : {E : Type 0} (lost : E) (P Q : List ℕ → E → Type 0) (failed : Bool) (old new : Option (List ℕ)) (ended : E)
    → ((text : List ℕ) (end : E) → P text end → Q text end) → WritesOr lost P failed old new ended → WritesOr lost Q failed old new ended
writes_as {E = E} lost P Q failed old new ended turn writes = writes_or_as (λ (e : E). e) lost P Q failed old new ended turn writes
