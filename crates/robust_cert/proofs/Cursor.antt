-- The order of questions, and what is told at the cursor.
use Rattle.std.proofs.Common.{◌≡◌, ℕ, ◌<◌, ◌≤◌, ◌+◌, ◌↔◌, ◌⊎◌, inl, inr, Bool, true, false, List, [], ◌∷◌, length, get_or, refl, sym, subst, ap, ◌∙◌, arith, zero, suc, Some, Contains}
use Rattle.std.specs.Prelude.{◌==◌, slice_get, All}
use Rattle.std.proofs.lemmas.Bool.{false≢true, cases_Bool, cases_order, and_parts, and_from, eqb-true, eq-eqb, false_from_ne_true}
use Rattle.std.proofs.lemmas.List.Elements.{All-head, All-tail}
use Rattle.std.proofs.lemmas.Option.{same_Some, none-some, slice_get-get_or, slice_get_past}
use Rattle.prog_paths.specs.StaticGraph.{Precedes, QuestionNumbers}
use Rattle.prog_paths.specs.Listing.{IsBefore, RiseBy}
use Rattle.prog_paths.proofs.Order.{rises-at}
use Rattle.prog_paths.proofs.Rising.{Precedes-trans, Precedes-irreflexive, Precedes-cases}
use Rattle.robust_cert.specs.declared.checking.telling.Telling.{Telling}
use Rattle.robust_cert.specs.declared.checking.telling.Telling as telling
use Rattle.robust_cert.specs.declared.certificate.EntryQuestion.{EntryQuestion}
use Rattle.robust_cert.specs.declared.entries.Reason.{Reason}
use Rattle.robust_cert.specs.Accepted.{numbers_told, question_of}
use Rattle.robust_cert.specs.Telling.{is_same, telling_with, telling_of, IsBehind}
use Rattle.robust_cert.specs.Sharing.{Entry}
use Rattle.robust_cert.proofs.Shared.{entry_at}

-- ---- the order of questions

pub before_trans : (p q r : QuestionNumbers) → IsBefore p q → IsBefore q r → IsBefore p r
before_trans p q r (inl h) (inl k) = inl (Precedes-trans p.x p.a q.x q.a r.x r.a h k)
before_trans p q r (inl h) (inr (e, f, k)) = inl (subst (λ (n : ℕ). Precedes p.x p.a r.x n) f (subst (λ (n : ℕ). Precedes p.x p.a n q.a) e h))
before_trans p q r (inr (e, f, h)) (inl k) = inl (subst (λ (n : ℕ). Precedes p.x n r.x r.a) (sym f) (subst (λ (n : ℕ). Precedes n q.a r.x r.a) (sym e) k))
before_trans p q r (inr (e, f, h)) (inr (g, i, k)) = inr (e ∙ g, f ∙ i, Precedes-trans p.y p.b q.y q.b r.y r.b h k)

before_irreflexive : (p : QuestionNumbers) → IsBefore p p → ⊥
before_irreflexive p (inl h) = Precedes-irreflexive p.x p.a h
before_irreflexive p (inr (e, f, h)) = Precedes-irreflexive p.y p.b h

same_numbers : (p q : QuestionNumbers) → p.x ≡ q.x → p.a ≡ q.a → p.y ≡ q.y → p.b ≡ q.b → p ≡ q
same_numbers p q x a y b = λ i. record { x = x i; a = a i; y = y i; b = b i }

before_cases : (p q : QuestionNumbers) → IsBefore p q ⊎ (IsBefore q p ⊎ (p ≡ q))
before_cases p q = go (Precedes-cases p.x p.a q.x q.a) (Precedes-cases p.y p.b q.y q.b)
  where
    go : Precedes p.x p.a q.x q.a ⊎ (Precedes q.x q.a p.x p.a ⊎ ((p.x ≡ q.x) × (p.a ≡ q.a))) → Precedes p.y p.b q.y q.b ⊎ (Precedes q.y q.b p.y p.b ⊎ ((p.y ≡ q.y) × (p.b ≡ q.b))) → IsBefore p q ⊎ (IsBefore q p ⊎ (p ≡ q))
    go (inl h) _ = inl (inl h)
    go (inr (inl h)) _ = inr (inl (inl h))
    go (inr (inr (e, f))) (inl h) = inl (inr (e, f, h))
    go (inr (inr (e, f))) (inr (inl h)) = inr (inl (inr (sym e, sym f, h)))
    go (inr (inr (e, f))) (inr (inr (g, i))) = inr (inr (same_numbers p q e f g i))

-- ---- whether two questions are one

pub same-from_true : (p q : QuestionNumbers) → is_same p q ≡ true → p ≡ q
same-from_true p q e =
    let x = and_parts (p.x == q.x) _ e in
    let a = and_parts (p.a == q.a) _ x.1 in
    let y = and_parts (p.y == q.y) _ a.1 in
    same_numbers p q (eqb-true p.x q.x x.0) (eqb-true p.a q.a a.0) (eqb-true p.y q.y y.0) (eqb-true p.b q.b y.1)

pub true-from_same : (p q : QuestionNumbers) → p ≡ q → is_same p q ≡ true
true-from_same p q e = subst (λ (r : QuestionNumbers). is_same p r ≡ true) e (and_from _ _ (eq-eqb p.x p.x refl) (and_from _ _ (eq-eqb p.a p.a refl) (and_from _ _ (eq-eqb p.y p.y refl) (eq-eqb p.b p.b refl))))

before-differs : (p q : QuestionNumbers) → IsBefore p q → is_same p q ≡ false
before-differs p q h = false_from_ne_true (is_same p q) (λ e. before_irreflexive q (subst (λ (r : QuestionNumbers). IsBefore r q) (same-from_true p q e) h))

behind-differs : (p q : QuestionNumbers) → IsBefore q p → is_same p q ≡ false
behind-differs p q h = false_from_ne_true (is_same p q) (λ e. before_irreflexive q (subst (λ (r : QuestionNumbers). IsBefore q r) (same-from_true p q e) h))

-- ---- what is told

skipped : (e : Entry) (rest : List Entry) (q : QuestionNumbers) → is_same (question_of e) q ≡ false → telling_of (e ∷ rest) q ≡ telling_of rest q
skipped e rest q h = rw h refl

pub met : (e : Entry) (rest : List Entry) (q : QuestionNumbers) → is_same (question_of e) q ≡ true → telling_of (e ∷ rest) q ≡ telling_with e.reason
met e rest q h = rw h refl

untold : (entries : List Entry) (q : QuestionNumbers) → All (λ e. is_same (question_of e) q ≡ false) entries → telling_of entries q ≡ telling.TheVariants.Nothing
untold [] q h = refl
untold (e ∷ rest) q h = skipped e rest q (All-head (λ f. is_same (question_of f) q ≡ false) e rest h) ∙ untold rest q (All-tail (λ f. is_same (question_of f) q ≡ false) e rest h)

behind-next : (e : Entry) (rest : List Entry) (k : ℕ) (q : QuestionNumbers) → IsBehind (e ∷ rest) (suc k) q → IsBehind rest k q
behind-next e rest k q h j d lt at = h (suc j) d (omega (arith, lt)) at

-- where the cursor stands at an entry about the question, that tells it
pub told-here : (entries : List Entry) (at : ℕ) (q : QuestionNumbers) → IsBehind entries at q → (e : Entry) → slice_get entries at ≡ Some e → is_same (question_of e) q ≡ true → telling_with e.reason ≡ telling_of entries q
told-here [] at q behind e is same = absurd (none-some e is)
told-here (d ∷ rest) zero q behind e is same =
    let one = same_Some d e is in
    sym (met d rest q (subst (λ (f : Entry). is_same (question_of f) q ≡ true) (sym one) same) ∙ (λ i. telling_with (one i).reason))
told-here (d ∷ rest) (suc at) q behind e is same =
    told-here rest at q (behind-next d rest at q behind) e is same
    ∙ sym (skipped d rest q (before-differs (question_of d) q (behind 0 d (omega arith) refl)))

-- where it stands at no such entry, none tells it
pub told-nowhere : (entries : List Entry) (at : ℕ) (q : QuestionNumbers) → RiseBy question_of entries → IsBehind entries at q → ((e : Entry) → slice_get entries at ≡ Some e → (IsBefore (question_of e) q → ⊥) × (is_same (question_of e) q ≡ false)) → telling.TheVariants.Nothing ≡ telling_of entries q
told-nowhere [] at q rise behind other = refl
told-nowhere (d ∷ rest) zero q rise behind other = sym (skipped d rest q (other d refl).1 ∙ untold rest q later)
  where
    after : IsBefore (question_of d) q ⊎ (IsBefore q (question_of d) ⊎ (question_of d ≡ q)) → IsBefore q (question_of d)
    after (inl h) = absurd ((other d refl).0 h)
    after (inr (inl h)) = h
    after (inr (inr e)) = absurd (false≢true (sym (other d refl).1 ∙ true-from_same (question_of d) q e))

    later : All (λ e. is_same (question_of e) q ≡ false) rest
    later k e lt = behind-differs (question_of (get_or rest k e)) q (before_trans q (question_of d) (question_of (get_or rest k e)) (after (before_cases (question_of d) q)) (rise.0 k e lt))
told-nowhere (d ∷ rest) (suc at) q rise behind other =
    told-nowhere rest at q rise.1 (behind-next d rest at q behind) other
    ∙ sym (skipped d rest q (before-differs (question_of d) q (behind 0 d (omega arith) refl)))

-- ---- an entry and what is told of its question

-- the entries before one stand before its question
pub behind-entry : (entries : List Entry) (k : ℕ) (e : Entry) → RiseBy question_of entries → slice_get entries k ≡ Some e → IsBehind entries k (question_of e)
behind-entry entries k e rise at j f lt is = rises-at (λ x later. IsBefore (question_of x) (question_of later)) entries rise j k f e is at lt

pub telling-from_entry : (entries : List Entry) (q : QuestionNumbers) (e : Entry) → RiseBy question_of entries → Contains entries e → question_of e ≡ q → telling_of entries q ≡ telling_with e.reason
telling-from_entry entries q e rise (k, lt, is) about =
    let at : slice_get entries k ≡ Some e = slice_get-get_or entries k e lt ∙ (λ i. Some (is i)) in
    sym (told-here entries k q (subst (λ (r : QuestionNumbers). IsBehind entries k r) about (behind-entry entries k e rise at)) e at (true-from_same (question_of e) q about))

-- nothing is told of a question, or an entry about it tells it
pub record IsToldBy (entries : List Entry) (q : QuestionNumbers) (e : Entry) : Type 0 where
  pub inside : Contains entries e
  pub about : question_of e ≡ q
  pub tells : telling_of entries q ≡ telling_with e.reason

pub told_cases : (entries : List Entry) (q : QuestionNumbers) → (telling_of entries q ≡ telling.TheVariants.Nothing) ⊎ ((e : Entry) × IsToldBy entries q e)
told_cases [] q = inl refl
told_cases (d ∷ rest) q = go (cases_Bool (is_same (question_of d) q)) (told_cases rest q)
  where
    go : (is_same (question_of d) q ≡ true) ⊎ (is_same (question_of d) q ≡ false) → (telling_of rest q ≡ telling.TheVariants.Nothing) ⊎ ((e : Entry) × IsToldBy rest q e) → (telling_of (d ∷ rest) q ≡ telling.TheVariants.Nothing) ⊎ ((e : Entry) × IsToldBy (d ∷ rest) q e)
    go (inl h) _ = inr (d, record { inside = (zero, omega arith, refl); about = same-from_true (question_of d) q h; tells = met d rest q h })
    go (inr h) (inl n) = inl (skipped d rest q h ∙ n)
    go (inr h) (inr (e, t)) = inr (e, record { inside = (suc t.inside.0, omega (arith, t.inside.1), t.inside.2); about = t.about; tells = skipped d rest q h ∙ t.tells })

-- ---- the question and the reason at the cursor

module _ (entries : List Entry) (at : ℕ) (q : QuestionNumbers) (behind : IsBehind entries at q) (p : EntryQuestion) (about : (e : Entry) → slice_get entries at ≡ Some e → p ≡ e.question) where
  asked-here : (e : Entry) → slice_get entries at ≡ Some e → numbers_told p ≡ question_of e
  asked-here e is = ap numbers_told (about e is)

  module _ (m : QuestionNumbers) (named : m ≡ numbers_told p) where
    -- the cursor goes on, where the question stands before
    pub behind-more : IsBefore m q → IsBehind entries (at + 1) q
    behind-more before k e lt is = go (cases_order k at)
      where
        go : (k ≡ at) ⊎ ((k < at) ⊎ (at < k)) → IsBefore (question_of e) q
        go (inl same) = subst (λ (o : QuestionNumbers). IsBefore o q) (named ∙ asked-here e (subst (λ (i : ℕ). slice_get entries i ≡ Some e) same is)) before
        go (inr (inl less)) = behind k e less is
        go (inr (inr more)) = absurd (omega (arith, lt, more))

    -- and stops, where it doesn't
    pub stops-here : (b : Bool) → ((b ≡ true) ↔ IsBefore m q) → b ≡ false → (e : Entry) → slice_get entries at ≡ Some e → IsBefore (question_of e) q → ⊥
    stops-here b says against e is before = false≢true (sym against ∙ says.1 (subst (λ (o : QuestionNumbers). IsBefore o q) (sym (named ∙ asked-here e is)) before))

  -- what the reason tells, where the question is the same
  pub reason-tells : (r : Reason) → at < length entries → ((e : Entry) → slice_get entries at ≡ Some e → r ≡ e.reason) → is_same (numbers_told p) q ≡ true → telling_with r ≡ telling_of entries q
  reason-tells r lt told same =
      let w = entry_at entries at lt in
      ap telling_with (told w.0 w.1)
      ∙ told-here entries at q behind w.0 w.1 (subst (λ (o : QuestionNumbers). is_same o q ≡ true) (asked-here w.0 w.1) same)

  -- and nothing, where it is another
  pub other-tells : RiseBy question_of entries → ((e : Entry) → slice_get entries at ≡ Some e → IsBefore (question_of e) q → ⊥) → is_same (numbers_told p) q ≡ false → telling.TheVariants.Nothing ≡ telling_of entries q
  other-tells rise stops other = told-nowhere entries at q rise behind (λ e is. (stops e is, subst (λ (o : QuestionNumbers). is_same o q ≡ false) (asked-here e is) other))

pub none-past : (entries : List Entry) (at : ℕ) → length entries ≤ at → (e : Entry) → slice_get entries at ≡ Some e → ⊥
none-past entries at past e is = none-some e (sym (slice_get_past entries at past) ∙ is)

-- behind all entries nothing is told
pub none-tells : (entries : List Entry) (at : ℕ) (q : QuestionNumbers) → IsBehind entries at q → RiseBy question_of entries → length entries ≤ at → telling.TheVariants.Nothing ≡ telling_of entries q
none-tells entries at q behind rise past = told-nowhere entries at q rise behind (λ e is. absurd (none-past entries at past e is))
