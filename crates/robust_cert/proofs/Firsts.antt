-- Entry by entry: what stands so far, and which fault is the first.
use Rattle.std.proofs.Common.{◌≡◌, ℕ, ◌<◌, ◌+◌, ◌-◌, ◌↔◌, Bool, true, false, List, [], ◌∷◌, ◌++◌, length, take, get_or, refl, sym, subst, ap, ap₂, ◌∙◌, arith, zero, suc, Some}
use Rattle.std.specs.Prelude.{slice_get, All}
use Rattle.std.proofs.lemmas.List.{take_more, length-take-le}
use Rattle.std.proofs.lemmas.List.Elements.{All-nil, All-cons, All-head, All-more, All-contains}
use Rattle.std.proofs.lemmas.Bool.{false≢true}
use Rattle.std.proofs.lemmas.Option.{none-some}
use Rattle.prog_check.specs.declared.path.Access.{Access}
use Rattle.prog_check.specs.declared.path.Path.{Path}
use Rattle.prog_paths.specs.StaticGraph.{QuestionNumbers}
use Rattle.prog_paths.specs.Questions.{IsQuestion}
use Rattle.prog_paths.specs.Listing.{IsBefore, RiseBy}
use Rattle.prog_paths.proofs.Rising.{rises-push}
use Rattle.robust_cert.specs.declared.certificate.EntryQuestion.{EntryQuestion}
use Rattle.robust_cert.specs.declared.certificate.Certificate.{Certificate}
use Rattle.robust_cert.specs.declared.entries.Reason.{Reason}
use Rattle.robust_cert.specs.declared.fault.CertFault.{CertFault}
use Rattle.robust_cert.specs.declared.fault.CertFault.TheVariants.{TooLarge, PathCount, NoSuchEntry, EntryOrder, BadChain, BadCover, LevelFalls, Dangerous, Memory}
use Rattle.robust_cert.specs.Accepted.{numbers_told, question_of, IsFitting, ChainsHold, Holds}
use Rattle.robust_cert.specs.Refused.{StandTo, IsAtFault, IsBehindLast, IsOutOfOrder, HasBadCover, HasBadChain, IsFirstFault}
use Rattle.robust_cert.specs.Flaws.{IsAskedPair, EntryStands, IsEntryFault, IsFaultAt}
use Rattle.robust_cert.specs.Sharing.{Entry, entry_with}
use Rattle.robust_cert.proofs.Cursor.{before_trans}
use Rattle.robust_cert.proofs.Shared.{entry_at}

slice_get-take : (k : ℕ) (xs : List Entry) (j : ℕ) (x : Entry) → slice_get (take k xs) j ≡ Some x → slice_get xs j ≡ Some x
slice_get-take zero xs j x h = absurd (none-some x h)
slice_get-take (suc k) [] j x h = absurd (none-some x h)
slice_get-take (suc k) (y ∷ xs) zero x h = h
slice_get-take (suc k) (y ∷ xs) (suc j) x h = slice_get-take k xs j x h

-- what stands behind the last of a list that rises stands behind all
all-before : (xs : List Entry) (e : Entry) → RiseBy question_of xs → ((j : ℕ) (last : Entry) → j + 1 ≡ length xs → slice_get xs j ≡ Some last → IsBefore (question_of last) (question_of e)) → All (λ x. IsBefore (question_of x) (question_of e)) xs
all-before [] e rise behind = All-nil (λ x. IsBefore (question_of x) (question_of e))
all-before (x ∷ []) e rise behind = All-cons (λ z. IsBefore (question_of z) (question_of e)) x [] (behind 0 x refl refl) (All-nil (λ z. IsBefore (question_of z) (question_of e)))
all-before (x ∷ y ∷ rest) e rise behind =
    let tail = all-before (y ∷ rest) e rise.1 (λ j last at is. behind (suc j) last (omega (arith, at)) is) in
    let first = All-head (λ later. IsBefore (question_of x) (question_of later)) y rest rise.0 in
    All-cons (λ z. IsBefore (question_of z) (question_of e)) x (y ∷ rest) (before_trans (question_of x) (question_of y) (question_of e) first (All-head (λ z. IsBefore (question_of z) (question_of e)) y rest tail)) tail

module _ (nodes : List Path) (c : Certificate) (k : ℕ) (inside : k < length c.entries) (s : StandTo nodes c k) where
  -- one more entry stands
  pub stand-more : EntryStands nodes c.entries k → StandTo nodes c (k + 1)
  stand-more stands =
      let w = entry_at c.entries k inside in
      let e = w.0 in
      let own = stands e w.1 in
      let size : length (take k c.entries) ≡ k = length-take-le k c.entries (omega (arith, inside)) in
      let all = all-before (take k c.entries) e s.rising (λ j last at is. own.1 j last (at ∙ size) (slice_get-take k c.entries j last is)) in
      let whole : take k c.entries ++ e ∷ [] ≡ take (k + 1) c.entries = ap (λ (x : Entry). take k c.entries ++ x ∷ []) (sym w.2) ∙ sym (take_more c.entries k e inside) in
      record {
        size = s.size;
        rising = subst (λ (l : List Entry). RiseBy question_of l) whole (rises-push (λ (x later : Entry). IsBefore (question_of x) (question_of later)) (take k c.entries) e s.rising (λ y among. All-contains (λ (x : Entry). IsBefore (question_of x) (question_of e)) (take k c.entries) y all among));
        holds = All-more (Holds nodes) c.entries k e inside s.holds (subst (Holds nodes) (sym w.2) own.0);
      }

  -- or it is the first that doesn't
  pub first-from_fault : (fault : CertFault) → IsFaultAt nodes c.entries k fault → IsFirstFault nodes c fault
  first-from_fault fault h = go fault (h e w.1)
    where
      w : (e : Entry) × (slice_get c.entries k ≡ Some e) × (get_or c.entries k e ≡ e)
      w = entry_at c.entries k inside

      e : Entry
      e = w.0

      at : (n : ℕ) → n ≡ k → IsAtFault nodes c n e
      at n is = subst (λ (m : ℕ). IsAtFault nodes c m e) (sym is) (record { before = s; at = w.1 })

      go : (fault : CertFault) → IsEntryFault nodes c.entries k e fault → IsFirstFault nodes c fault
      go (NoSuchEntry n) (is, wrong) = (e, at n is, wrong)
      go (EntryOrder n) (is, wrong) = (e, at n is, subst (λ (m : ℕ). IsOutOfOrder nodes c.entries m e) (sym is) wrong)
      go (BadCover n) (is, wrong) = (e, at n is, subst (λ (m : ℕ). HasBadCover nodes c.entries m e) (sym is) wrong)
      go (BadChain n) (is, wrong) = (e, at n is, subst (λ (m : ℕ). HasBadChain nodes c.entries m e) (sym is) wrong)
      go Memory h = absurd h
      go TooLarge h = absurd h
      go PathCount h = absurd h
      go (LevelFalls x y) h = absurd h
      go (Dangerous x y z) h = absurd h

-- ---- one entry

-- an entry is about no question
pub no-question : (nodes : List Path) (entries : List Entry) (k : ℕ) (p : EntryQuestion) → ((e : Entry) → slice_get entries k ≡ Some e → p ≡ e.question) → (q : QuestionNumbers) → q ≡ numbers_told p → (IsQuestion nodes q → ⊥) → IsFaultAt nodes entries k (NoSuchEntry k)
no-question nodes entries k p about q named against e at = (refl, λ h. against (subst (IsQuestion nodes) (ap numbers_told (sym (about e at)) ∙ sym named) h))

-- an entry that isn't the first stands behind the one before it, if their questions do
module _ (entries : List Entry) (k : ℕ) (inside : k < length entries) (later : 0 < k) (o p : EntryQuestion) (before : (e : Entry) → slice_get entries (k - 1) ≡ Some e → o ≡ e.question) (about : (e : Entry) → slice_get entries k ≡ Some e → p ≡ e.question)
    (m n : QuestionNumbers) (first : m ≡ numbers_told o) (second : n ≡ numbers_told p) (b : Bool) (says : (b ≡ true) ↔ IsBefore m n) (e : Entry) (at : slice_get entries k ≡ Some e) where
  second_is : n ≡ question_of e
  second_is = second ∙ ap numbers_told (about e at)

  first_is : (last : Entry) → slice_get entries (k - 1) ≡ Some last → m ≡ question_of last
  first_is last is = first ∙ ap numbers_told (before last is)

  pub behind-last : (b ≡ true) ↔ IsBehindLast entries k e
  behind-last = (
    λ h j last next is. let place : j ≡ k - 1 = omega (arith, next, later) in
        subst (λ (r : QuestionNumbers). IsBefore r (question_of e)) (first_is last (subst (λ (i : ℕ). slice_get entries i ≡ Some last) place is)) (subst (IsBefore m) second_is (says.0 h)),
    λ h. let w = entry_at entries (k - 1) (omega (arith, inside, later)) in
        says.1 (subst (IsBefore m) (sym second_is) (subst (λ (r : QuestionNumbers). IsBefore r (question_of e)) (sym (first_is w.0 w.1)) (h (k - 1) w.0 (omega (arith, later)) w.1))),
  )

module _ (nodes : List Path) (entries : List Entry) (k : ℕ) (p : EntryQuestion) (about : (e : Entry) → slice_get entries k ≡ Some e → p ≡ e.question)
    (q : QuestionNumbers) (named : q ≡ numbers_told p) (mine theirs : Access) (pair : IsAskedPair nodes q mine theirs) (behind : Bool) (says : (e : Entry) → slice_get entries k ≡ Some e → (behind ≡ true) ↔ IsBehindLast entries k e) where
  asked : (e : Entry) → slice_get entries k ≡ Some e → IsQuestion nodes (question_of e)
  asked e at =
      subst (IsQuestion nodes) (named ∙ ap numbers_told (about e at)) (record { mine = mine; theirs = theirs; asked = pair.asked; asks = pair.asks })

  pub order-fault : behind ≡ false → IsFaultAt nodes entries k (EntryOrder k)
  order-fault against e at = (refl, (asked e at, λ b. false≢true (sym against ∙ (says e at).1 b)))

  module _ (r : Reason) (told : (e : Entry) → slice_get entries k ≡ Some e → r ≡ e.reason) (yes : behind ≡ true) where
    same_entry : (e : Entry) → slice_get entries k ≡ Some e → entry_with p r ≡ e
    same_entry e at = ap₂ entry_with (about e at) (told e at)

    pub entry-stands : IsFitting nodes (entry_with p r) → ChainsHold nodes (entry_with p r) → EntryStands nodes entries k
    entry-stands fitting chains e at = (
      record { question = asked e at; fitting = subst (IsFitting nodes) (same_entry e at) fitting; chains = subst (ChainsHold nodes) (same_entry e at) chains },
      (says e at).0 yes,
    )

    pub cover-fault : (IsFitting nodes (entry_with p r) → ⊥) → IsFaultAt nodes entries k (BadCover k)
    cover-fault against e at = (refl, (asked e at, (says e at).0 yes, λ f. against (subst (IsFitting nodes) (sym (same_entry e at)) f)))

    pub chain-fault : IsFitting nodes (entry_with p r) × (ChainsHold nodes (entry_with p r) → ⊥) → IsFaultAt nodes entries k (BadChain k)
    chain-fault (fitting, against) e at = (refl, (asked e at, (says e at).0 yes, subst (IsFitting nodes) (same_entry e at) fitting, λ h. against (subst (ChainsHold nodes) (sym (same_entry e at)) h)))
