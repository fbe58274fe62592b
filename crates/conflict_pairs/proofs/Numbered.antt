-- The entries of questions that have the numbers of their verdicts.
use Rattle.std.proofs.Common.{◌≡◌, ℕ, ◌<◌, List, [], ◌∷◌, ◌++◌, length, map, get_or, refl, sym, subst, ap, ◌∙◌, arith, zero, suc}
use Rattle.std.specs.Prelude.{All, Some, slice_get}
use Rattle.std.specs.List.{AllZip}
use Rattle.std.proofs.lemmas.List.{length-map, map-append}
use Rattle.std.proofs.lemmas.List.Elements.{All-append, All-nil, All-cons, All-head, All-tail}
use Rattle.std.proofs.lemmas.Option.{get_or_from_slice_get, slice_get-get_or, slice_get_within, same_Some}
use Rattle.prog_check.specs.declared.path.Path.{Path}
use Rattle.prog_paths.specs.declared.accesses.questions.Question.{Question}
use Rattle.prog_paths.specs.Questions.{ChangesSingleCells, questions_of}
use Rattle.prog_paths.specs.Listing.{IsAskedOf}
use Rattle.prog_paths.specs.declared.accesses.places.Placed.{Placed}
use Rattle.prog_paths.proofs.Membership.{Asks-from_asks}
use Rattle.conflict_pairs.specs.declared.verdicts.Verdict.{Verdict}
use Rattle.conflict_pairs.specs.declared.verdicts.Verdict.TheVariants.{Apart}
use Rattle.conflict_pairs.specs.Table.{Judged, Table, verdict_at, entry_by, entries_of, IsOnQuestion, IsRightEntry, StandsFor}
use Rattle.conflict_pairs.specs.Interning.{IsServed}
use Rattle.conflict_pairs.specs.Alike.{IsAsked, IsJudgedAt, IsOnAsked}
use Rattle.conflict_pairs.specs.declared.listing.Listed.{Listed}
use Rattle.conflict_pairs.specs.Listed.{AreJudged, AreQuestionsListed, IsListedIn, entries_in}
use Rattle.conflict_pairs.specs.Pairing.{question_at}
use Rattle.conflict_pairs.proofs.Serving.{served-within}
use Rattle.conflict_pairs.proofs.Zipped.{AllZip-lengths}
use Rattle.conflict_pairs.proofs.Likeness.{right-judged}

module _ (vs : List Verdict) where
  pub entries-length : (qs : List Question) (ns : List ℕ) → length qs ≡ length ns → length (entries_of vs qs ns) ≡ length qs
  entries-length [] ns e = refl
  entries-length (q ∷ qs) [] e = let no : ⊥ = omega (arith, e) in absurd no
  entries-length (q ∷ qs) (n ∷ ns) e = ap suc (entries-length qs ns (omega (arith, e)))

  pub entries-questions : (qs : List Question) (ns : List ℕ) → length qs ≡ length ns → map (λ (e : Judged). e.question) (entries_of vs qs ns) ≡ qs
  entries-questions [] ns e = refl
  entries-questions (q ∷ qs) [] e = let no : ⊥ = omega (arith, e) in absurd no
  entries-questions (q ∷ qs) (n ∷ ns) e = ap (λ (l : List Question). q ∷ l) (entries-questions qs ns (omega (arith, e)))

  -- the entry of a number
  pub entries-at : (qs : List Question) (ns : List ℕ) (k : ℕ) (q : Question) (n : ℕ) (e : Judged) → slice_get (entries_of vs qs ns) k ≡ Some e → e ≡ entry_by vs (get_or qs k q) (get_or ns k n)
  entries-at [] ns k q n e at = absurd (no-entry k at)
    where
      no-entry : (k : ℕ) → slice_get (entries_of vs [] ns) k ≡ Some e → ⊥
      no-entry k h = let lt = slice_get_within (entries_of vs [] ns) k e h in omega (arith, lt)
  entries-at (x ∷ qs) [] k q n e at = absurd (no-entry k at)
    where
      no-entry : (k : ℕ) → slice_get (entries_of vs (x ∷ qs) []) k ≡ Some e → ⊥
      no-entry k h = let lt = slice_get_within (entries_of vs (x ∷ qs) []) k e h in omega (arith, lt)
  entries-at (x ∷ qs) (m ∷ ns) zero q n e at = sym (same_Some (entry_by vs x m) e at)
  entries-at (x ∷ qs) (m ∷ ns) (suc k) q n e at = entries-at qs ns k q n e at

  -- the question of an entry has a number
  pub number-within : (qs : List Question) (ns : List ℕ) (k : ℕ) → length qs ≡ length ns → k < length (entries_of vs qs ns) → k < length ns
  number-within qs ns k e lt = subst (λ (l : ℕ). k < l) (entries-length qs ns e ∙ e) lt

  -- and at this number its verdict stands
  pub number-verdict : (qs : List Question) (ns : List ℕ) (k n : ℕ) (e : Judged) → length qs ≡ length ns → All (λ n. n < length vs) ns → n ≡ get_or ns k n → slice_get (entries_of vs qs ns) k ≡ Some e → slice_get vs n ≡ Some e.verdict
  number-verdict qs ns k n e one_each within is at =
      let lt = subst (λ (m : ℕ). m < length vs) (sym is) (within k n (number-within qs ns k one_each (slice_get_within (entries_of vs qs ns) k e at))) in
      slice_get-get_or vs n (Apart []) lt
      ∙ ap (λ (m : ℕ). Some (verdict_at vs m)) is
      ∙ ap (λ (x : Judged). Some x.verdict) (sym (entries-at qs ns k e.question n e at))

-- ---- right verdicts

IsAskedOf-from_asked : (paths : List Path) (q : Question) → IsAsked paths q → IsAskedOf paths q
IsAskedOf-from_asked paths q h =
    let k = Asks-from_asks h.first h.second h.asks_it in
    subst (λ (r : Question). IsAskedOf paths r) (sym h.is)
    (record { mine = h.first.access; theirs = h.second.access; asked = record { at_mine = h.at_first; at_theirs = h.at_second; table = k.0 }; mine_kind = refl; their_kind = refl; asks = k.1 })

-- each verdict is on some question of the paths
pub verdicts-right : (paths : List Path) → All ChangesSingleCells paths → (vs : List Verdict) → All (IsOnAsked paths) vs → All (IsOnQuestion paths) vs
verdicts-right paths single [] h = All-nil (IsOnQuestion paths)
verdicts-right paths single (v ∷ vs) h =
    let its = All-head (IsOnAsked paths) v vs h in
    All-cons (IsOnQuestion paths) v vs
    (record { question = its.question; asked = IsAskedOf-from_asked paths its.question its.asked; right = right-judged paths its.question single its.asked v its.judged })
    (verdicts-right paths single vs (All-tail (IsOnAsked paths) v vs h))

-- ---- right entries

module _ (paths : List Path) (vs : List Verdict) where
  judged-at : (q : Question) (n : ℕ) → IsServed (IsJudgedAt paths) vs q n → IsJudgedAt paths q (verdict_at vs n)
  judged-at q n h = subst (λ (v : Verdict). IsJudgedAt paths q v) (sym (get_or_from_slice_get vs n h.value (Apart []) h.at)) h.serves

  pub numbers-within : (qs : List Question) (ns : List ℕ) → AllZip (IsServed (IsJudgedAt paths) vs) qs ns → All (λ n. n < length vs) ns
  numbers-within [] [] h = All-nil (λ n. n < length vs)
  numbers-within [] (n ∷ ns) h = absurd h
  numbers-within (q ∷ qs) [] h = absurd h
  numbers-within (q ∷ qs) (n ∷ ns) h = All-cons (λ n. n < length vs) n ns (served-within (IsJudgedAt paths) vs q n h.0) (numbers-within qs ns h.1)

  pub entries-right : All ChangesSingleCells paths → (qs : List Question) (ns : List ℕ) → All (IsAsked paths) qs → AllZip (IsServed (IsJudgedAt paths) vs) qs ns → All (λ e. IsRightEntry paths e) (entries_of vs qs ns)
  entries-right single [] ns h k = All-nil (λ (e : Judged). IsRightEntry paths e)
  entries-right single (q ∷ qs) [] h k = absurd k
  entries-right single (q ∷ qs) (n ∷ ns) h k =
      All-cons (λ (e : Judged). IsRightEntry paths e) (entry_by vs q n) (entries_of vs qs ns)
      (right-judged paths q single (All-head (IsAsked paths) q qs h) (verdict_at vs n) (judged-at q n k.0))
      (entries-right single qs ns (All-tail (IsAsked paths) q qs h) k.1)

  entries-asked : (qs : List Question) (ns : List ℕ) → All (IsAsked paths) qs → All (λ e. IsAskedOf paths e.question) (entries_of vs qs ns)
  entries-asked [] ns h = All-nil (λ (e : Judged). IsAskedOf paths e.question)
  entries-asked (q ∷ qs) [] h = All-nil (λ (e : Judged). IsAskedOf paths e.question)
  entries-asked (q ∷ qs) (n ∷ ns) h =
      All-cons (λ (e : Judged). IsAskedOf paths e.question) (entry_by vs q n) (entries_of vs qs ns)
      (IsAskedOf-from_asked paths q (All-head (IsAsked paths) q qs h)) (entries-asked qs ns (All-tail (IsAsked paths) q qs h))

  module _ (places : List Placed) (listed : Listed) (qs : List Question) (h : AreQuestionsListed paths vs places listed qs) where
    one_each : length qs ≡ length listed.numbers.items
    one_each = AllZip-lengths (IsServed (IsJudgedAt paths) vs) qs listed.numbers.items h.served

    -- questions with the numbers of verdicts on them have accesses and verdicts
    pub listed-from : IsListedIn places vs listed
    listed-from = record {
      one_each = sym (length-map listed.pairs.items (question_at places)) ∙ ap (λ (l : List Question). length l) h.questions ∙ one_each;
      placed = h.within;
      within = numbers-within qs listed.numbers.items h.served;
    }

    -- and right ones
    pub judged-from : All ChangesSingleCells paths → All (IsAsked paths) qs → AreJudged paths (entries_in places vs listed) qs
    judged-from single asked =
        let same = ap (λ (l : List Question). entries_of vs l listed.numbers.items) h.questions in
        record {
          questions = ap (map (λ (e : Judged). e.question)) same ∙ entries-questions vs qs listed.numbers.items one_each;
          asked = subst (λ (l : List Judged). All (λ e. IsAskedOf paths e.question) l) (sym same) (entries-asked qs listed.numbers.items asked);
          right = subst (λ (l : List Judged). All (λ e. IsRightEntry paths e) l) (sym same) (entries-right single qs listed.numbers.items asked h.served);
        }

  -- the table of all questions
  pub StandsFor-from : All (IsOnQuestion paths) vs → (table : Table) → AreJudged paths table.entries (questions_of paths) → table.paths ≡ paths → table.verdicts ≡ vs → StandsFor table paths
  StandsFor-from on table judged same verdicts = record {
    of_paths = same;
    questions = judged.questions;
    right = judged.right;
    verdicts = subst (λ (l : List Verdict). All (IsOnQuestion paths) l) (sym verdicts) on;
  }

-- ---- of two parts

pub judged-none : (paths : List Path) → AreJudged paths [] []
judged-none paths = record {
  questions = refl;
  asked = All-nil (λ (e : Judged). IsAskedOf paths e.question);
  right = All-nil (λ (e : Judged). IsRightEntry paths e);
}

pub judged-append : (paths : List Path) (es fs : List Judged) (qs rs : List Question) → AreJudged paths es qs → AreJudged paths fs rs → AreJudged paths (es ++ fs) (qs ++ rs)
judged-append paths es fs qs rs h k = record {
  questions = map-append (λ (e : Judged). e.question) es fs ∙ (λ i. h.questions i ++ k.questions i);
  asked = All-append (λ (e : Judged). IsAskedOf paths e.question) es fs h.asked k.asked;
  right = All-append (λ (e : Judged). IsRightEntry paths e) es fs h.right k.right;
}
