-- Questions that are listed with the numbers of their verdicts, one more at a time.
use Rattle.std.proofs.Common.{◌≡◌, ◌++◌, ◌+◌, ◌<◌, ℕ, true, false, List, [], ◌∷◌, length, get_or, take, sym, subst, ap, ◌∙◌, refl}
use Rattle.std.specs.Prelude.{All}
use Rattle.std.specs.List.{AllZip}
use Rattle.std.proofs.lemmas.List.{append-nil}
use Rattle.std.proofs.lemmas.List.Elements.{All-push}
use Rattle.rayon.proofs.ListFacts.{AllZip-append}
use Rattle.prog_check.specs.declared.path.Path.{Path}
use Rattle.prog_paths.specs.declared.accesses.places.Placed.{Placed}
use Rattle.prog_paths.specs.declared.accesses.questions.Question.{Question}
use Rattle.prog_paths.specs.Questions.{asked_by, asks, question_between}
use Rattle.prog_paths.proofs.Questions.{if_yes, if_no}
use Rattle.conflict_pairs.specs.declared.classes.AccessClasses.{AccessClasses}
use Rattle.conflict_pairs.specs.declared.listing.Listed.{Listed}
use Rattle.conflict_pairs.specs.declared.pairing.PlacePair.{PlacePair}
use Rattle.conflict_pairs.specs.declared.verdicts.Verdict.{Verdict}
use Rattle.conflict_pairs.specs.Alike.{IsJudgedAt}
use Rattle.conflict_pairs.specs.Classes.{class_at}
use Rattle.conflict_pairs.specs.Interning.{IsServed}
use Rattle.conflict_pairs.specs.Listed.{AddsQuestions, AreQuestionsListed}
use Rattle.conflict_pairs.specs.Pairing.{HasPlaces, place_at, question_at, questions_at}
use Rattle.conflict_pairs.proofs.Entries.{asked-take}
use Rattle.conflict_pairs.proofs.Paired.{given-pushed, pair-question}

-- one question more, with its number
listed-more : (paths : List Path) (verdicts : List Verdict) (places : List Placed) (old new : Listed) (qs : List Question) (pair : PlacePair) (q : Question) (n : ℕ) → new.pairs.items ≡ old.pairs.items ++ pair ∷ [] → new.numbers.items ≡ old.numbers.items ++ n ∷ [] → question_at places pair ≡ q → HasPlaces places pair → IsServed (IsJudgedAt paths) verdicts q n → AreQuestionsListed paths verdicts places old qs → AreQuestionsListed paths verdicts places new (qs ++ q ∷ [])
listed-more paths verdicts places old new qs pair q n pairs numbers is within served h = record {
  questions = given-pushed (question_at places) old.pairs.items new.pairs.items pair q pairs is ∙ ap (λ (l : List Question). l ++ q ∷ []) h.questions;
  within = subst (λ (l : List PlacePair). All (HasPlaces places) l) (sym pairs) (All-push (HasPlaces places) old.pairs.items pair h.within within);
  served =
      subst (λ (l : List ℕ). AllZip (IsServed (IsJudgedAt paths) verdicts) (qs ++ q ∷ []) l) (sym numbers)
      (AllZip-append (IsServed (IsJudgedAt paths) verdicts) qs (q ∷ []) old.numbers.items (n ∷ []) h.served (served, tt));
}

-- what the access of a number asks of some, and of one more
module _ (k : AccessClasses) (m : ℕ) (answers : List ℕ) (old : Listed) where
  abbrev pub places : List Placed
  places = k.places.items

  abbrev pub first : Placed
  first = place_at places m

  module _ (mid new : Listed) (i : ℕ) (seconds : List Placed) (d : Placed) (lt : i < length seconds) (before : AddsQuestions k m answers old mid (take i seconds)) (from : Placed) (from_is : from ≡ first) where
    -- an access of which it asks nothing
    pub adds-no : asks from (get_or seconds i d) ≡ false → new ≡ mid → AddsQuestions k m answers old new (take (i + 1) seconds)
    adds-no not_asked is paths verdicts qs known h =
        let unasked = subst (λ (p : Placed). asks p (get_or seconds i d) ≡ false) from_is not_asked in
        let whole = asked-take first qs i seconds d lt ∙ ap (λ (l : List Question). (qs ++ asked_by first (take i seconds)) ++ l) (if_no (asks first (get_or seconds i d)) (question_between first (get_or seconds i d)) [] unasked) ∙ append-nil (qs ++ asked_by first (take i seconds)) in
        subst (λ (l : List Question). AreQuestionsListed paths verdicts places new l) (sym whole)
        (subst (λ (it : Listed). AreQuestionsListed paths verdicts places it (qs ++ asked_by first (take i seconds))) (sym is) (before paths verdicts qs known h))

    -- one of which it asks something
    pub adds-yes : (pair : PlacePair) (other n : ℕ) → asks from (get_or seconds i d) ≡ true → new.pairs.items ≡ mid.pairs.items ++ pair ∷ [] → new.numbers.items ≡ mid.numbers.items ++ n ∷ [] → pair.first ≡ m → pair.second ≡ other → m < length places → other < length places → place_at places other ≡ get_or seconds i d → n ≡ get_or answers (class_at k other) 0 → AddsQuestions k m answers old new (take (i + 1) seconds)
    adds-yes pair other n is_asked pairs numbers is_m is_other m_there other_there stands n_is paths verdicts qs known h =
        subst (λ (l : List Question). AreQuestionsListed paths verdicts places new l) (sym whole)
        (listed-more paths verdicts places mid new (qs ++ asked_by first (take i seconds)) pair question n pairs numbers is within served (before paths verdicts qs known h))
      where
        question : Question
        question = question_between first (get_or seconds i d)

        asked : asks first (get_or seconds i d) ≡ true
        asked = subst (λ (p : Placed). asks p (get_or seconds i d) ≡ true) from_is is_asked

        whole : qs ++ asked_by first (take (i + 1) seconds) ≡ (qs ++ asked_by first (take i seconds)) ++ question ∷ []
        whole = asked-take first qs i seconds d lt ∙ ap (λ (l : List Question). (qs ++ asked_by first (take i seconds)) ++ l) (if_yes (asks first (get_or seconds i d)) question [] asked)

        is : question_at places pair ≡ question
        is = pair-question places first (get_or seconds i d) pair m other is_m is_other refl stands

        within : HasPlaces places pair
        within = record { first_within = subst (λ (z : ℕ). z < length places) (sym is_m) m_there; second_within = subst (λ (z : ℕ). z < length places) (sym is_other) other_there }

        served : IsServed (IsJudgedAt paths) verdicts question n
        served =
            subst (λ (z : ℕ). IsServed (IsJudgedAt paths) verdicts question z) (sym n_is)
            (subst (λ (p : Placed). IsServed (IsJudgedAt paths) verdicts (question_between first p) (get_or answers (class_at k other) 0)) stands
            (known other other_there (subst (λ (p : Placed). asks first p ≡ true) (sym stands) asked)))

-- lists with the same items are of the same questions
pub listed-kept : (paths : List Path) (verdicts : List Verdict) (places : List Placed) (old new : Listed) (qs : List Question) → new.pairs.items ≡ old.pairs.items → new.numbers.items ≡ old.numbers.items → AreQuestionsListed paths verdicts places old qs → AreQuestionsListed paths verdicts places new qs
listed-kept paths verdicts places old new qs pairs numbers h = record {
  questions = ap (questions_at places) pairs ∙ h.questions;
  within = subst (λ (l : List PlacePair). All (HasPlaces places) l) (sym pairs) h.within;
  served = subst (λ (l : List ℕ). AllZip (IsServed (IsJudgedAt paths) verdicts) qs l) (sym numbers) h.served;
}
