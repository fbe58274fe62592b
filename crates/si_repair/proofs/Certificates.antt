-- What is told of a table's entries rises, holds, and is the certificate's own.
use Rattle.std.proofs.Common.{◌≡◌, ℕ, ◌*◌, List, [], ◌∷◌, ◌++◌, map, length, refl, sym, subst, arith}
use Rattle.std.specs.Prelude.{All}
use Rattle.std.proofs.lemmas.List.Elements.{All-nil, All-cons, All-head, All-tail, All-append, All-contains_itself}
use Rattle.order_facts.specs.declared.steps.Node.{Node}
use Rattle.order_facts.specs.declared.steps.Fact.{Fact}
use Rattle.prog_check.specs.declared.path.Path.{Path}
use Rattle.prog_check.specs.declared.path.Term.{Term}
use Rattle.prog_paths.specs.StaticGraph.{QuestionNumbers, IsAccessOf}
use Rattle.prog_paths.specs.declared.accesses.questions.Question.{Question}
use Rattle.prog_paths.specs.Questions.{IsQuestion, numbers_of, questions_of}
use Rattle.prog_paths.specs.Listing.{IsAskedOf, IsBefore, RiseBy}
use Rattle.prog_paths.specs.Shown.{ShowEqual, key_pairs}
use Rattle.prog_paths.specs.Facts.{question_facts}
use Rattle.prog_paths.proofs.Membership.{law_of_listing}
use Rattle.prog_paths.proofs.Order.{law_of_order}
use Rattle.conflict_pairs.specs.declared.verdicts.Verdict.{Verdict}
use Rattle.conflict_pairs.specs.declared.verdicts.Verdict.TheVariants.{Apart, Covered, Exposed}
use Rattle.conflict_pairs.specs.Table.{Judged, Table, StandsFor, IsRightEntry}
use Rattle.conflict_pairs.specs.Verdicts.{IsRight, IsCoveredBy}
use Rattle.robust_cert.specs.declared.entries.Reason as reason
use Rattle.robust_cert.specs.Accepted.{question_of, IsCoverOf, Holds}
use Rattle.robust_cert.specs.Sharing.{Entry, entry_with}
use Rattle.si_repair.specs.Findings.{IsOwnEntry}
use Rattle.si_repair.specs.Certificates.{told_question, told_by, told_of}

-- ---- in order

behind-by : (p : QuestionNumbers) (q : Question) (v : Verdict) → IsBefore p (numbers_of q) → All (λ later. IsBefore p (question_of later)) (told_by q v)
behind-by p q (Apart chain) h = All-cons (λ later. IsBefore p (question_of later)) (entry_with (told_question q) (reason.TheVariants.Apart chain)) [] h (All-nil (λ later. IsBefore p (question_of later)))
behind-by p q (Covered m t chains) h = All-cons (λ later. IsBefore p (question_of later)) (entry_with (told_question q) (reason.TheVariants.Cover m t chains)) [] h (All-nil (λ later. IsBefore p (question_of later)))
behind-by p q (Exposed sample) h = All-nil (λ later. IsBefore p (question_of later))

behind : (p : QuestionNumbers) (es : List Judged) → All (λ later. IsBefore p (numbers_of later)) (map (λ (e : Judged). e.question) es) → All (λ later. IsBefore p (question_of later)) (told_of es)
behind p [] h = All-nil (λ later. IsBefore p (question_of later))
behind p (e ∷ es) h =
    let rest = map (λ (d : Judged). d.question) es in
    All-append (λ later. IsBefore p (question_of later)) (told_by e.question e.verdict) (told_of es)
    (behind-by p e.question e.verdict (All-head (λ later. IsBefore p (numbers_of later)) e.question rest h))
    (behind p es (All-tail (λ later. IsBefore p (numbers_of later)) e.question rest h))

rising-by : (q : Question) (v : Verdict) (rest : List Entry) → All (λ later. IsBefore (numbers_of q) (question_of later)) rest → RiseBy question_of rest → RiseBy question_of (told_by q v ++ rest)
rising-by q (Apart chain) rest h r = (h, r)
rising-by q (Covered m t chains) rest h r = (h, r)
rising-by q (Exposed sample) rest h r = r

rising-of : (es : List Judged) → RiseBy numbers_of (map (λ (e : Judged). e.question) es) → RiseBy question_of (told_of es)
rising-of [] r = tt
rising-of (e ∷ es) r = rising-by e.question e.verdict (told_of es) (behind (numbers_of e.question) es r.0) (rising-of es r.1)

pub rising : (t : Table) (paths : List Path) → StandsFor t paths → RiseBy question_of (told_of t.entries)
rising t paths s = rising-of t.entries (subst (λ (qs : List Question). RiseBy numbers_of qs) (sym s.questions) (law_of_order paths))

-- ---- one entry

-- the question is one of the paths, and the verdict on it is right
pub record IsEntryOf (paths : List Path) (e : Judged) : Type 0 where
  pub asked : IsAskedOf paths e.question
  pub right : IsRightEntry paths e

questions_asked : (P : Question → Type 0) (es : List Judged) → All P (map (λ (e : Judged). e.question) es) → All (λ e. P e.question) es
questions_asked P [] h = All-nil (λ (e : Judged). P e.question)
questions_asked P (e ∷ es) h =
    let rest = map (λ (d : Judged). d.question) es in
    All-cons (λ (d : Judged). P d.question) e es (All-head P e.question rest h) (questions_asked P es (All-tail P e.question rest h))

all_asked : (paths : List Path) → All (λ q. IsAskedOf paths q) (questions_of paths)
all_asked paths n d inside = (law_of_listing paths _).0 (All-contains_itself (questions_of paths) n d inside)

pub entries_stand : (t : Table) (paths : List Path) → StandsFor t paths → All (λ e. IsEntryOf paths e) t.entries
entries_stand t paths s n d inside = record {
  asked = questions_asked (λ q. IsAskedOf paths q) t.entries (subst (λ (qs : List Question). All (λ q. IsAskedOf paths q) qs) (sym s.questions) (all_asked paths)) n d inside;
  right = s.right n d inside;
}

-- two chains show each pair equal
two_for_each : (facts : List Fact) (pairs : List (Term × Term)) (chains : List (List Node)) → ShowEqual facts pairs chains → length chains ≡ 2 * length pairs
two_for_each facts [] [] h = refl
two_for_each facts (p ∷ ps) (there ∷ back ∷ chains) h = let rest = two_for_each facts ps chains h.2 in omega (arith, rest)
two_for_each facts [] (c ∷ cs) h = absurd h
two_for_each facts (p ∷ ps) [] h = absurd h
two_for_each facts (p ∷ ps) (c ∷ []) h = absurd h

module _ (paths : List Path) (q : Question) (asked : IsAskedOf paths q) where
  is_question : IsQuestion paths (numbers_of q)
  is_question = record { mine = asked.mine; theirs = asked.theirs; asked = asked.asked; asks = asked.asks }

  -- what covers the question is what a cover entry names
  IsCoverOf-from_covered : (m t : ℕ) (chains : List (List Node)) → (r : IsCoveredBy paths (numbers_of q) asked.mine asked.theirs m t chains) → IsCoverOf paths (numbers_of q) m t r.least.cover.of_first r.least.cover.of_second
  IsCoverOf-from_covered m t chains r =
      let cover = r.least.cover in
      record {
        mine = asked.mine;
        theirs = asked.theirs;
        asked = asked.asked;
        asks = r.asks;
        at_mine = subst (λ (n : ℕ). IsAccessOf paths q.x n cover.of_first) r.least.mine_is cover.at_first;
        at_theirs = subst (λ (n : ℕ). IsAccessOf paths q.y n cover.of_second) r.least.theirs_is cover.at_second;
        mine_covers = cover.first_covers;
        theirs_covers = cover.second_covers;
        table = (cover.same r.can_meet.0 r.can_meet.1 r.can_meet.2).table;
      }

  holds-by : (v : Verdict) → IsRight paths (numbers_of q) v → All (Holds paths) (told_by q v)
  unfolding IsCoverOf-from_covered
  holds-by (Apart chain) right =
      All-cons (Holds paths) (entry_with (told_question q) (reason.TheVariants.Apart chain)) []
      (record { question = is_question; fitting = tt; chains = (asked.mine, asked.theirs, asked.asked, (right asked.mine asked.theirs asked.asked).1.falls) })
      (All-nil (Holds paths))
  holds-by (Covered m t chains) right =
      let r = right asked.mine asked.theirs asked.asked in
      let first = r.least.cover.of_first in
      let second = r.least.cover.of_second in
      let cover = IsCoverOf-from_covered m t chains r in
      All-cons (Holds paths) (entry_with (told_question q) (reason.TheVariants.Cover m t chains)) []
      (record {
        question = is_question;
        fitting = (first, second, cover, two_for_each (question_facts asked.mine asked.theirs) (key_pairs first second) chains r.equal);
        chains = (first, second, cover, r.equal);
      })
      (All-nil (Holds paths))
  holds-by (Exposed sample) right = All-nil (Holds paths)

  own-by : (v : Verdict) → IsRight paths (numbers_of q) v → All (IsOwnEntry paths) (told_by q v)
  own-by (Apart chain) right =
      All-cons (IsOwnEntry paths) (entry_with (told_question q) (reason.TheVariants.Apart chain)) [] right (All-nil (IsOwnEntry paths))
  own-by (Covered m t chains) right =
      All-cons (IsOwnEntry paths) (entry_with (told_question q) (reason.TheVariants.Cover m t chains)) [] right (All-nil (IsOwnEntry paths))
  own-by (Exposed sample) right = All-nil (IsOwnEntry paths)

-- ---- all entries

-- what is so of all that is told of each entry is so of all that is told
pub told_all : (P : Entry → Type 0) (Of : Judged → Type 0) → ((e : Judged) → Of e → All P (told_by e.question e.verdict)) → (es : List Judged) → All Of es → All P (told_of es)
told_all P Of by [] h = All-nil P
told_all P Of by (e ∷ es) h =
    All-append P (told_by e.question e.verdict) (told_of es) (by e (All-head Of e es h)) (told_all P Of by es (All-tail Of e es h))

pub told_holds : (t : Table) (paths : List Path) → StandsFor t paths → All (Holds paths) (told_of t.entries)
told_holds t paths s = told_all (Holds paths) (IsEntryOf paths) (λ e h. holds-by paths e.question h.asked e.verdict h.right) t.entries (entries_stand t paths s)

pub told_own : (t : Table) (paths : List Path) → StandsFor t paths → All (IsOwnEntry paths) (told_of t.entries)
told_own t paths s = told_all (IsOwnEntry paths) (IsEntryOf paths) (λ e h. own-by paths e.question h.asked e.verdict h.right) t.entries (entries_stand t paths s)
