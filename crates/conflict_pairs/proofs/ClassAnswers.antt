-- What is told of pairs of classes is right of each two accesses, and tells of each question.
use Rattle.std.proofs.Common.{◌≡◌, ℕ, ◌<◌, ◌≤◌, ◌+◌, ◌⊎◌, inl, inr, List, [], ◌∷◌, length, get_or, true, refl, sym, subst, ap, ◌∙◌, arith, zero, suc, Some, Contains}
use Rattle.std.specs.Prelude.{All, slice_get}
use Rattle.std.specs.List.{AllZip}
use Rattle.std.proofs.lemmas.List.Elements.{All-nil, All-cons, All-head, All-tail, All-contains}
use Rattle.std.proofs.lemmas.Bool.{cases_lt}
use Rattle.std.proofs.lemmas.Option.{none-some, same_Some, slice_get_within, slice_get_past, slice_get-get_or, get_or_from_slice_get}
use Rattle.std.proofs.lemmas.List.{get_or_default}
use Rattle.prog_tree.proofs.Elements.{contains_at}
use Rattle.prog_check.specs.declared.path.Kind.{Kind}
use Rattle.prog_check.specs.declared.path.Access.{Access}
use Rattle.prog_check.specs.declared.path.Path.{Path}
use Rattle.prog_paths.specs.declared.accesses.places.Placed.{Placed}
use Rattle.prog_paths.specs.declared.accesses.questions.Question.{Question}
use Rattle.prog_paths.specs.Listing.{IsAskedOf}
use Rattle.prog_paths.specs.Places.{AreAlike, IsAt}
use Rattle.prog_paths.specs.Questions.{Asks, asks, between, numbers_of, question_between, questions_of}
use Rattle.prog_paths.proofs.Membership.{law_of_listing}
use Rattle.conflict_pairs.specs.declared.classes.AccessClasses.{AccessClasses}
use Rattle.conflict_pairs.specs.declared.class_pairs.ClassPairs.{ClassPairs}
use Rattle.conflict_pairs.specs.declared.interning.Interned.{Interned}
use Rattle.conflict_pairs.specs.declared.pairing.PlacePair.{PlacePair}
use Rattle.conflict_pairs.specs.declared.verdicts.Verdict.{Verdict}
use Rattle.conflict_pairs.specs.declared.verdicts.Verdict.TheVariants.{Apart}
use Rattle.conflict_pairs.specs.Alike.{IsAsked, IsJudgedAt}
use Rattle.conflict_pairs.specs.Classed.{ClassAnswer, IsRightOfEach, HaveVerdict, IsAnswerTo, IsAnswered, AnswersAll, answer_by, answers_by, AreClassesJudged, classed_by}
use Rattle.conflict_pairs.specs.Classes.{HasAccessOf, class_at, nodes_at, nodes_in, starts_from}
use Rattle.conflict_pairs.specs.ClassPairs.{IsPairOf}
use Rattle.conflict_pairs.specs.Interning.{IsServed}
use Rattle.conflict_pairs.specs.Pairing.{IsAskedBetween, no_place, place_at, question_at}
use Rattle.conflict_pairs.specs.Sharing.{IsOnPair}
use Rattle.conflict_pairs.specs.Table.{verdict_at}
use Rattle.conflict_pairs.proofs.ClassRows.{alike-places, asks-pair, like-places, numbered-place, stands-at}
use Rattle.conflict_pairs.proofs.Collecting.{all_asked}
use Rattle.conflict_pairs.proofs.Likeness.{judged-like, right-between, right-judged}
use Rattle.conflict_pairs.proofs.Moving.{asked_between}
use Rattle.conflict_pairs.proofs.Paired.{place-any}
use Rattle.conflict_pairs.proofs.Serving.{all-within, served-at}
use Rattle.conflict_pairs.proofs.Zipped.{AllZip-lengths}

module _ (k : AccessClasses) (vs : List Verdict) where
  -- the answer of a pair stands at its place
  pub answers-at : (pairs : List PlacePair) (ns : List ℕ) (j : ℕ) (pair : PlacePair) → length pairs ≡ length ns → slice_get pairs j ≡ Some pair → slice_get (answers_by k vs pairs ns) j ≡ Some (answer_by k vs pair (get_or ns j 0))
  answers-at [] ns j pair long at = absurd (none-some pair at)
  answers-at (p ∷ pairs) [] j pair long at = let no : ⊥ = omega (arith, long) in absurd no
  answers-at (p ∷ pairs) (n ∷ ns) zero pair long at = ap (λ (q : PlacePair). Some (answer_by k vs q n)) (same_Some p pair at)
  answers-at (p ∷ pairs) (n ∷ ns) (suc j) pair long at = answers-at pairs ns j pair (omega (arith, long)) at

  pub answers-length : (pairs : List PlacePair) (ns : List ℕ) → length pairs ≡ length ns → length (answers_by k vs pairs ns) ≡ length pairs
  answers-length [] ns e = refl
  answers-length (p ∷ pairs) [] e = let no : ⊥ = omega (arith, e) in absurd no
  answers-length (p ∷ pairs) (n ∷ ns) e = ap suc (answers-length pairs ns (omega (arith, e)))

module _ (paths : List Path) (k : AccessClasses) (ps : ClassPairs) (judged : Interned Verdict) (h : AreClassesJudged paths k ps judged) where
  abbrev L : List Placed
  L = k.places.items

  abbrev vs : List Verdict
  vs = judged.values.items

  verdict-on : (pair : PlacePair) (n : ℕ) → IsServed (IsOnPair paths L) vs pair n → IsJudgedAt paths (question_at L pair) (verdict_at vs n)
  verdict-on pair n s = subst (λ (v : Verdict). IsJudgedAt paths (question_at L pair) v) (sym (get_or_from_slice_get vs n s.value (Apart []) s.at)) s.serves

  -- what is said of a pair is said of each two accesses of its classes
  judged-of : (pair : PlacePair) (i j : ℕ) (v : Verdict) → IsAskedBetween paths L pair → i < length L → j < length L → class_at k i ≡ class_at k pair.first → class_at k j ≡ class_at k pair.second
      → IsJudgedAt paths (question_at L pair) v → IsJudgedAt paths (question_between (place_at L i) (place_at L j)) v
  judged-of pair i j v asked i_in j_in first second =
      judged-like paths (question_between (place_at L i) (place_at L j)) (question_at L pair) v
      (like-places paths k h.classes i pair.first i_in asked.within.first_within first, like-places paths k h.classes j pair.second j_in asked.within.second_within second)

  -- ---- each answer is right

  right-of-each : (pair : PlacePair) (n : ℕ) → IsAskedBetween paths L pair → IsServed (IsOnPair paths L) vs pair n → IsRightOfEach paths (answer_by k vs pair n)
  right-of-each pair n asked s x y in_x in_y = record {
    question = numbers_of (question_between (place_at L mine.number) (place_at L theirs.number));
    from = mine.node;
    to = theirs.node;
    first = (place_at L mine.number).access;
    second = (place_at L theirs.number).access;
    asked = record { at_mine = at_mine; at_theirs = at_theirs; table = table };
    mine_is = alike_mine.kind;
    theirs_is = alike_theirs.kind;
    right =
        right-between paths h.single (place_at L mine.number) (place_at L theirs.number) at_mine at_theirs table kinds (verdict_at vs n)
        (judged-of pair mine.number theirs.number (verdict_at vs n) asked mine.within theirs.within mine.class theirs.class (verdict-on pair n s));
  }
    where
      mine : HasAccessOf L k.numbers.items (class_at k pair.first) x
      mine = h.classes.nodes.only (class_at k pair.first) x in_x

      theirs : HasAccessOf L k.numbers.items (class_at k pair.second) y
      theirs = h.classes.nodes.only (class_at k pair.second) y in_y

      at_mine : IsAt paths (place_at L mine.number)
      at_mine = stands-at paths k h.classes mine.number mine.within

      at_theirs : IsAt paths (place_at L theirs.number)
      at_theirs = stands-at paths k h.classes theirs.number theirs.within

      alike_mine : AreAlike (place_at L mine.number).access (place_at L pair.first).access
      alike_mine = alike-places paths k h.classes mine.number pair.first mine.within asked.within.first_within mine.class

      alike_theirs : AreAlike (place_at L theirs.number).access (place_at L pair.second).access
      alike_theirs = alike-places paths k h.classes theirs.number pair.second theirs.within asked.within.second_within theirs.class

      told : ((place_at L pair.first).access.table ≡ (place_at L pair.second).access.table) × Asks (between (place_at L mine.number).number (place_at L theirs.number).number) (place_at L pair.first).access.kind (place_at L pair.second).access.kind
      told = asked_between (place_at L mine.number).number (place_at L theirs.number).number (place_at L pair.first) (place_at L pair.second) (asks-pair paths k h.classes pair asked)

      table : (place_at L mine.number).access.table ≡ (place_at L theirs.number).access.table
      table = alike_mine.table ∙ told.0 ∙ sym alike_theirs.table

      kinds : Asks (between (place_at L mine.number).number (place_at L theirs.number).number) (place_at L mine.number).access.kind (place_at L theirs.number).access.kind
      kinds =
          subst (λ (a : Kind). Asks (between (place_at L mine.number).number (place_at L theirs.number).number) a (place_at L theirs.number).access.kind) (sym alike_mine.kind)
          (subst (λ (b : Kind). Asks (between (place_at L mine.number).number (place_at L theirs.number).number) (place_at L pair.first).access.kind b) (sym alike_theirs.kind) told.1)

  answers-right : (pairs : List PlacePair) (ns : List ℕ) → All (IsAskedBetween paths L) pairs → AllZip (IsServed (IsOnPair paths L) vs) pairs ns → All (IsRightOfEach paths) (answers_by k vs pairs ns)
  answers-right [] ns a s = All-nil (IsRightOfEach paths)
  answers-right (p ∷ pairs) [] a s = absurd s
  answers-right (p ∷ pairs) (n ∷ ns) a s =
      All-cons (IsRightOfEach paths) (answer_by k vs p n) (answers_by k vs pairs ns) (right-of-each p n (All-head (IsAskedBetween paths L) p pairs a) s.0)
      (answers-right pairs ns (All-tail (IsAskedBetween paths L) p pairs a) s.1)

  -- ---- each question is answered

  -- the number of an access among all
  module _ (q : Question) (asked : IsAsked paths q) where
    abbrev m : ℕ
    m = get_or (starts_from 0 paths) asked.first.node 0 + asked.first.number

    abbrev n : ℕ
    n = get_or (starts_from 0 paths) asked.second.node 0 + asked.second.number

    m-at : slice_get L m ≡ Some asked.first
    m-at = numbered-place paths k h.classes asked.first asked.at_first

    n-at : slice_get L n ≡ Some asked.second
    n-at = numbered-place paths k h.classes asked.second asked.at_second

    m-is : place_at L m ≡ asked.first
    m-is = get_or_from_slice_get L m asked.first no_place m-at

    n-is : place_at L n ≡ asked.second
    n-is = get_or_from_slice_get L n asked.second no_place n-at

    m-in : m < length L
    m-in = slice_get_within L m asked.first m-at

    n-in : n < length L
    n-in = slice_get_within L n asked.second n-at

    asks-them : asks (place_at L m) (place_at L n) ≡ true
    asks-them = (λ i. asks (m-is i) (n-is i)) ∙ asked.asks_it

    answered-by : (j : ℕ) → IsPairOf k ps.pairs.items (class_at k m) (class_at k n) j → IsAnswered (classed_by paths k ps judged) q
    answered-by j p = record {
      answer = answer_by k vs p.pair number;
      told = contains_at (answers_by k vs ps.pairs.items judged.numbers.items) j (answer_by k vs p.pair number) (answers-at k vs ps.pairs.items judged.numbers.items j p.pair long p.at);
      to_it = record {
        mine = ap (λ (r : Question). r.mine) asked.is ∙ ap (λ (r : Placed). r.access.kind) (sym m-is) ∙ alike_mine.kind;
        theirs = ap (λ (r : Question). r.theirs) asked.is ∙ ap (λ (r : Placed). r.access.kind) (sym n-is) ∙ alike_theirs.kind;
        first =
            subst (λ (c : ℕ). Contains (nodes_at k.nodes.items c) q.x) (sym p.first)
            (subst (λ (x : ℕ). Contains (nodes_at k.nodes.items (class_at k m)) x) (ap (λ (r : Placed). r.node) m-is ∙ ap (λ (r : Question). r.x) (sym asked.is)) (h.classes.nodes.has m m-in));
        second =
            subst (λ (c : ℕ). Contains (nodes_at k.nodes.items c) q.y) (sym p.second)
            (subst (λ (x : ℕ). Contains (nodes_at k.nodes.items (class_at k n)) x) (ap (λ (r : Placed). r.node) n-is ∙ ap (λ (r : Question). r.y) (sym asked.is)) (h.classes.nodes.has n n-in));
        right = right-judged paths q h.single asked (verdict_at vs number) (subst (λ (r : Question). IsJudgedAt paths r (verdict_at vs number)) here there);
      };
    }
      where
        number : ℕ
        number = get_or judged.numbers.items j 0

        long : length ps.pairs.items ≡ length judged.numbers.items
        long = AllZip-lengths (IsServed (IsOnPair paths L) vs) ps.pairs.items judged.numbers.items h.on_pairs.served

        pair_asked : IsAskedBetween paths L p.pair
        pair_asked = All-contains (IsAskedBetween paths L) ps.pairs.items p.pair h.pairs.asked (contains_at ps.pairs.items j p.pair p.at)

        alike_mine : AreAlike (place_at L m).access (place_at L p.pair.first).access
        alike_mine = alike-places paths k h.classes m p.pair.first m-in pair_asked.within.first_within (sym p.first)

        alike_theirs : AreAlike (place_at L n).access (place_at L p.pair.second).access
        alike_theirs = alike-places paths k h.classes n p.pair.second n-in pair_asked.within.second_within (sym p.second)

        served : IsServed (IsOnPair paths L) vs p.pair number
        served = served-at (IsOnPair paths L) vs ps.pairs.items judged.numbers.items j p.pair number 0 h.on_pairs.served p.at refl

        there : IsJudgedAt paths (question_between (place_at L m) (place_at L n)) (verdict_at vs number)
        there = judged-of p.pair m n (verdict_at vs number) pair_asked m-in n-in (sym p.first) (sym p.second) (verdict-on p.pair number served)

        here : question_between (place_at L m) (place_at L n) ≡ q
        here = (λ i. question_between (m-is i) (n-is i)) ∙ sym asked.is

  pub answers-all : AnswersAll (classed_by paths k ps judged)
  answers-all = record {
    single = h.single;
    right = answers-right ps.pairs.items judged.numbers.items h.pairs.asked h.on_pairs.served;
    all = λ q a.
        let asked = All-contains (IsAsked paths) (questions_of paths) q (all_asked paths) ((law_of_listing paths q).1 a) in
        let its = h.pairs.whole (m q asked) (n q asked) (m-in q asked) (n-in q asked) (asks-them q asked) in
        answered-by q asked its.0 its.2;
  }

  -- ---- what is read of an answer

  pub long-each : length ps.pairs.items ≡ length judged.numbers.items
  long-each = AllZip-lengths (IsServed (IsOnPair paths L) vs) ps.pairs.items judged.numbers.items h.on_pairs.served

  module _ (n : ℕ) (inside : n < length (answers_by k vs ps.pairs.items judged.numbers.items)) where
    pub pair-within : n < length ps.pairs.items
    pair-within = subst (λ (m : ℕ). n < m) (answers-length k vs ps.pairs.items judged.numbers.items long-each) inside

    pub number-within : n < length judged.numbers.items
    number-within = subst (λ (m : ℕ). n < m) long-each pair-within

    -- the pair of a number, and the number of its verdict
    pub pair-asked : (pair : PlacePair) → pair ≡ get_or ps.pairs.items n pair → IsAskedBetween paths L pair
    pair-asked pair is = subst (λ (p : PlacePair). IsAskedBetween paths L p) (sym is) (h.pairs.asked n pair pair-within)

    pub verdict-within : (m : ℕ) → m ≡ get_or judged.numbers.items n m → m < length vs
    verdict-within m is = subst (λ (x : ℕ). x < length vs) (sym is) (all-within (IsOnPair paths L) vs ps.pairs.items judged.numbers.items h.on_pairs.served n m number-within)

    module _ (e : ClassAnswer) (at : slice_get (answers_by k vs ps.pairs.items judged.numbers.items) n ≡ Some e) where
      answer-of : (pair : PlacePair) → pair ≡ get_or ps.pairs.items n pair → e ≡ answer_by k vs pair (get_or judged.numbers.items n 0)
      answer-of pair is =
          same_Some e (answer_by k vs pair (get_or judged.numbers.items n 0))
          (sym at ∙ answers-at k vs ps.pairs.items judged.numbers.items n pair long-each (slice_get-get_or ps.pairs.items n pair pair-within ∙ ap Some (sym is)))

      pub kinds-are : (pair : PlacePair) → pair ≡ get_or ps.pairs.items n pair → (first second : Placed) → first ≡ get_or L pair.first first → second ≡ get_or L pair.second second
          → (first.access.kind ≡ e.mine) × (second.access.kind ≡ e.theirs)
      kinds-are pair is first second first_is second_is =
          let a = answer-of pair is in
          let asked = pair-asked pair is in (
            ap (λ (p : Placed). p.access.kind) (first_is ∙ place-any L pair.first first asked.within.first_within) ∙ ap (λ (x : ClassAnswer). x.mine) (sym a),
            ap (λ (p : Placed). p.access.kind) (second_is ∙ place-any L pair.second second asked.within.second_within) ∙ ap (λ (x : ClassAnswer). x.theirs) (sym a),
          )

      pub firsts-are : (pair : PlacePair) → pair ≡ get_or ps.pairs.items n pair → nodes_at k.nodes.items (class_at k pair.first) ≡ e.firsts
      firsts-are pair is = ap (λ (x : ClassAnswer). x.firsts) (sym (answer-of pair is))

      pub seconds-are : (pair : PlacePair) → pair ≡ get_or ps.pairs.items n pair → nodes_at k.nodes.items (class_at k pair.second) ≡ e.seconds
      seconds-are pair is = ap (λ (x : ClassAnswer). x.seconds) (sym (answer-of pair is))

      pub verdict-is : (m : ℕ) (v : Verdict) → m ≡ get_or judged.numbers.items n m → v ≡ get_or vs m v → v ≡ e.verdict
      verdict-is m v m_is v_is =
          let pair = get_or ps.pairs.items n (record { first = 0; second = 0 }) in
          let own = get_or_default ps.pairs.items n (record { first = 0; second = 0 }) pair pair-within in
          let number = m_is ∙ get_or_default judged.numbers.items n m 0 number-within in
          v_is
          ∙ get_or_default vs m v (Apart []) (verdict-within m m_is)
          ∙ ap (verdict_at vs) number
          ∙ ap (λ (x : ClassAnswer). x.verdict) (sym (answer-of pair own))

  -- the class of an access has nodes
  pub class-has_nodes : (i : ℕ) → i < length L → class_at k i < length k.nodes.items
  class-has_nodes i lt = by (cases_lt (class_at k i) (length k.nodes.items))
    where
      by : (class_at k i < length k.nodes.items) ⊎ (length k.nodes.items ≤ class_at k i) → class_at k i < length k.nodes.items
      by (inl a) = a
      by (inr b) = let none = subst (λ (l : List ℕ). Contains l (place_at L i).node) (ap nodes_in (slice_get_past k.nodes.items (class_at k i) b)) (h.classes.nodes.has i lt) in let no = none.1 in absurd (omega (arith, no))
