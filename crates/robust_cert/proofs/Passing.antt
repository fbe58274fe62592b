-- How a pass goes on, part by part.
use Rattle.std.proofs.Common.{◌≡◌, ℕ, ◌<◌, ◌+◌, Bool, false, ◌||◌, List, [], ◌∷◌, ◌++◌, length, get_or, take, drop, refl, sym, subst, ap, ◌∙◌, arith}
use Rattle.std.specs.Prelude.{All}
use Rattle.std.proofs.Math.Bool.{or_assoc, or-false}
use Rattle.std.proofs.lemmas.List.{take-append-drop, drop_more, take_more, append-nil}
use Rattle.std.proofs.lemmas.List.Folds.{list_any-append}
use Rattle.std.proofs.lemmas.List.Elements.{All-head, Contains-get_or}
use Rattle.prog_check.specs.declared.path.Path.{Path}
use Rattle.prog_paths.specs.declared.accesses.places.Placed.{Placed}
use Rattle.prog_paths.specs.declared.accesses.questions.Question.{Question}
use Rattle.prog_paths.specs.Questions.{asked_by, asked_among, questions_of, numbers_of}
use Rattle.prog_paths.specs.Changers.{changers_of}
use Rattle.prog_paths.specs.Tally.{of_table}
use Rattle.prog_paths.specs.Listing.{IsBefore, RiseBy}
use Rattle.prog_paths.proofs.Questions.{asked_by-append, asked_among-append}
use Rattle.prog_paths.proofs.Changing.{seconds_ask}
use Rattle.prog_paths.proofs.Order.{law_of_order}
use Rattle.prog_paths.specs.declared.accesses.mark.EdgeTables.{EdgeTables}
use Rattle.prog_paths.specs.declared.accesses.mark.Mark.{Mark}
use Rattle.robust_cert.specs.declared.checking.telling.Telling.{Telling}
use Rattle.robust_cert.specs.Accepted.{question_of}
use Rattle.order_facts.specs.Square.{Grid, entry, IsEmptySquare, IsSquareOf, Enters}
use Rattle.prog_paths.specs.Marks.{gives_edge, gives_vulnerable, EntersMark}
use Rattle.prog_paths.proofs.Rising.{rises-left, rises-right, rises-across}
use Rattle.robust_cert.specs.Telling.{telling_of, mark_with, mark_under, IsBehind}
use Rattle.robust_cert.specs.Leaving.{some_edge, some_vulnerable, Leaves, IsReady, Passes}
use Rattle.robust_cert.specs.Sharing.{Entry}
use Rattle.robust_cert.proofs.Cursor.{before_trans}
use Rattle.rayon.proofs.ListFacts.{All-parts}

-- ---- lists in two parts

-- the first part stands before the second
rise-across : (xs ys : List Question) → RiseBy numbers_of (xs ++ ys) → (k : ℕ) (d : Question) → k < length ys → All (λ x. IsBefore (numbers_of x) (numbers_of (get_or ys k d))) xs
rise-across xs ys r k d lt =
    λ j e l. rises-across (λ x later. IsBefore (numbers_of x) (numbers_of later)) xs ys (get_or xs j e) (get_or ys k d) r (Contains-get_or xs j e l) (Contains-get_or ys k d lt)

-- ---- tables

Enters-append : (old mid new : Grid) (f g h : ℕ → ℕ → Bool) → ((i j : ℕ) → h i j ≡ (f i j || g i j)) → Enters old mid f → Enters mid new g → Enters old new h
Enters-append old mid new f g h both first second = record {
  size = second.size ∙ first.size;
  entries = λ i j p q.
      let size = first.size in
      second.entries i j (omega (arith, size, p)) (omega (arith, size, q))
      ∙ ap (λ (b : Bool). b || g i j) (first.entries i j p q)
      ∙ or_assoc (entry old i j) (f i j) (g i j)
      ∙ ap (λ (b : Bool). entry old i j || b) (sym (both i j));
}

Enters-nothing : (s : Grid) → Enters s s (λ i j. false)
Enters-nothing s = record { size = refl; entries = λ i j p q. sym (or-false (entry s i j)) }

Enters-alike : (old new : Grid) (f g : ℕ → ℕ → Bool) → ((i j : ℕ) → f i j ≡ g i j) → Enters old new f → Enters old new g
Enters-alike old new f g same e = record { size = e.size; entries = λ i j p q. e.entries i j p q ∙ ap (λ (b : Bool). entry old i j || b) (same i j) }

square-from_empty : (old new : Grid) (size : ℕ) (test : ℕ → ℕ → Bool) → IsEmptySquare old size → Enters old new test → IsSquareOf new size test
square-from_empty old new size test empty e = record {
  size_is = e.size ∙ empty.size_is;
  entries = λ i j p q.
      let is = empty.size_is in
      e.entries i j (omega (arith, is, p)) (omega (arith, is, q)) ∙ ap (λ (b : Bool). b || test i j) (empty.entries i j p q);
}

-- ---- a pass over no question, over one, and over two parts

module _ (entries : List Entry) where
  pub Passes-none : (cursor : ℕ) (s : EdgeTables) → Passes entries [] cursor cursor s s
  Passes-none cursor s = record { edges = Enters-nothing s.edges; vulnerable = Enters-nothing s.vulnerable; cursor = λ q behind all. behind }

  pub Passes-one : (q : Question) (told : Telling) (m : Mark) (from to : ℕ) (old new : EdgeTables) → told ≡ telling_of entries (numbers_of q) → m ≡ mark_with q told → EntersMark old new m → IsBehind entries to (numbers_of q) → Passes entries (q ∷ []) from to old new
  Passes-one q told m from to old new tells is e behind = record {
    edges = Enters-alike old.edges new.edges (λ x y. gives_edge x y m) (some_edge entries (q ∷ [])) (λ x y. ap (λ (n : Mark). gives_edge x y n) own ∙ sym (or-false (gives_edge x y (mark_under entries q)))) e.edges;
    vulnerable = Enters-alike old.vulnerable new.vulnerable (λ x y. gives_vulnerable x y m) (some_vulnerable entries (q ∷ [])) (λ x y. ap (λ (n : Mark). gives_vulnerable x y n) own ∙ sym (or-false (gives_vulnerable x y (mark_under entries q)))) e.vulnerable;
    cursor = λ r _ all k d lt at. before_trans (question_of d) (numbers_of q) r (behind k d lt at) (All-head (λ p. IsBefore (numbers_of p) r) q [] all);
  }
    where
      own : m ≡ mark_under entries q
      own = is ∙ ap (mark_with q) tells

  pub Passes-append : (xs ys : List Question) (a b c : ℕ) (old mid new : EdgeTables) → Passes entries xs a b old mid → Passes entries ys b c mid new → Passes entries (xs ++ ys) a c old new
  Passes-append xs ys a b c old mid new first second = record {
    edges = Enters-append old.edges mid.edges new.edges (some_edge entries xs) (some_edge entries ys) (some_edge entries (xs ++ ys)) (λ i j. list_any-append (λ q. gives_edge i j (mark_under entries q)) xs ys) first.edges second.edges;
    vulnerable = Enters-append old.vulnerable mid.vulnerable new.vulnerable (some_vulnerable entries xs) (some_vulnerable entries ys) (some_vulnerable entries (xs ++ ys)) (λ i j. list_any-append (λ q. gives_vulnerable i j (mark_under entries q)) xs ys) first.vulnerable second.vulnerable;
    cursor = λ q behind all. let parts = All-parts (λ p. IsBefore (numbers_of p) q) xs ys all in second.cursor q (first.cursor q behind parts.0) parts.1;
  }

  ready-left : (xs ys : List Question) (a : ℕ) → IsReady entries (xs ++ ys) a → IsReady entries xs a
  ready-left xs ys a r = record { entries_rise = r.entries_rise; questions_rise = rises-left (λ x later. IsBefore (numbers_of x) (numbers_of later)) xs ys r.questions_rise; behind = (All-parts (λ q. IsBehind entries a (numbers_of q)) xs ys r.behind).0 }

  ready-right : (xs ys : List Question) (a b : ℕ) (old new : EdgeTables) → IsReady entries (xs ++ ys) a → Passes entries xs a b old new → IsReady entries ys b
  ready-right xs ys a b old new r p = record {
    entries_rise = r.entries_rise;
    questions_rise = rises-right (λ x later. IsBefore (numbers_of x) (numbers_of later)) xs ys r.questions_rise;
    behind = λ k d lt. p.cursor (numbers_of (get_or ys k d)) ((All-parts (λ q. IsBehind entries a (numbers_of q)) xs ys r.behind).1 k d lt) (rise-across xs ys r.questions_rise k d lt);
  }

  -- ---- what one access asks of places, one more

  one_more : {A : Type 0} (n : ℕ) (xs : List A) (d : A) → n < length xs → take n xs ++ (get_or xs n d ∷ drop (n + 1) xs) ≡ xs
  one_more n xs d lt = ap (λ l. take n xs ++ l) (sym (drop_more xs n d lt)) ∙ take-append-drop n xs

  module _ (first : Placed) (places : List Placed) (n : ℕ) (d : Placed) (lt : n < length places) (from at : ℕ) (old now : EdgeTables) where
    pub asked-ready : IsReady entries (asked_by first places) from → Passes entries (asked_by first (take n places)) from at old now → IsReady entries (asked_by first (get_or places n d ∷ [])) at
    asked-ready r p =
        let rest = drop (n + 1) places in
        let x = get_or places n d in
        let whole : asked_by first (take n places) ++ asked_by first (x ∷ rest) ≡ asked_by first places = sym (asked_by-append first (take n places) (x ∷ rest)) ∙ ap (asked_by first) (one_more n places d lt) in
        let behind = ready-right (asked_by first (take n places)) (asked_by first (x ∷ rest)) from at old now (subst (λ (l : List Question). IsReady entries l from) (sym whole) r) p in
        ready-left (asked_by first (x ∷ [])) (asked_by first rest) at (subst (λ (l : List Question). IsReady entries l at) (asked_by-append first (x ∷ []) rest) behind)

    pub asked-more : (to : ℕ) (new : EdgeTables) → Passes entries (asked_by first (take n places)) from at old now → Passes entries (asked_by first (get_or places n d ∷ [])) at to now new → Passes entries (asked_by first (take (n + 1) places)) from to old new
    asked-more to new p q =
        let x = get_or places n d in
        let parts : asked_by first (take n places) ++ asked_by first (x ∷ []) ≡ asked_by first (take (n + 1) places) = sym (asked_by-append first (take n places) (x ∷ [])) ∙ ap (asked_by first) (sym (take_more places n d lt)) in
        subst (λ (l : List Question). Passes entries l from to old new) parts (Passes-append (asked_by first (take n places)) (asked_by first (x ∷ [])) from at to old now new p q)

  -- ---- what each of some places asks, one more

  among-one : (x : Placed) (rest seconds : List Placed) → asked_among (x ∷ rest) seconds ≡ asked_by x seconds ++ asked_among rest seconds
  among-one x rest seconds = refl

  module _ (firsts seconds : List Placed) (n : ℕ) (d : Placed) (lt : n < length firsts) (from at : ℕ) (old now : EdgeTables) where
    among-ready : IsReady entries (asked_among firsts seconds) from → Passes entries (asked_among (take n firsts) seconds) from at old now → IsReady entries (asked_by (get_or firsts n d) seconds) at
    among-ready r p =
        let rest = drop (n + 1) firsts in
        let x = get_or firsts n d in
        let whole : asked_among (take n firsts) seconds ++ asked_among (x ∷ rest) seconds ≡ asked_among firsts seconds = sym (asked_among-append (take n firsts) (x ∷ rest) seconds) ∙ ap (λ (l : List Placed). asked_among l seconds) (one_more n firsts d lt) in
        let behind = ready-right (asked_among (take n firsts) seconds) (asked_among (x ∷ rest) seconds) from at old now (subst (λ (l : List Question). IsReady entries l from) (sym whole) r) p in
        ready-left (asked_by x seconds) (asked_among rest seconds) at behind

    among-more : (to : ℕ) (new : EdgeTables) → Passes entries (asked_among (take n firsts) seconds) from at old now → Passes entries (asked_by (get_or firsts n d) seconds) at to now new → Passes entries (asked_among (take (n + 1) firsts) seconds) from to old new
    among-more to new p q =
        let x = get_or firsts n d in
        let parts : asked_among (take n firsts) seconds ++ asked_by x seconds ≡ asked_among (take (n + 1) firsts) seconds =
        ap (λ (l : List Question). asked_among (take n firsts) seconds ++ l) (sym (append-nil (asked_by x seconds)))
        ∙ sym (asked_among-append (take n firsts) (x ∷ []) seconds)
        ∙ ap (λ (l : List Placed). asked_among l seconds) (sym (take_more firsts n d lt)) in
        subst (λ (l : List Question). Passes entries l from to old new) parts (Passes-append (asked_among (take n firsts) seconds) (asked_by x seconds) from at to old now new p q)

  -- the changers of its table stand for all
  module _ (places changers seconds : List Placed) (n : ℕ) (d : Placed) (lt : n < length places) (from at : ℕ) (old now : EdgeTables) (are_seconds : seconds ≡ of_table (get_or places n d).access.table changers) (are_changers : (table : ℕ) → of_table table changers ≡ changers_of table places) where
    same : asked_by (get_or places n d) seconds ≡ asked_by (get_or places n d) places
    same = seconds_ask (get_or places n d) places changers seconds are_seconds are_changers

    pub seconds-ready : IsReady entries (asked_among places places) from → Passes entries (asked_among (take n places) places) from at old now → IsReady entries (asked_by (get_or places n d) seconds) at
    seconds-ready r p = subst (λ (l : List Question). IsReady entries l at) (sym same) (among-ready places places n d lt from at old now r p)

    pub seconds-more : (to : ℕ) (new : EdgeTables) → Passes entries (asked_among (take n places) places) from at old now → Passes entries (asked_by (get_or places n d) seconds) at to now new → Passes entries (asked_among (take (n + 1) places) places) from to old new
    seconds-more to new p q = among-more places places n d lt from at old now to new p (subst (λ (l : List Question). Passes entries l at to now new) same q)

  -- ---- the whole

  pub all-ready : (paths : List Path) → RiseBy question_of entries → IsReady entries (questions_of paths) 0
  all-ready paths rise = record { entries_rise = rise; questions_rise = law_of_order paths; behind = λ k d lt j e none at. absurd (omega (arith, none)) }

  pub leaves-from_enters : (paths : List Path) (old new : EdgeTables) → IsEmptySquare old.edges (length paths) → IsEmptySquare old.vulnerable (length paths) → Enters old.edges new.edges (some_edge entries (questions_of paths)) → Enters old.vulnerable new.vulnerable (some_vulnerable entries (questions_of paths)) → Leaves paths entries new
  leaves-from_enters paths old new edges vulnerable e v = record {
    edges = square-from_empty old.edges new.edges (length paths) (some_edge entries (questions_of paths)) edges e;
    vulnerable = square-from_empty old.vulnerable new.vulnerable (length paths) (some_vulnerable entries (questions_of paths)) vulnerable v;
  }
