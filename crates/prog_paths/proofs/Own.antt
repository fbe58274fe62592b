-- The unknowns of accesses in bodies are their own, since those of statements are numbered apart.
use Rattle.std.proofs.Common.{◌≡◌, ℕ, ◌+◌, ◌<◌, ◌≤◌, Bool, true, false, ◌||◌, List, [], ◌∷◌, ◌⊎◌, inl, inr, map, refl, sym, subst, ap, ◌∙◌, arith, tests}
use Rattle.std.proofs.lemmas.List.Elements.{All-from_recursion}
use Rattle.std.specs.List.{AllByRecursion}
use Rattle.std.specs.Prelude.{ℤ, ◌≤ℤ◌, Option, Some, None, if◌then◌else◌}
use Rattle.std.proofs.lemmas.Bool.{false_from_ne_true, or_cases, or_left, or_right}
use Rattle.prog_tree.specs.declared.table.TableDecl.{TableDecl}
use Rattle.prog_tree.specs.Number.{IsI64}
use Rattle.prog_tree.specs.Syntax.{Name, ExprTree, KeyTree, One, Two, RangeTree, OneRange, TwoRange, StatementTree, ProgramTree}
use Rattle.prog_tree.specs.Syntax as s
use Rattle.prog_check.specs.declared.path.Kind.{Kind}
use Rattle.prog_check.specs.declared.path.Term.{Term}
use Rattle.prog_check.specs.declared.path.Term.TheVariants.{Param, Literal, Unknown}
use Rattle.prog_check.specs.declared.path.Column.{Column}
use Rattle.prog_check.specs.declared.path.Access.{Access}
use Rattle.prog_check.specs.Names.{place_among}
use Rattle.prog_check.specs.Accesses.{param_or, is_unknown, single, term_of, next_behind, Columns, key_columns, range_columns, columns_of, next_unknown, kinds_at, access_of, accesses_to, accesses_of}
use Rattle.prog_check.specs.declared.path.Path.{Path}
use Rattle.prog_check.specs.Paths.{Passed, Route, routes, accesses_along, path_of, program_paths, paths_from, paths_of}
use Rattle.prog_paths.specs.Meeting.{Assignment, IsOfI64, IsWithin, IsWithinSecond, number_under, second_under, cell_under, is_unknown_at, column_has, second_has, has_unknown, with_own, IsTimeOf}
use Rattle.prog_paths.specs.Own.{AreOwn, LawOfOwnUnknowns, LawOfCovers, LawOfTimes, LawOfValues}
use Rattle.prog_tree.proofs.Elements.{IsMember, member_from_contains, member_either}
use Rattle.prog_paths.proofs.SingleCells.{all-append}

-- ---- the unknowns of a statement

-- a test passes for numbers from u to below w alone
abbrev Between : (u w : ℕ) → (ℕ → Bool) → Type 0
Between u w test = (n : ℕ) → test n ≡ true → (u ≤ n) × (n < w)

wider : (u w x y : ℕ) (test : ℕ → Bool) → x ≤ u → w ≤ y → Between u w test → Between x y test
wider u w x y test low high h n is = let b = h n is in (omega (arith, low, b.0), omega (arith, high, b.1))

either : (u w : ℕ) (f g : ℕ → Bool) → Between u w f → Between u w g → Between u w (λ n. f n || g n)
either u w f g h k n is = go (or_cases (f n) (g n) is)
  where
    go : (f n ≡ true) ⊎ (g n ≡ true) → (u ≤ n) × (n < w)
    go (inl e) = h n e
    go (inr e) = k n e

only : (u : ℕ) → Between u (u + 1) (is_unknown_at (Unknown u))
only u n is = let same : u ≡ n = search (tests, arith) in (omega (arith, same), omega (arith, same))

module _ (params : List Name) where
  param_between : (u : ℕ) (place : Option ℕ) → Between u (if is_unknown (param_or place u) then u + 1 else u) (is_unknown_at (param_or place u))
  param_between u (Some i) n is = absurd (cc)
  param_between u None n is = only u n is

  term_between : (u : ℕ) (e : ExprTree) → Between u (next_behind params u e) (is_unknown_at (term_of params u e))
  term_between u (s.Literal k) n is = absurd (cc)
  term_between u (s.Named x) n is = param_between u (place_among params x) n is
  term_between u (s.Plus a b) n is = only u n is
  term_between u (s.Minus a b) n is = only u n is
  term_between u (s.Times a b) n is = only u n is

  next_if : (u : ℕ) (b : Bool) → u ≤ (if b then u + 1 else u)
  next_if u true = omega arith
  next_if u false = omega arith

  next_low : (u : ℕ) (e : ExprTree) → u ≤ next_behind params u e
  next_low u e = next_if u (is_unknown (term_of params u e))

  -- the unknowns of columns
  abbrev columns_have : Columns → ℕ → Bool
  columns_have c n = column_has c.first n || second_has c.second n

  none_has : (u w : ℕ) → Between u w (λ n. false)
  none_has u w n is = absurd (cc)

  twice : (u w : ℕ) (t : Term) → Between u w (is_unknown_at t) → Between u w (column_has (single t))
  twice u w t h = either u w (is_unknown_at t) (is_unknown_at t) h h

  key_between : (u : ℕ) (k : KeyTree) → (u ≤ (key_columns params u k).next) × Between u (key_columns params u k).next (columns_have (key_columns params u k))
  key_between u (One a) =
      (next_low u a, either u (next_behind params u a) (column_has (single (term_of params u a))) (λ n. false) (twice u (next_behind params u a) (term_of params u a) (term_between u a)) (none_has u (next_behind params u a)))
  key_between u (Two a b) =
      let v = next_behind params u a in
      let w = next_behind params v b in
      let first = next_low u a in
      let second = next_low v b in (
        omega (arith, first, second),
        either u w (column_has (single (term_of params u a))) (column_has (single (term_of params v b)))
            (twice u w (term_of params u a) (wider u v u w (is_unknown_at (term_of params u a)) (omega arith) second (term_between u a)))
            (twice u w (term_of params v b) (wider v w u w (is_unknown_at (term_of params v b)) first (omega arith) (term_between v b))),
      )

  range_between : (u : ℕ) (r : RangeTree) → (u ≤ (range_columns params u r).next) × Between u (range_columns params u r).next (columns_have (range_columns params u r))
  range_between u (OneRange low high) =
      let v = next_behind params u low in
      let w = next_behind params v high in
      let first = next_low u low in
      let second = next_low v high in (
        omega (arith, first, second),
        either u w (λ n. is_unknown_at (term_of params u low) n || is_unknown_at (term_of params v high) n) (λ n. false)
            (either u w (is_unknown_at (term_of params u low)) (is_unknown_at (term_of params v high))
            (wider u v u w (is_unknown_at (term_of params u low)) (omega arith) second (term_between u low))
            (wider v w u w (is_unknown_at (term_of params v high)) first (omega arith) (term_between v high)))
            (none_has u w),
      )
  range_between u (TwoRange a low high) =
      let t = next_behind params u a in
      let v = next_behind params t low in
      let w = next_behind params v high in
      let zeroth = next_low u a in
      let first = next_low t low in
      let second = next_low v high in
      let up_to_t : t ≤ w = omega (arith, first, second) in
      let from_v : u ≤ v = omega (arith, zeroth, first) in (
        omega (arith, zeroth, first, second),
        either u w (column_has (single (term_of params u a))) (λ n. is_unknown_at (term_of params t low) n || is_unknown_at (term_of params v high) n)
            (twice u w (term_of params u a) (wider u t u w (is_unknown_at (term_of params u a)) (omega arith) up_to_t (term_between u a)))
            (either u w (is_unknown_at (term_of params t low)) (is_unknown_at (term_of params v high))
            (wider t v u w (is_unknown_at (term_of params t low)) zeroth second (term_between t low))
            (wider v w u w (is_unknown_at (term_of params v high)) from_v (omega arith) (term_between v high))),
      )

  -- what a statement's columns have lies between its first unknown and the next statement's
  abbrev AreBetween : ℕ → Option Columns → Type 0
  AreBetween u None = Unit {0}
  AreBetween u (Some c) = (u ≤ c.next) × Between u c.next (columns_have c)

  statement_between : (u : ℕ) (st : StatementTree) → AreBetween u (columns_of params u st)
  statement_between u (s.Get x table key e) = key_between u key
  statement_between u (s.Need x table key) = key_between u key
  statement_between u (s.Count x table range) = range_between u range
  statement_between u (s.Sum x table range) = range_between u range
  statement_between u (s.Lacks table key) = key_between u key
  statement_between u (s.Put table key e) = key_between u key
  statement_between u (s.Insert table key e) = key_between u key
  statement_between u (s.Delete table key) = key_between u key
  statement_between u (s.Keep table key) = key_between u key
  statement_between u (s.Bind x e) = tt
  statement_between u (s.Reply e) = tt
  statement_between u s.Abort = tt

  behind_low : (u : ℕ) (c : Option Columns) → AreBetween u c → u ≤ next_unknown u c
  behind_low u None h = omega arith
  behind_low u (Some c) h = h.0

  -- ---- the accesses of a statement

  module _ (tables : List TableDecl) where
    -- an access of a statement is as sure as it, and its unknowns are the statement's
    pub record IsOwned (u w : ℕ) (sure : Bool) (a : Access) : Type 0 where
      pub same : a.sure ≡ sure
      pub between : Between u w (has_unknown a)

    owned_kinds : (u : ℕ) (sure : Bool) (number : ℕ) (st : StatementTree) (c : Columns) → Between u c.next (columns_have c) → (kinds : List Kind) (a : Access) →
        IsMember a (map (access_of tables sure number st c) kinds) → IsOwned u c.next sure a
    owned_kinds u sure number st c h [] a m = absurd m
    owned_kinds u sure number st c h (k ∷ kinds) a (inl e) = subst (IsOwned u c.next sure) e (record { same = refl; between = h })
    owned_kinds u sure number st c h (k ∷ kinds) a (inr m) = owned_kinds u sure number st c h kinds a m

    owned_to : (u : ℕ) (sure : Bool) (number : ℕ) (st : StatementTree) (c : Option Columns) → AreBetween u c → (a : Access) → IsMember a (accesses_to tables sure number st c) → IsOwned u (next_unknown u c) sure a
    owned_to u sure number st None h a m = absurd m
    owned_to u sure number st (Some c) h a m = owned_kinds u sure number st c h.1 (kinds_at tables st) a m

    -- ---- the accesses along a route

    abbrev behind : ℕ → Passed → ℕ
    behind u p = next_unknown u (columns_of params u p.statement)

    pub owned_here : (u : ℕ) (p : Passed) (a : Access) → IsMember a (accesses_of tables params u p.sure p.number p.statement) → IsOwned u (behind u p) p.sure a
    owned_here u p a m = owned_to u p.sure p.number p.statement (columns_of params u p.statement) (statement_between u p.statement) a m

    from_here : (u : ℕ) (ps : List Passed) (a : Access) → IsMember a (accesses_along tables params u ps) → (n : ℕ) → has_unknown a n ≡ true → u ≤ n
    from_here u [] a m n is = absurd m
    from_here u (p ∷ ps) a m n is = go (λ h. from_here (behind u p) ps a h n is) (member_either a (accesses_of tables params u p.sure p.number p.statement) (accesses_along tables params (behind u p) ps) m)
      where
        low : u ≤ behind u p
        low = behind_low u (columns_of params u p.statement) (statement_between u p.statement)

        go : (IsMember a (accesses_along tables params (behind u p) ps) → behind u p ≤ n) → IsMember a (accesses_of tables params u p.sure p.number p.statement) ⊎ IsMember a (accesses_along tables params (behind u p) ps) → u ≤ n
        go further (inl h) = ((owned_here u p a h).between n is).0
        go further (inr h) = let later = further h in omega (arith, low, later)

    own_along : (u : ℕ) (ps : List Passed) (a b : Access) → IsMember a (accesses_along tables params u ps) → IsMember b (accesses_along tables params u ps) → a.sure ≡ false → b.sure ≡ true → (n : ℕ) → has_unknown b n ≡ true → has_unknown a n ≡ false
    own_along u [] a b m k loose sure n is = absurd m
    own_along u (p ∷ ps) a b m k loose sure n is =
        go (λ x y. own_along (behind u p) ps a b x y loose sure n is) (member_either a here later m) (member_either b here later k)
      where
        here : List Access
        here = accesses_of tables params u p.sure p.number p.statement

        later : List Access
        later = accesses_along tables params (behind u p) ps

        go : (IsMember a later → IsMember b later → has_unknown a n ≡ false) → IsMember a here ⊎ IsMember a later → IsMember b here ⊎ IsMember b later → has_unknown a n ≡ false
        go further (inl x) (inl y) =
            let first = (owned_here u p a x).same in
            let second = (owned_here u p b y).same in
            absurd (cc (sym loose ∙ first ∙ sym second ∙ sure))
        go further (inl x) (inr y) = false_from_ne_true (has_unknown a n) (λ has. let low = from_here (behind u p) ps b y n is in let high = ((owned_here u p a x).between n has).1 in absurd (omega (arith, low, high)))
        go further (inr x) (inl y) = false_from_ne_true (has_unknown a n) (λ has. let low = from_here (behind u p) ps a x n has in let high = ((owned_here u p b y).between n is).1 in absurd (omega (arith, low, high)))
        go further (inr x) (inr y) = further x y

    own : (u : ℕ) (ps : List Passed) → AreOwn (accesses_along tables params u ps)
    own u ps a b m k =
        let all = accesses_along tables params u ps in
        own_along u ps a b (member_from_contains all a m) (member_from_contains all b k)

-- ---- the paths of a draft

abbrev HasOwnUnknowns : Path → Type 0
HasOwnUnknowns path = AreOwn path.accesses

routes_own : (tables : List TableDecl) (program : ℕ) (params : List Name) (rs : List Route) → AllByRecursion HasOwnUnknowns (map (path_of tables program params) rs)
routes_own tables program params [] = tt
routes_own tables program params (r ∷ rs) = (own params tables 0 r.passed, routes_own tables program params rs)

paths_own : (tables : List TableDecl) (program : ℕ) (programs : List ProgramTree) → AllByRecursion HasOwnUnknowns (paths_from tables program programs)
paths_own tables program [] = tt
paths_own tables program (p ∷ ps) =
    all-append HasOwnUnknowns (program_paths tables program p) (paths_from tables (program + 1) ps)
    (routes_own tables program p.params (routes 0 p.body)) (paths_own tables (program + 1) ps)

pub law_of_own_unknowns : LawOfOwnUnknowns
law_of_own_unknowns draft = All-from_recursion HasOwnUnknowns (paths_of draft) (paths_own draft.tables 0 draft.programs)

-- ---- covers

-- a term that has no unknown of an access is the same at each of its times
same_term : (a : Access) (values : ℕ → ℤ) (v : Assignment) (t : Term) → ((n : ℕ) → is_unknown_at t n ≡ true → has_unknown a n ≡ false) → number_under (with_own a values v) t ≡ number_under v t
same_term a values v (Param i) h = refl
same_term a values v (Literal k) h = refl
same_term a values v (Unknown i) h = let itself : is_unknown_at (Unknown i) i ≡ true = search (tests, arith) in ap (λ b. if b then values i else v.unknown i) (h i itself)

same_second : (a : Access) (values : ℕ → ℤ) (v : Assignment) (c : Option Column) → ((n : ℕ) → second_has c n ≡ true → has_unknown a n ≡ false) → second_under (with_own a values v) c ≡ second_under v c
same_second a values v None h = refl
same_second a values v (Some c) h = same_term a values v c.low (λ n is. h n (or_left (is_unknown_at c.low n) (is_unknown_at c.high n) is))

same_cell : (a b : Access) (values : ℕ → ℤ) (v : Assignment) → ((n : ℕ) → has_unknown b n ≡ true → has_unknown a n ≡ false) → cell_under (with_own a values v) b ≡ cell_under v b
same_cell a b values v h =
    let first = same_term a values v b.first.low (λ n is. h n (or_left (column_has b.first n) (second_has b.second n) (or_left (is_unknown_at b.first.low n) (is_unknown_at b.first.high n) is))) in
    let second = same_second a values v b.second (λ n is. h n (or_right (column_has b.first n) (second_has b.second n) is)) in
    λ i. record { table = b.table; first = first i; second = second i }

pub law_of_covers : LawOfCovers
law_of_covers accesses are a b m k covers v w time = go a.sure refl time
  where
    go : (sure : Bool) → a.sure ≡ sure → IsTimeOf sure a v w → cell_under w b ≡ cell_under v b
    go true is same = ap (λ (x : Assignment). cell_under x b) same
    go false is t = ap (λ (x : Assignment). cell_under x b) t.2 ∙ same_cell a b t.0 v (are a b m k is covers.0)

pub law_of_times : LawOfTimes
law_of_times a v w of_i64 time = go a.sure time
  where
    chosen : (b : Bool) (x y : ℤ) → IsI64 x → IsI64 y → IsI64 (if b then x else y)
    chosen true x y p q = p
    chosen false x y p q = q

    go : (sure : Bool) → IsTimeOf sure a v w → IsOfI64 w
    go true same = subst IsOfI64 (sym same) of_i64
    go false t = subst IsOfI64 (sym t.2) (record { parameter = of_i64.parameter; unknown = λ n. chosen (has_unknown a n) (t.0 n) (v.unknown n) (t.1 n) (of_i64.unknown n) })

-- ---- values

module _ (a : Access) (v : Assignment) (values : ℕ → ℤ) where
  -- the assignment with these values of all unknowns
  abbrev all_with : Assignment
  all_with = record { parameter = v.parameter; unknown = values }

  own_term : (t : Term) → ((n : ℕ) → is_unknown_at t n ≡ true → has_unknown a n ≡ true) → number_under all_with t ≡ number_under (with_own a values v) t
  own_term (Param i) h = refl
  own_term (Literal k) h = refl
  own_term (Unknown i) h = let itself : is_unknown_at (Unknown i) i ≡ true = search (tests, arith) in sym (ap (λ b. if b then values i else v.unknown i) (h i itself))

  own_within : (c : Column) (z : ℤ) → ((n : ℕ) → column_has c n ≡ true → has_unknown a n ≡ true) → IsWithin all_with c z → IsWithin (with_own a values v) c z
  own_within c z h w =
      let low = own_term c.low (λ n is. h n (or_left (is_unknown_at c.low n) (is_unknown_at c.high n) is)) in
      let high = own_term c.high (λ n is. h n (or_right (is_unknown_at c.low n) (is_unknown_at c.high n) is)) in
      (subst (λ (x : ℤ). x ≤ℤ z) low w.0, subst (λ (x : ℤ). z ≤ℤ x) high w.1)

  own_second : (c : Option Column) (z : ℤ) → ((n : ℕ) → second_has c n ≡ true → has_unknown a n ≡ true) → IsWithinSecond all_with c z → IsWithinSecond (with_own a values v) c z
  own_second None z h w = w
  own_second (Some c) z h w = own_within c z h w

pub law_of_values : LawOfValues
law_of_values a c v values h =
    record {
      table = h.table;
      first = own_within a v values a.first c.first (λ n is. or_left (column_has a.first n) (second_has a.second n) is) h.first;
      second = own_second a v values a.second c.second (λ n is. or_right (column_has a.first n) (second_has a.second n) is) h.second;
    }
