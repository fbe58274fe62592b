-- Trails along routes, statement by statement.
use Rattle.std.proofs.Common.{◌≡◌, ℕ, ◌+◌, ◌*◌, ◌≤◌, List, [], ◌∷◌, ◌++◌, Bool, true, false, not, ◌&&◌, ◌||◌, map, length, refl, ap, sym, subst, ◌∙◌, arith}
use Rattle.std.specs.Prelude.{Option, Some, if◌then◌else◌}
use Rattle.std.specs.List.{AllByRecursion}
use Rattle.std.specs.Option.{MatchOption}
use Rattle.std.proofs.lemmas.List.{append-nil, append_assoc, map-append, length-append}
use Rattle.prog_tree.specs.declared.table.TableDecl.{TableDecl}
use Rattle.prog_tree.specs.Syntax.{Name, ExprTree, TestTree, KeyTree, One, Two, RangeTree, OneRange, TwoRange, StatementTree, ListingTree, BlockTree, BlockEnd, Then, Branch, Each, StmtTree, Plain, Fork, Loop, block_from}
use Rattle.prog_tree.specs.Syntax as s
use Rattle.prog_check.specs.Accesses.{term_of, is_unknown, next_behind, key_columns, range_columns, columns_of, next_unknown, accesses_of}
use Rattle.prog_check.specs.Paths.{Passed, Route, no_steps, passing, body_passed, going_round, choosing, joined, followed_by, routes, statement_count, accesses_along}
use Rattle.prog_check.specs.Uses.{is_abort, as_count}
use Rattle.prog_tree.specs.declared.expr.Test.{Test}
use Rattle.prog_tree.specs.declared.stmt.Block.{Block}
use Rattle.prog_tree.specs.declared.stmt.Stmt.{Stmt}
use Rattle.prog_tree.specs.declared.stmt.Stmt as t
use Rattle.prog_tree.specs.Tree.{stmt_tree, block_tree}
use Rattle.prog_tree.proofs.TreeLemmas.{fork_tree}
use Rattle.prog_paths.specs.declared.path.trail.Trail.{Trail}
use Rattle.prog_paths.specs.Trails.{alone, commits, unknown_behind, trail_of, with_choice, along, all_along, IsLow, AreLow}

-- ---- statements and blocks

pub count_from : (x : StmtTree) (rest : BlockTree) → statement_count (block_from x rest) ≡ statement_count (alone x) + statement_count rest
count_from (Plain st) rest = omega arith
count_from (Fork t a b) rest = omega arith
count_from (Loop l body) rest = omega arith

pub lets_first : (x : StmtTree) (t : TestTree) (a b : BlockTree) (r : Bool) → x ≡ Fork t a b → r ≡ true → r ≡ commits a → r ≡ commits (alone x)
lets_first x t a b r is yes_ e = yes_ ∙ sym (ap (λ y. commits (alone y)) is ∙ ap (λ w. (w || commits b) && true) (sym e ∙ yes_))

pub lets_second : (x : StmtTree) (t : TestTree) (a b : BlockTree) (r q : Bool) → x ≡ Fork t a b → r ≡ false → r ≡ commits a → q ≡ commits b → q ≡ commits (alone x)
lets_second x t a b r q is no_ e h = go q ∙ sym (ap (λ y. commits (alone y)) is ∙ (λ i. ((sym e ∙ no_) i || sym h i) && true))
  where
    go : (w : Bool) → w ≡ ((false || w) && true)
    go true = refl
    go false = refl

-- ---- routes

joined_none : (f : Route) → joined f no_steps ≡ f
joined_none f = λ i. record { choices = append-nil f.choices i; passed = append-nil f.passed i }

followed_none : (fs : List Route) → followed_by fs (no_steps ∷ []) ≡ fs
followed_none [] = refl
followed_none (f ∷ fs) = λ i. joined_none f i ∷ followed_none fs i

map_map : {A B C : Type 0} (f : A → B) (g : B → C) (h : A → C) → ((x : A) → g (f x) ≡ h x) → (xs : List A) → map g (map f xs) ≡ map h xs
map_map f g h e [] = refl
map_map f g h e (x ∷ xs) = λ i. e x i ∷ map_map f g h e xs i

-- past an `each`, and then the rest
loop_joined : (n : ℕ) (l : ListingTree) (body : BlockTree) (r : Route) → passing n (as_count l) (going_round (n + 1) body r) ≡ joined (passing n (as_count l) (going_round (n + 1) body no_steps)) r
loop_joined n l body r = λ i. record { choices = r.choices; passed = record { number = n; sure = true; statement = as_count l } ∷ (sym (append-nil (body_passed (n + 1) body)) i ++ r.passed) }

-- the routes of a block, by its first statement
pub routes_from : (n : ℕ) (x : StmtTree) (rest : BlockTree) → routes n (block_from x rest) ≡ followed_by (routes n (alone x)) (routes (n + statement_count (alone x)) rest)
routes_from n (Plain st) rest = go (is_abort st)
  where
    go : (w : Bool) → (if w then [] else map (passing n st) (routes (n + 1) rest)) ≡ followed_by (if w then [] else map (passing n st) (no_steps ∷ [])) (routes (n + 1) rest)
    go true = refl
    go false = sym (append-nil (map (passing n st) (routes (n + 1) rest)))
routes_from n (Fork t a b) rest =
    let firsts = map (choosing true) (routes (n + 1) a) ++ map (choosing false) (routes (n + 1 + statement_count a) b) in
    let same : n + 1 + statement_count a + statement_count b ≡ n + (1 + statement_count a + statement_count b + 0) = omega arith in
    λ i. followed_by (sym (followed_none firsts) i) (routes (same i) rest)
routes_from n (Loop l body) rest =
    let own = passing n (as_count l) (going_round (n + 1) body no_steps) in
    let same : n + 1 + statement_count body ≡ n + (1 + statement_count body + 0) = omega arith in
    map_map (going_round (n + 1) body) (passing n (as_count l)) (joined own) (loop_joined n l body) (routes (n + 1 + statement_count body) rest)
    ∙ sym (append-nil (map (joined own) (routes (n + 1 + statement_count body) rest)))
    ∙ (λ i. map (joined own) (routes (same i) rest) ++ [])

-- a block without a committing path has no routes
followed_nothing : (fs : List Route) → followed_by fs [] ≡ []
followed_nothing [] = refl
followed_nothing (f ∷ fs) = followed_nothing fs

pub no_routes : (b : BlockTree) (n : ℕ) → commits b ≡ false → routes n b ≡ []
no_routes BlockEnd n e = absurd (cc)
no_routes (Then st rest) n e = go (is_abort st) e (no_routes rest (n + 1))
  where
    go : (w : Bool) → (not w && commits rest) ≡ false → (commits rest ≡ false → routes (n + 1) rest ≡ []) → (if w then [] else map (passing n st) (routes (n + 1) rest)) ≡ []
    go true h later = refl
    go false h later = ap (map (passing n st)) (later h)
no_routes (Branch t a b rest) n e =
    let second = n + 1 + statement_count a in
    let behind = second + statement_count b in
    go (commits a) (commits b) e (no_routes a (n + 1)) (no_routes b second) (no_routes rest behind)
  where
    ahead : List Route → List Route → List Route
    ahead f g = map (choosing true) f ++ map (choosing false) g

    go : (v w : Bool) → ((v || w) && commits rest) ≡ false → (v ≡ false → routes (n + 1) a ≡ []) → (w ≡ false → routes (n + 1 + statement_count a) b ≡ []) → (commits rest ≡ false → routes (n + 1 + statement_count a + statement_count b) rest ≡ []) →
        followed_by (map (choosing true) (routes (n + 1) a) ++ map (choosing false) (routes (n + 1 + statement_count a) b)) (routes (n + 1 + statement_count a + statement_count b) rest) ≡ []
    go false false h f g k = λ i. followed_by (map (choosing true) (f refl i) ++ map (choosing false) (g refl i)) (routes (n + 1 + statement_count a + statement_count b) rest)
    go true w h f g k = ap (followed_by (map (choosing true) (routes (n + 1) a) ++ map (choosing false) (routes (n + 1 + statement_count a) b))) (k h) ∙ followed_nothing (map (choosing true) (routes (n + 1) a) ++ map (choosing false) (routes (n + 1 + statement_count a) b))
    go false true h f g k = ap (followed_by (map (choosing true) (routes (n + 1) a) ++ map (choosing false) (routes (n + 1 + statement_count a) b))) (k h) ∙ followed_nothing (map (choosing true) (routes (n + 1) a) ++ map (choosing false) (routes (n + 1 + statement_count a) b))
no_routes (Each l body rest) n e = ap (λ rs. map (passing n (as_count l)) (map (going_round (n + 1) body) rs)) (no_routes rest (n + 1 + statement_count body) e)

-- ---- trails

module _ (tables : List TableDecl) (params : List Name) where
  pub unknown_append : (u : ℕ) (p q : List Passed) → unknown_behind params u (p ++ q) ≡ unknown_behind params (unknown_behind params u p) q
  unknown_append u [] q = refl
  unknown_append u (x ∷ p) q = unknown_append (next_unknown u (columns_of params u x.statement)) p q

  pub accesses_append : (u : ℕ) (p q : List Passed) → accesses_along tables params u (p ++ q) ≡ accesses_along tables params u p ++ accesses_along tables params (unknown_behind params u p) q
  accesses_append u [] q = refl
  accesses_append u (x ∷ p) q =
      let next = next_unknown u (columns_of params u x.statement) in
      let own = accesses_of tables params u x.sure x.number x.statement in
      ap (λ l. own ++ l) (accesses_append next p q)
      ∙ sym (append_assoc own (accesses_along tables params next p) (accesses_along tables params (unknown_behind params next p) q))

  pub along_none : (t : Trail) → along tables params t no_steps ≡ t
  along_none t = λ i. trail_of (append-nil t.choices i) (append-nil t.accesses i) t.unknown

  along_joined : (t : Trail) (f r : Route) → along tables params (along tables params t f) r ≡ along tables params t (joined f r)
  along_joined t f r =
      let behind = unknown_behind params t.unknown f.passed in
      λ i.
      trail_of (append_assoc t.choices f.choices r.choices i)
      ((append_assoc t.accesses (accesses_along tables params t.unknown f.passed) (accesses_along tables params behind r.passed) ∙ ap (λ l. t.accesses ++ l) (sym (accesses_append t.unknown f.passed r.passed))) i)
      (sym (unknown_append t.unknown f.passed r.passed) i)

  pub all_along_none : (ts : List Trail) → all_along tables params ts (no_steps ∷ []) ≡ ts
  all_along_none [] = refl
  all_along_none (t ∷ ts) = λ i. along_none t i ∷ all_along_none ts i

  pub all_append : (ts us : List Trail) (rs : List Route) → all_along tables params (ts ++ us) rs ≡ all_along tables params ts rs ++ all_along tables params us rs
  all_append [] us rs = refl
  all_append (t ∷ ts) us rs =
      ap (λ l. map (along tables params t) rs ++ l) (all_append ts us rs)
      ∙ sym (append_assoc (map (along tables params t) rs) (all_along tables params ts rs) (all_along tables params us rs))

  one_followed : (t : Trail) (fs rs : List Route) → all_along tables params (map (along tables params t) fs) rs ≡ map (along tables params t) (followed_by fs rs)
  one_followed t [] rs = refl
  one_followed t (f ∷ fs) rs =
      (λ i. sym (map_map (joined f) (along tables params t) (along tables params (along tables params t f)) (λ r. sym (along_joined t f r)) rs) i ++ one_followed t fs rs i)
      ∙ sym (map-append (along tables params t) (map (joined f) rs) (followed_by fs rs))

  all_followed : (ts : List Trail) (fs rs : List Route) → all_along tables params (all_along tables params ts fs) rs ≡ all_along tables params ts (followed_by fs rs)
  all_followed [] fs rs = refl
  all_followed (t ∷ ts) fs rs =
      all_append (map (along tables params t) fs) (all_along tables params ts fs) rs
      ∙ (λ i. one_followed t fs rs i ++ all_followed ts fs rs i)

  -- past one statement, and then the rest
  pub all_from : (ts : List Trail) (n : ℕ) (x : StmtTree) (rest : BlockTree) → all_along tables params (all_along tables params ts (routes n (alone x))) (routes (n + statement_count (alone x)) rest) ≡ all_along tables params ts (routes n (block_from x rest))
  all_from ts n x rest = all_followed ts (routes n (alone x)) (routes (n + statement_count (alone x)) rest) ∙ ap (all_along tables params ts) (sym (routes_from n x rest))

  pub all_one : (t : Trail) (rs : List Route) → all_along tables params (t ∷ []) rs ≡ map (along tables params t) rs
  all_one t rs = append-nil (map (along tables params t) rs)

  pub nothing_along : (ts : List Trail) → all_along tables params ts [] ≡ []
  nothing_along [] = refl
  nothing_along (t ∷ ts) = nothing_along ts

  -- ---- one statement

  -- one more trail past a statement
  pub more_past : (n : ℕ) (x : StmtTree) (before : List Trail) (t r : Trail) (out : List Trail) → r ∷ [] ≡ map (along tables params t) (routes n (alone x)) → out ≡ all_along tables params before (routes n (alone x)) →
      out ++ r ∷ [] ≡ all_along tables params (before ++ t ∷ []) (routes n (alone x))
  more_past n x before t r out e h =
      (λ i. h i ++ (e ∙ sym (all_one t (routes n (alone x)))) i)
      ∙ sym (all_append before (t ∷ []) (routes n (alone x)))

  choosing_is : (w : Bool) (t : Trail) (r : Route) → along tables params (with_choice w t) r ≡ along tables params t (choosing w r)
  choosing_is w t r = λ i. trail_of (append_assoc t.choices (w ∷ []) r.choices i) (t.accesses ++ accesses_along tables params t.unknown r.passed) (unknown_behind params t.unknown r.passed)

  side_of : (w : Bool) (t : Trail) (rs : List Route) → map (along tables params t) (map (choosing w) rs) ≡ map (along tables params (with_choice w t)) rs
  side_of w t rs = map_map (choosing w) (along tables params t) (along tables params (with_choice w t)) (λ r. sym (choosing_is w t r)) rs

  -- one trail through a branch
  pub through_branch : (n : ℕ) (x : StmtTree) (test : TestTree) (a b : BlockTree) (t : Trail) → x ≡ Fork test a b →
      map (along tables params (with_choice true t)) (routes (n + 1) a) ++ map (along tables params (with_choice false t)) (routes (n + 1 + statement_count a) b) ≡ map (along tables params t) (routes n (alone x))
  through_branch n x test a b t is =
      let first = routes (n + 1) a in
      let second = routes (n + 1 + statement_count a) b in
      (λ i. sym (side_of true t first) i ++ sym (side_of false t second) i)
      ∙ sym (map-append (along tables params t) (map (choosing true) first) (map (choosing false) second))
      ∙ ap (map (along tables params t)) (sym (followed_none (map (choosing true) first ++ map (choosing false) second)))
      ∙ ap (λ y. map (along tables params t) (routes n (alone y))) (sym is)

  -- and one more trail
  pub more_trails : (n : ℕ) (x : StmtTree) (test : TestTree) (a b : BlockTree) (before : List Trail) (t : Trail) (out : List Trail) → x ≡ Fork test a b → out ≡ all_along tables params before (routes n (alone x)) →
      (out ++ map (along tables params (with_choice true t)) (routes (n + 1) a)) ++ map (along tables params (with_choice false t)) (routes (n + 1 + statement_count a) b) ≡ all_along tables params (before ++ t ∷ []) (routes n (alone x))
  more_trails n x test a b before t out is h =
      append_assoc out (map (along tables params (with_choice true t)) (routes (n + 1) a)) (map (along tables params (with_choice false t)) (routes (n + 1 + statement_count a) b))
      ∙ (λ i. h i ++ (through_branch n x test a b t is ∙ sym (all_one t (routes n (alone x)))) i)
      ∙ sym (all_append before (t ∷ []) (routes n (alone x)))

  -- ---- unknowns

  pub next_low : (u : ℕ) (e : ExprTree) → next_behind params u e ≤ u + 1
  next_low u e = go (is_unknown (term_of params u e))
    where
      go : (w : Bool) → (if w then u + 1 else u) ≤ u + 1
      go true = omega arith
      go false = omega arith

  key_low : (u : ℕ) (key : KeyTree) → (key_columns params u key).next ≤ u + 3
  key_low u (One a) = let h = next_low u a in omega (arith, h)
  key_low u (Two a b) = let h = next_low u a in let k = next_low (next_behind params u a) b in omega (arith, h, k)

  range_low : (u : ℕ) (range : RangeTree) → (range_columns params u range).next ≤ u + 3
  range_low u (OneRange low high) = let h = next_low u low in let k = next_low (next_behind params u low) high in omega (arith, h, k)
  range_low u (TwoRange a low high) =
      let h = next_low u a in
      let k = next_low (next_behind params u a) low in
      let l = next_low (next_behind params (next_behind params u a) low) high in
      omega (arith, h, k, l)

  pub statement_low : (u : ℕ) (st : StatementTree) → next_unknown u (columns_of params u st) ≤ u + 3
  statement_low u (s.Get x table key e) = key_low u key
  statement_low u (s.Need x table key) = key_low u key
  statement_low u (s.Count x table range) = range_low u range
  statement_low u (s.Sum x table range) = range_low u range
  statement_low u (s.Lacks table key) = key_low u key
  statement_low u (s.Put table key e) = key_low u key
  statement_low u (s.Insert table key e) = key_low u key
  statement_low u (s.Delete table key) = key_low u key
  statement_low u (s.Keep table key) = key_low u key
  statement_low u (s.Bind x e) = omega arith
  statement_low u (s.Reply e) = omega arith
  statement_low u s.Abort = omega arith

  pub behind_low : (u : ℕ) (ps : List Passed) → unknown_behind params u ps ≤ u + 3 * length ps
  behind_low u [] = omega arith
  behind_low u (p ∷ ps) =
      let h = statement_low u p.statement in
      let k = behind_low (next_unknown u (columns_of params u p.statement)) ps in
      omega (arith, h, k)

  low_along : (n k : ℕ) (t : Trail) (r : Route) → IsLow n t → length r.passed ≤ k → IsLow (n + k) (along tables params t r)
  low_along n k t r h short = let g = behind_low t.unknown r.passed in omega (arith, h, short, g)

-- routes that pass at most so many statements
abbrev pub AreShort : ℕ → List Route → Type 0
AreShort k rs = AllByRecursion (λ (r : Route). length r.passed ≤ k) rs

short_append : (k : ℕ) (rs qs : List Route) → AreShort k rs → AreShort k qs → AreShort k (rs ++ qs)
short_append k [] qs h g = g
short_append k (r ∷ rs) qs h g = (h.0, short_append k rs qs h.1 g)

short_map : (j k : ℕ) (f : Route → Route) → ((r : Route) → length r.passed ≤ j → length (f r).passed ≤ k) → (rs : List Route) → AreShort j rs → AreShort k (map f rs)
short_map j k f e [] h = tt
short_map j k f e (r ∷ rs) h = (e r h.0, short_map j k f e rs h.1)

short_followed : (j k : ℕ) (fs rs : List Route) → AreShort j fs → AreShort k rs → AreShort (j + k) (followed_by fs rs)
short_followed j k [] rs h g = tt
short_followed j k (f ∷ fs) rs h g =
    short_append (j + k) (map (joined f) rs) (followed_by fs rs)
    (short_map k (j + k) (joined f) (λ r short. let e = length-append f.passed r.passed in let own = h.0 in omega (arith, e, own, short)) rs g)
    (short_followed j k fs rs h.1 g)

-- a body passes at most its statements
pub body_short : (n : ℕ) (b : BlockTree) → length (body_passed n b) ≤ statement_count b
body_short n BlockEnd = omega arith
body_short n (Then st rest) = let h = body_short (n + 1) rest in omega (arith, h)
body_short n (Branch t a b rest) =
    let first = body_passed (n + 1) a in
    let second = body_passed (n + 1 + statement_count a) b in
    let later = body_passed (n + 1 + statement_count a + statement_count b) rest in
    let whole = length-append (first ++ second) later in
    let part = length-append first second in
    let h = body_short (n + 1) a in
    let k = body_short (n + 1 + statement_count a) b in
    let l = body_short (n + 1 + statement_count a + statement_count b) rest in
    omega (arith, whole, part, h, k, l)
body_short n (Each l body rest) =
    let whole = length-append (body_passed (n + 1) body) (body_passed (n + 1 + statement_count body) rest) in
    let h = body_short (n + 1) body in
    let k = body_short (n + 1 + statement_count body) rest in
    omega (arith, whole, h, k)

pub short_routes : (n : ℕ) (b : BlockTree) → AreShort (statement_count b) (routes n b)
short_routes n BlockEnd = (omega arith, tt)
short_routes n (Then st rest) = go (is_abort st) (short_routes (n + 1) rest)
  where
    go : (w : Bool) → AreShort (statement_count rest) (routes (n + 1) rest) → AreShort (1 + statement_count rest) (if w then [] else map (passing n st) (routes (n + 1) rest))
    go true h = tt
    go false h = short_map (statement_count rest) (1 + statement_count rest) (passing n st) (λ r short. omega (arith, short)) (routes (n + 1) rest) h
short_routes n (Branch t a b rest) =
    let ca = statement_count a in
    let cb = statement_count b in
    let cr = statement_count rest in
    let first = short_map ca (1 + ca + cb) (choosing true) (λ r short. omega (arith, short)) (routes (n + 1) a) (short_routes (n + 1) a) in
    let second = short_map cb (1 + ca + cb) (choosing false) (λ r short. omega (arith, short)) (routes (n + 1 + ca) b) (short_routes (n + 1 + ca) b) in
    short_followed (1 + ca + cb) cr (map (choosing true) (routes (n + 1) a) ++ map (choosing false) (routes (n + 1 + ca) b)) (routes (n + 1 + ca + cb) rest)
    (short_append (1 + ca + cb) (map (choosing true) (routes (n + 1) a)) (map (choosing false) (routes (n + 1 + ca) b)) first second)
    (short_routes (n + 1 + ca + cb) rest)
short_routes n (Each l body rest) =
    let cb = statement_count body in
    let cr = statement_count rest in
    let own = body_short (n + 1) body in
    short_map (cb + cr) (1 + cb + cr) (passing n (as_count l)) (λ r short. omega (arith, short)) (map (going_round (n + 1) body) (routes (n + 1 + cb) rest))
    (short_map cr (cb + cr) (going_round (n + 1) body) (λ r short. let e = length-append (body_passed (n + 1) body) r.passed in omega (arith, e, own, short)) (routes (n + 1 + cb) rest) (short_routes (n + 1 + cb) rest))

module _ (tables : List TableDecl) (params : List Name) where
  low_append : (n : ℕ) (ts us : List Trail) → AreLow n ts → AreLow n us → AreLow n (ts ++ us)
  low_append n [] us h g = g
  low_append n (t ∷ ts) us h g = (h.0, low_append n ts us h.1 g)

  low_map : (n k : ℕ) (t : Trail) (rs : List Route) → IsLow n t → AreShort k rs → AreLow (n + k) (map (along tables params t) rs)
  low_map n k t [] h g = tt
  low_map n k t (r ∷ rs) h g = (low_along tables params n k t r h g.0, low_map n k t rs h g.1)

  low_all : (n k : ℕ) (ts : List Trail) (rs : List Route) → AreLow n ts → AreShort k rs → AreLow (n + k) (all_along tables params ts rs)
  low_all n k [] rs h g = tt
  low_all n k (t ∷ ts) rs h g = low_append (n + k) (map (along tables params t) rs) (all_along tables params ts rs) (low_map n k t rs h.0 g) (low_all n k ts rs h.1 g)

  -- trails stay low past a statement
  pub low_from : (n : ℕ) (x : StmtTree) (ts : List Trail) → AreLow n ts → AreLow (n + statement_count (alone x)) (all_along tables params ts (routes n (alone x)))
  low_from n x ts h = low_all n (statement_count (alone x)) ts (routes n (alone x)) h (short_routes n (alone x))

-- ---- branches of the code

pub fork_counts : (stmt : Stmt) (x : Test) (a b : Block) → stmt ≡ t.Branch x a b → statement_count (alone (stmt_tree stmt)) ≡ 1 + statement_count (block_tree a) + statement_count (block_tree b)
fork_counts stmt x a b is = ap (λ y. statement_count (alone y)) (ap stmt_tree is ∙ fork_tree x a b) ∙ omega arith

-- the next of trails that are left
pub told : (r : Option Trail) (A : Type 0) (P : Trail → Type 0) (x : Trail) → r ≡ Some x → MatchOption r A P → P x
told r A P x is m = subst (λ o. MatchOption o A P) is m

pub low_front : (n : ℕ) (x : Trail) (later all : List Trail) → all ≡ x ∷ later → AreLow n all → IsLow n x
low_front n x later all is h = (subst (AreLow n) is h).0

pub low_back : (n : ℕ) (x : Trail) (later all : List Trail) → all ≡ x ∷ later → AreLow n all → AreLow n later
low_back n x later all is h = (subst (AreLow n) is h).1

pub low_first : (n : ℕ) (w : Bool) (t on : Trail) → on ≡ with_choice w t → IsLow n t → IsLow (n + 1) on
low_first n w t on is h = let e = ap (λ (u : Trail). u.unknown) is in omega (arith, h, e)

pub low_second : (n m : ℕ) (w : Bool) (t on : Trail) → on ≡ with_choice w t → IsLow n t → IsLow (n + 1 + m) on
low_second n m w t on is h = let e = ap (λ (u : Trail). u.unknown) is in omega (arith, h, e)
