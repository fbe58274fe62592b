-- Sees, Lacks and Adds accesses are of grow tables, Writes accesses of plain ones.
use Rattle.std.proofs.Common.{◌≡◌, ℕ, ◌+◌, Bool, true, false, List, [], ◌∷◌, ◌++◌, ◌⊎◌, inl, inr, map, refl, subst, ap}
use Rattle.std.specs.Prelude.{if◌then◌else◌, slice_get, Option, Some, None}
use Rattle.prog_tree.specs.declared.table.TableDecl.{TableDecl}
use Rattle.prog_tree.specs.Syntax.{Name, StatementTree, BlockTree, BlockEnd, Then, Branch, Each}
use Rattle.prog_tree.specs.Syntax as s
use Rattle.prog_check.specs.declared.path.Kind.{Kind}
use Rattle.prog_check.specs.declared.path.Kind.TheVariants.{Reads, Sees, Lacks, Writes, Adds, Keeps}
use Rattle.prog_check.specs.declared.path.Access.{Access}
use Rattle.prog_check.specs.Tables.{declaration, grows}
use Rattle.prog_check.specs.Uses.{used_table, as_count}
use Rattle.prog_check.specs.Accesses.{Columns, columns_of, next_unknown, accesses_to, number_used, grows_used, kinds_at, access_of, accesses_of}
use Rattle.prog_check.specs.Sound.{AllStatements, OverwritesPlain}
use Rattle.prog_check.specs.Paths.{Passed, Route, statement_count, passing, body_passed, going_round, choosing, joined, followed_by, routes, accesses_along}
use Rattle.prog_tree.proofs.Elements.{IsMember, member_either}
use Rattle.prog_paths.proofs.Statements.{declaration_is}

-- a kind that fits a table which grows or doesn't
abbrev pub KindFits : Bool → Kind → Type 0
KindFits true Writes = ⊥
KindFits true kind = Unit {0}
KindFits false Sees = ⊥
KindFits false Lacks = ⊥
KindFits false Adds = ⊥
KindFits false kind = Unit {0}

abbrev AllKinds : Bool → List Kind → Type 0
AllKinds grow [] = Unit {0}
AllKinds grow (k ∷ ks) = KindFits grow k × AllKinds grow ks

by_writes : (grow : Bool) → grow ≡ false → AllKinds grow (Writes ∷ [])
by_writes true e = absurd (cc)
by_writes false e = (tt, tt)

by_keeps : (grow : Bool) → AllKinds grow (Keeps ∷ [])
by_keeps true = (tt, tt)
by_keeps false = (tt, tt)

by_reads : (grow : Bool) → AllKinds grow (Reads ∷ [])
by_reads true = (tt, tt)
by_reads false = (tt, tt)

by_need : (grow : Bool) → AllKinds grow ((if grow then Sees else Reads) ∷ [])
by_need true = (tt, tt)
by_need false = (tt, tt)

by_lacks : (grow : Bool) → AllKinds grow ((if grow then Lacks else Reads) ∷ [])
by_lacks true = (tt, tt)
by_lacks false = (tt, tt)

by_insert : (grow : Bool) → AllKinds grow (if grow then Adds ∷ [] else Reads ∷ Writes ∷ [])
by_insert true = (tt, tt)
by_insert false = (tt, (tt, tt))

module _ (tables : List TableDecl) where
  grow_of : Name → Bool
  grow_of x = grows (declaration tables x)

  kinds_fit : (st : StatementTree) → OverwritesPlain tables st → AllKinds (grows_used tables (used_table st)) (kinds_at tables st)
  kinds_fit (s.Bind name value) h = tt
  kinds_fit (s.Get name table key otherwise) h = by_reads (grows (declaration tables table))
  kinds_fit (s.Need name table key) h = by_need (grows (declaration tables table))
  kinds_fit (s.Count name table range) h = by_reads (grows (declaration tables table))
  kinds_fit (s.Sum name table range) h = by_reads (grows (declaration tables table))
  kinds_fit (s.Lacks table key) h = by_lacks (grows (declaration tables table))
  kinds_fit (s.Put table key value) h = by_writes (grows (declaration tables table)) (h refl)
  kinds_fit (s.Insert table key value) h = by_insert (grows (declaration tables table))
  kinds_fit (s.Delete table key) h = by_writes (grows (declaration tables table)) (h refl)
  kinds_fit (s.Keep table key) h = by_keeps (grows (declaration tables table))
  kinds_fit (s.Reply value) h = tt
  kinds_fit s.Abort h = tt

  -- the table of an access grows where its statement's table does
  growth_is : (st : StatementTree) → (x : Kind) → IsMember x (kinds_at tables st) → grows_used tables (used_table st) ≡ grows (slice_get tables (number_used tables (used_table st)))
  growth_is (s.Bind name value) x h = absurd h
  growth_is (s.Reply value) x h = absurd h
  growth_is s.Abort x h = absurd h
  growth_is (s.Get name table key otherwise) x h = ap grows (declaration_is tables table)
  growth_is (s.Need name table key) x h = ap grows (declaration_is tables table)
  growth_is (s.Count name table range) x h = ap grows (declaration_is tables table)
  growth_is (s.Sum name table range) x h = ap grows (declaration_is tables table)
  growth_is (s.Lacks table key) x h = ap grows (declaration_is tables table)
  growth_is (s.Put table key value) x h = ap grows (declaration_is tables table)
  growth_is (s.Insert table key value) x h = ap grows (declaration_is tables table)
  growth_is (s.Delete table key) x h = ap grows (declaration_is tables table)
  growth_is (s.Keep table key) x h = ap grows (declaration_is tables table)

  abbrev pub AccessFits : Access → Type 0
  AccessFits a = KindFits (grows (slice_get tables a.table)) a.kind

  of_kinds : (sure : Bool) (number : ℕ) (st : StatementTree) (columns : Columns) (grow : Bool) (kinds : List Kind) → ((x : Kind) → IsMember x kinds → grow ≡ grows (slice_get tables (number_used tables (used_table st)))) → AllKinds grow kinds →
      (a : Access) → IsMember a (map (access_of tables sure number st columns) kinds) → AccessFits a
  of_kinds sure number st columns grow [] same h a member = absurd member
  of_kinds sure number st columns grow (k ∷ ks) same h a (inl e) =
      subst AccessFits e (subst (λ (g : Bool). KindFits g k) (same k (inl refl)) h.0)
  of_kinds sure number st columns grow (k ∷ ks) same h a (inr member) = of_kinds sure number st columns grow ks (λ x m. same x (inr m)) h.1 a member

  of_columns : (sure : Bool) (number : ℕ) (st : StatementTree) (columns : Option Columns) → OverwritesPlain tables st → (a : Access) → IsMember a (accesses_to tables sure number st columns) → AccessFits a
  of_columns sure number st None h a member = absurd member
  of_columns sure number st (Some columns) h a member = of_kinds sure number st columns (grows_used tables (used_table st)) (kinds_at tables st) (growth_is st) (kinds_fit st h) a member

  abbrev AllPlain : List Passed → Type 0
  AllPlain [] = Unit {0}
  AllPlain (x ∷ xs) = OverwritesPlain tables x.statement × AllPlain xs

  along_fits : (params : List Name) (u : ℕ) (passed : List Passed) → AllPlain passed → (a : Access) → IsMember a (accesses_along tables params u passed) → AccessFits a
  along_fits params u [] h a member = absurd member
  along_fits params u (x ∷ xs) h a member = go (member_either a (accesses_of tables params u x.sure x.number x.statement) (accesses_along tables params (next_unknown u (columns_of params u x.statement)) xs) member) (along_fits params (next_unknown u (columns_of params u x.statement)) xs h.1 a)
    where
      go : IsMember a (accesses_of tables params u x.sure x.number x.statement) ⊎ IsMember a (accesses_along tables params (next_unknown u (columns_of params u x.statement)) xs) → (IsMember a (accesses_along tables params (next_unknown u (columns_of params u x.statement)) xs) → AccessFits a) → AccessFits a
      go (inl k) later = of_columns x.sure x.number x.statement (columns_of params u x.statement) h.0 a k
      go (inr k) later = later k

  plain_append : (xs ys : List Passed) → AllPlain xs → AllPlain ys → AllPlain (xs ++ ys)
  plain_append [] ys h k = k
  plain_append (x ∷ xs) ys h k = (h.0, plain_append xs ys h.1 k)

  -- what a body passes
  body_plain : (number : ℕ) (block : BlockTree) → AllStatements (OverwritesPlain tables) block → AllPlain (body_passed number block)
  body_plain number BlockEnd h = tt
  body_plain number (Then st rest) h = (h.0, body_plain (number + 1) rest h.1)
  body_plain number (Branch test a b rest) h =
      let first = body_passed (number + 1) a in
      let second = body_passed (number + 1 + statement_count a) b in
      let later = body_passed (number + 1 + statement_count a + statement_count b) rest in
      plain_append (first ++ second) later
      (plain_append first second (body_plain (number + 1) a h.0) (body_plain (number + 1 + statement_count a) b h.1))
      (body_plain (number + 1 + statement_count a + statement_count b) rest h.2)
  body_plain number (Each l body rest) h = (
    h.0,
    plain_append (body_passed (number + 1) body) (body_passed (number + 1 + statement_count body) rest) (body_plain (number + 1) body h.1) (body_plain (number + 1 + statement_count body) rest h.2),
  )

  -- ---- routes

  abbrev RoutesPlain : List Route → Type 0
  RoutesPlain [] = Unit {0}
  RoutesPlain (r ∷ rs) = AllPlain r.passed × RoutesPlain rs

  routes_append : (xs ys : List Route) → RoutesPlain xs → RoutesPlain ys → RoutesPlain (xs ++ ys)
  routes_append [] ys h k = k
  routes_append (x ∷ xs) ys h k = (h.0, routes_append xs ys h.1 k)

  routes_map : (f : Route → Route) (rs : List Route) → ((r : Route) → AllPlain r.passed → AllPlain (f r).passed) → RoutesPlain rs → RoutesPlain (map f rs)
  routes_map f [] keep h = tt
  routes_map f (r ∷ rs) keep h = (keep r h.0, routes_map f rs keep h.1)

  routes_followed : (xs ys : List Route) → RoutesPlain xs → RoutesPlain ys → RoutesPlain (followed_by xs ys)
  routes_followed [] ys h k = tt
  routes_followed (x ∷ xs) ys h k = routes_append (map (joined x) ys) (followed_by xs ys) (routes_map (joined x) ys (λ r p. plain_append x.passed r.passed h.0 p) k) (routes_followed xs ys h.1 k)

  routes_then : (number : ℕ) (st : StatementTree) (rest : BlockTree) → OverwritesPlain tables st → RoutesPlain (routes (number + 1) rest) → RoutesPlain (routes number (Then st rest))
  routes_then number s.Abort rest h k = tt
  routes_then number st rest h k = routes_map (passing number st) (routes (number + 1) rest) (λ r p. (h, p)) k

  routes_plain : (number : ℕ) (block : BlockTree) → AllStatements (OverwritesPlain tables) block → RoutesPlain (routes number block)
  routes_plain number BlockEnd h = (tt, tt)
  routes_plain number (Then st rest) h = routes_then number st rest h.0 (routes_plain (number + 1) rest h.1)
  routes_plain number (Branch test a b rest) h =
      let first = routes (number + 1) a in
      let second = routes (number + 1 + statement_count a) b in
      routes_followed (map (choosing true) first ++ map (choosing false) second) (routes (number + 1 + statement_count a + statement_count b) rest)
      (routes_append (map (choosing true) first) (map (choosing false) second)
      (routes_map (choosing true) first (λ r p. p) (routes_plain (number + 1) a h.0))
      (routes_map (choosing false) second (λ r p. p) (routes_plain (number + 1 + statement_count a) b h.1)))
      (routes_plain (number + 1 + statement_count a + statement_count b) rest h.2)
  routes_plain number (Each l body rest) h =
      let own = body_passed (number + 1) body in
      let later = routes (number + 1 + statement_count body) rest in
      routes_map (passing number (as_count l)) (map (going_round (number + 1) body) later) (λ r p. (h.0, p))
      (routes_map (going_round (number + 1) body) later (λ r p. plain_append own r.passed (body_plain (number + 1) body h.1) p) (routes_plain (number + 1 + statement_count body) rest h.2))

  -- each access on a route of a sound block fits its table
  pub route_fits : (params : List Name) (block : BlockTree) → AllStatements (OverwritesPlain tables) block → (route : Route) → IsMember route (routes 0 block) → (a : Access) → IsMember a (accesses_along tables params 0 route.passed) → AccessFits a
  route_fits params block h route member a k = along_fits params 0 route.passed (of_member (routes 0 block) (routes_plain 0 block h) member) a k
    where
      of_member : (rs : List Route) → RoutesPlain rs → IsMember route rs → AllPlain route.passed
      of_member [] p m = absurd m
      of_member (r ∷ rs) p (inl e) = subst (λ (z : Route). AllPlain z.passed) e p.0
      of_member (r ∷ rs) p (inr m) = of_member rs p.1 m
