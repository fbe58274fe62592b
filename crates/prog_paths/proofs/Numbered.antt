-- The terms of a program's paths are numbered low.
use Rattle.std.proofs.Common.{◌≡◌, ℕ, ◌+◌, ◌*◌, ◌<◌, ◌≤◌, Bool, List, [], ◌∷◌, length, map, refl, arith}
use Rattle.std.specs.Prelude.{Option, Some, None, IfSome, All}
use Rattle.std.proofs.lemmas.List.Elements.{All-nil, All-cons, All-append, All-map}
use Rattle.std.proofs.lemmas.List.Quantifiers.{position-Some}
use Rattle.prog_tree.specs.declared.table.TableDecl.{TableDecl}
use Rattle.prog_tree.specs.Syntax.{Name, ExprTree, KeyTree, One, Two, RangeTree, OneRange, TwoRange, StatementTree, ProgramTree}
use Rattle.prog_tree.specs.Syntax as s
use Rattle.prog_tree.specs.Value.{same_name}
use Rattle.prog_check.specs.Names.{place_among}
use Rattle.prog_check.specs.Accesses.{param_or, term_of, next_behind, Columns, key_columns, range_columns, columns_of, next_unknown, kinds_at, access_of, accesses_to, accesses_of}
use Rattle.prog_check.specs.Paths.{Passed, Route, routes, statement_count, accesses_along, path_of, program_paths}
use Rattle.prog_check.specs.Sound.{IsSoundProgram}
use Rattle.prog_paths.specs.Few.{IsTermBelow, IsColumnBelow, IsAccessBelow}
use Rattle.prog_paths.specs.Limits.{most_terms}
use Rattle.prog_paths.proofs.Walking.{next_low, statement_low, AreShort, short_routes}

abbrev AreColumnsBelow : ℕ → Columns → Type 0
AreColumnsBelow bound columns = IsColumnBelow bound columns.first × IfSome columns.second (IsColumnBelow bound)

module _ (tables : List TableDecl) (params : List Name) (bound : ℕ) (few : length params ≤ bound) where
  term_below : (u : ℕ) (e : ExprTree) → u < bound → IsTermBelow bound (term_of params u e)
  term_below u (s.Literal k) h = tt
  term_below u (s.Named x) h = go (place_among params x) refl
    where
      go : (place : Option ℕ) → place_among params x ≡ place → IsTermBelow bound (param_or place u)
      go None e = h
      go (Some i) e = let inside = (position-Some (same_name x) params i x e).0 in omega (arith, inside, few)
  term_below u (s.Plus a b) h = h
  term_below u (s.Minus a b) h = h
  term_below u (s.Times a b) h = h

  key_below : (u : ℕ) (key : KeyTree) → u + 3 ≤ bound → AreColumnsBelow bound (key_columns params u key)
  key_below u (One a) h = let first = term_below u a (omega (arith, h)) in ((first, first), tt)
  key_below u (Two a b) h =
      let low = next_low tables params u a in
      let first = term_below u a (omega (arith, h)) in
      let second = term_below (next_behind params u a) b (omega (arith, h, low)) in
      ((first, first), (second, second))

  range_below : (u : ℕ) (range : RangeTree) → u + 3 ≤ bound → AreColumnsBelow bound (range_columns params u range)
  range_below u (OneRange low high) h =
      let next = next_low tables params u low in
      ((term_below u low (omega (arith, h)), term_below (next_behind params u low) high (omega (arith, h, next))), tt)
  range_below u (TwoRange a low high) h =
      let first = term_below u a (omega (arith, h)) in
      let next = next_low tables params u a in
      let behind = next_low tables params (next_behind params u a) low in (
        (first, first),
        (
          term_below (next_behind params u a) low (omega (arith, h, next)),
          term_below (next_behind params (next_behind params u a) low) high (omega (arith, h, next, behind)),
        ),
      )

  statement_below : (u : ℕ) (st : StatementTree) → u + 3 ≤ bound → IfSome (columns_of params u st) (AreColumnsBelow bound)
  statement_below u (s.Get x table key e) h = key_below u key h
  statement_below u (s.Need x table key) h = key_below u key h
  statement_below u (s.Count x table range) h = range_below u range h
  statement_below u (s.Sum x table range) h = range_below u range h
  statement_below u (s.Lacks table key) h = key_below u key h
  statement_below u (s.Put table key e) h = key_below u key h
  statement_below u (s.Insert table key e) h = key_below u key h
  statement_below u (s.Delete table key) h = key_below u key h
  statement_below u (s.Keep table key) h = key_below u key h
  statement_below u (s.Bind x e) h = tt
  statement_below u (s.Reply e) h = tt
  statement_below u s.Abort h = tt

  accesses_below : (sure : Bool) (number : ℕ) (st : StatementTree) (columns : Option Columns) → IfSome columns (AreColumnsBelow bound) → All (IsAccessBelow bound) (accesses_to tables sure number st columns)
  accesses_below sure number st None h = All-nil (IsAccessBelow bound)
  accesses_below sure number st (Some columns) h = All-map (IsAccessBelow bound) (access_of tables sure number st columns) (kinds_at tables st) (λ n d inside. h)

  along_below : (u : ℕ) (ps : List Passed) → u + 3 * length ps ≤ bound → All (IsAccessBelow bound) (accesses_along tables params u ps)
  along_below u [] h = All-nil (IsAccessBelow bound)
  along_below u (p ∷ ps) h =
      let next = statement_low tables params u p.statement in
      let behind = next_unknown u (columns_of params u p.statement) in
      All-append (IsAccessBelow bound) (accesses_of tables params u p.sure p.number p.statement) (accesses_along tables params behind ps)
      (accesses_below p.sure p.number p.statement (columns_of params u p.statement) (statement_below u p.statement (omega (arith, h))))
      (along_below behind ps (omega (arith, h, next)))

  paths_below : (program k : ℕ) → 3 * k ≤ bound → (rs : List Route) → AreShort k rs → All (λ path. All (IsAccessBelow bound) path.accesses) (map (path_of tables program params) rs)
  paths_below program k within [] short = All-nil (λ path. All (IsAccessBelow bound) path.accesses)
  paths_below program k within (r ∷ rs) short =
      All-cons (λ path. All (IsAccessBelow bound) path.accesses) (path_of tables program params r) (map (path_of tables program params) rs)
      (along_below 0 r.passed (let own = short.0 in omega (arith, own, within)))
      (paths_below program k within rs short.1)

pub program_below : (tables : List TableDecl) (n : ℕ) (p : ProgramTree) → IsSoundProgram tables n p → All (λ path. All (IsAccessBelow most_terms) path.accesses) (program_paths tables n p)
program_below tables n p sound =
    let params = sound.few_params in
    let statements = sound.few_statements in
    paths_below tables p.params most_terms (omega (arith, params)) n (statement_count p.body) (omega (arith, statements)) (routes 0 p.body) (short_routes 0 p.body)
