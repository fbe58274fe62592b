-- What a statement of a run did, with the values that its unknowns took.
use Rattle.std.proofs.Common.{◌≡◌, ℕ, ◌+◌, true, List, ◌++◌, length, refl, ap, ◌∙◌, arith}
use Rattle.std.specs.Prelude.{ℤ, Option, Some, None, if◌then◌else◌}
use Rattle.prog_tree.specs.declared.cell.Region.{Region}
use Rattle.prog_tree.specs.declared.deed.Deed.TheVariants.{Listed}
use Rattle.prog_tree.specs.declared.look.Look.TheVariants as look
use Rattle.prog_tree.specs.declared.progress.Progress.{Progress}
use Rattle.prog_tree.specs.declared.table.TableDecl.{TableDecl}
use Rattle.prog_tree.specs.Syntax.{Name, ExprTree, KeyTree, One, Two, RangeTree, OneRange, TwoRange, ListingTree, StatementTree}
use Rattle.prog_tree.specs.Syntax as s
use Rattle.prog_tree.specs.Numbering.{number_of}
use Rattle.prog_tree.specs.Steps.{did, looked}
use Rattle.prog_tree.specs.Value.{Bindings}
use Rattle.prog_tree.specs.Table.{TableState}
use Rattle.prog_tree.specs.Evaluation.{Flow, GoesOn, Stops, and_then, with_value, region_of, own_cells, rows_left, rows_seen, run_statement}
use Rattle.prog_check.specs.Names.{place_among}
use Rattle.prog_check.specs.Accesses.{param_or, is_unknown, next_behind, key_columns, range_columns, columns_of, next_unknown, accesses_of}
use Rattle.prog_check.specs.Uses.{as_count}
use Rattle.prog_paths.proofs.Segments.{Segment}
use Rattle.prog_paths.proofs.Numbers.{AllI64, StatementFits}
use Rattle.prog_paths.proofs.Ranges.{Ranged}
use Rattle.prog_paths.proofs.Values.{Agrees, EnvFits, assigned, StatementSound, RemovesPlain}

-- ---- flows that go on

pub goes_same : (p q : Progress) → GoesOn p ≡ GoesOn q → p ≡ q
goes_same p q e = cc

pub then_goes : (f : Flow) (go : Progress → Flow) (q : Progress) → and_then f go ≡ GoesOn q → (r : Progress) × (f ≡ GoesOn r) × (go r ≡ GoesOn q)
then_goes (GoesOn r) go q e = (r, refl, e)
then_goes (Stops cause r) go q e = absurd (cc)

pub value_goes : {A : Type 0} (o : Option A) (p : Progress) (go : A → Flow) (q : Progress) → with_value o p go ≡ GoesOn q → (x : A) × (o ≡ Some x) × (go x ≡ GoesOn q)
value_goes (Some x) p go q e = (x, refl, e)
value_goes None p go q e = absurd (cc)

-- ---- listings

module _ (m : TableState) where
  -- the rows that a run sees in a region
  abbrev pub seen_in : Region → Progress → TableState
  seen_in region p = rows_seen region p.changes.cells (rows_left region (own_cells region p.changes.cells) m)

  -- behind the listing of a region
  abbrev pub listed : Region → Progress → Progress
  listed region p =
      did (Listed region (length (seen_in region p)))
      (looked (look.Range region (own_cells region p.changes.cells) (rows_left region (own_cells region p.changes.cells) m)) p)

-- ---- what a run of a statement did

module _ (tables : List TableDecl) (m : TableState) (params : List Name) (parameter : ℕ → ℤ) where
  -- What a run of a statement of a route from p to q did, with the values that its unknowns took.
  pub record Did (number : ℕ) (statement : StatementTree) (p q : Progress) : Type 0 where
    pub values : List ℤ
    pub count : (u : ℕ) → (next_unknown u (columns_of params u statement)) ≡ u + length values
    pub segment : (f : ℕ → ℤ) (u : ℕ) → Agrees f u values → Segment m (assigned params parameter f) (accesses_of tables params u true number statement) p q
    pub more : Bindings
    pub env : q.env ≡ p.env ++ more
    pub fits : EnvFits params parameter q.env
    pub removes : RemovesPlain tables q.changes
    pub of_i64 : StatementFits statement → Ranged m p → AllI64 values × Ranged m q

  abbrev pub StatementFollows : Type 0
  StatementFollows = (number : ℕ) (statement : StatementTree) (p q : Progress) → run_statement tables m statement p ≡ GoesOn q → StatementSound tables params statement → EnvFits params parameter p.env → RemovesPlain tables p.changes → Did number statement p q

  -- the listing of an `each`, which is like a `count`
  abbrev pub ListingFollows : Type 0
  ListingFollows =
      (number : ℕ) (l : ListingTree) (region : Region) (p : Progress) → region_of (number_of tables l.table) l.range p.env ≡ Some region → EnvFits params parameter p.env → RemovesPlain tables p.changes →
      Did number (as_count l) p (listed m region p)

-- ---- how many unknowns a statement has, wherever it stands

module _ (params : List Name) where
  term_counts : (e : ExprTree) → (k : ℕ) × ((u : ℕ) → next_behind params u e ≡ u + k)
  term_counts (s.Literal n) = (0, λ u. omega arith)
  term_counts (s.Named x) = go (place_among params x) refl
    where
      go : (o : Option ℕ) → place_among params x ≡ o → (k : ℕ) × ((u : ℕ) → next_behind params u (s.Named x) ≡ u + k)
      go (Some i) is = (0, λ u. ap (λ o. if is_unknown (param_or o u) then u + 1 else u) is ∙ omega arith)
      go None is = (1, λ u. ap (λ o. if is_unknown (param_or o u) then u + 1 else u) is)
  term_counts (s.Plus a b) = (1, λ u. refl)
  term_counts (s.Minus a b) = (1, λ u. refl)
  term_counts (s.Times a b) = (1, λ u. refl)

  key_counts : (key : KeyTree) → (k : ℕ) × ((u : ℕ) → (key_columns params u key).next ≡ u + k)
  key_counts (One a) = term_counts a
  key_counts (Two a b) =
      let x = term_counts a in
      let y = term_counts b in
      (x.0 + y.0, λ u. y.1 (next_behind params u a) ∙ (let h = x.1 u in omega (arith, h)))

  range_counts : (range : RangeTree) → (k : ℕ) × ((u : ℕ) → (range_columns params u range).next ≡ u + k)
  range_counts (OneRange low high) =
      let x = term_counts low in
      let y = term_counts high in
      (x.0 + y.0, λ u. y.1 (next_behind params u low) ∙ (let h = x.1 u in omega (arith, h)))
  range_counts (TwoRange a low high) =
      let x = term_counts a in
      let y = term_counts low in
      let z = term_counts high in (
        x.0 + y.0 + z.0,
        λ u. z.1 (next_behind params (next_behind params u a) low) ∙ (let h = x.1 u in let k = y.1 (next_behind params u a) in omega (arith, h, k)),
      )

  pub statement_counts : (st : StatementTree) → (k : ℕ) × ((u : ℕ) → next_unknown u (columns_of params u st) ≡ u + k)
  statement_counts (s.Get x table key e) = key_counts key
  statement_counts (s.Need x table key) = key_counts key
  statement_counts (s.Count x table range) = range_counts range
  statement_counts (s.Sum x table range) = range_counts range
  statement_counts (s.Lacks table key) = key_counts key
  statement_counts (s.Put table key e) = key_counts key
  statement_counts (s.Insert table key e) = key_counts key
  statement_counts (s.Delete table key) = key_counts key
  statement_counts (s.Keep table key) = key_counts key
  statement_counts (s.Bind x e) = (0, λ u. omega arith)
  statement_counts (s.Reply e) = (0, λ u. omega arith)
  statement_counts s.Abort = (0, λ u. omega arith)
