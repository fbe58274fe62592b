-- Numbers of i64: values of expressions, names and unknowns, changed rows and the turns of an `each`.
use Rattle.std.proofs.Common.{◌≡◌, ℕ, zero, suc, Bool, true, false, List, [], ◌∷◌, ◌++◌, refl, sym, subst, ◌∙◌}
use Rattle.std.proofs.lemmas.List.Elements.{All-filter, All-from_recursion, recursion_from_All}
use Rattle.std.specs.Prelude.{ℤ, pos, ◌+ℤ◌, ◌-ℤ◌, ◌*ℤ◌, Option, Some, None, IfSome, not, if◌then◌else◌}
use Rattle.std.specs.List.{AllByRecursion}
use Rattle.std.specs.Option.{option_or}
use Rattle.std.proofs.lemmas.Option.{same_Some}
use Rattle.prog_tree.specs.declared.cell.Cell.{Cell}
use Rattle.prog_tree.specs.declared.cell.Region.{Region}
use Rattle.prog_tree.specs.declared.progress.Progress.{Progress}
use Rattle.prog_tree.specs.Syntax.{Name, ExprTree, RangeTree}
use Rattle.prog_tree.specs.Syntax as s
use Rattle.prog_tree.specs.Value.{Bindings, same_name, exact, both, value_in, value_of}
use Rattle.prog_tree.specs.Table.{TableState, at_cell, is_same_cell, is_cell_among, is_in, rows_in, IsI64Cell, IsI64Row}
use Rattle.prog_tree.specs.ChangeSet.{ChangedCells, ChangeSet, changes_in, with_change}
use Rattle.prog_tree.specs.Evaluation.{Turn, turns_of, own_cells, rows_left, rows_seen}
use Rattle.prog_tree.proofs.EnvLemmas.{value_in_push}
use Rattle.prog_tree.specs.Number.{IsI64, is_i64}
use Rattle.prog_tree.proofs.NumberLaws.{i64_is_tested, IsEntry, written, HasI64Rows-changed}
use Rattle.prog_tree.proofs.NumberRuns.{IsI64Turn, turns-i64}
use Rattle.prog_paths.proofs.Numbers.{AllI64, RowsOfI64, LiteralFits}
use Rattle.prog_paths.proofs.Values.{nth}

pub nth_i64 : (xs : List ℤ) → AllI64 xs → (n : ℕ) → IsI64 (nth xs n)
nth_i64 [] h n = (i64_is_tested (pos 0)).0 refl
nth_i64 (x ∷ xs) h zero = h.0
nth_i64 (x ∷ xs) h (suc n) = nth_i64 xs h.1 n

-- the names, the rows and the changes of a run are numbers of i64
abbrev pub EnvOfI64 : Bindings → Type 0
EnvOfI64 env = (x : Name) (z : ℤ) → value_in env x ≡ Some z → IsI64 z

abbrev pub MayBeI64 : Option ℤ → Type 0
MayBeI64 o = IfSome o IsI64

abbrev pub ChangesOfI64 : ChangeSet → Type 0
ChangesOfI64 changes = AllByRecursion (IsEntry MayBeI64) changes.cells

pub record Ranged (m : TableState) (p : Progress) : Type 0 where
  pub rows : RowsOfI64 m
  pub env : EnvOfI64 p.env
  pub changes : ChangesOfI64 p.changes

pub exact_i64 : (w z : ℤ) → exact w ≡ Some z → IsI64 z
exact_i64 w z e = go (is_i64 w) refl e
  where
    go : (b : Bool) → is_i64 w ≡ b → (if b then Some w else None) ≡ Some z → IsI64 z
    go true is h = subst IsI64 (same_Some w z h) ((i64_is_tested w).0 is)
    go false is h = absurd (cc)

both_i64 : (f : ℤ → ℤ → ℤ) (a b : Option ℤ) (z : ℤ) → both f a b ≡ Some z → IsI64 z
both_i64 f (Some x) (Some y) z e = exact_i64 (f x y) z e
both_i64 f (Some x) None z e = absurd (cc)
both_i64 f None b z e = absurd (cc)

pub value_i64 : (e : ExprTree) (env : Bindings) (z : ℤ) → EnvOfI64 env → LiteralFits e → value_of e env ≡ Some z → IsI64 z
value_i64 (s.Literal n) env z fits h e = subst IsI64 (same_Some n z e) h
value_i64 (s.Named x) env z fits h e = fits x z e
value_i64 (s.Plus a b) env z fits h e = both_i64 ◌+ℤ◌ (value_of a env) (value_of b env) z e
value_i64 (s.Minus a b) env z fits h e = both_i64 ◌-ℤ◌ (value_of a env) (value_of b env) z e
value_i64 (s.Times a b) env z fits h e = both_i64 ◌*ℤ◌ (value_of a env) (value_of b env) z e

pub env_push : (env : Bindings) (y : Name) (v : ℤ) → EnvOfI64 env → IsI64 v → EnvOfI64 (env ++ (y, v) ∷ [])
env_push env y v fits h x z e = go (same_name y x) (sym (value_in_push env (y, v) x) ∙ e)
  where
    go : (b : Bool) → option_or (if b then Some v else None) (value_in env x) ≡ Some z → IsI64 z
    go true k = subst IsI64 (same_Some v z k) h
    go false k = fits x z k

pub changes_put : (changes : ChangeSet) (cell : Cell) (w : Option ℤ) → ChangesOfI64 changes → IsI64Cell cell → MayBeI64 w → ChangesOfI64 (with_change changes cell w)
changes_put changes cell w fits is value = written MayBeI64 cell w changes.cells is value fits

pub change_i64 : (cells : ChangedCells) (c : Cell) (z : ℤ) → AllByRecursion (IsEntry MayBeI64) cells → at_cell cells c ≡ Some (Some z) → IsI64 z
change_i64 [] c z h e = absurd (cc)
change_i64 (entry ∷ entries) c z h e = here (change_i64 entries c z h.1) (is_same_cell c entry.0) e
  where
    value : (o : Option ℤ) → Some o ≡ Some (Some z) → o ≡ Some z
    value o k = cc

    here : (at_cell entries c ≡ Some (Some z) → IsI64 z) → (b : Bool) → (if b then Some entry.1 else at_cell entries c) ≡ Some (Some z) → IsI64 z
    here later true is = subst MayBeI64 (value entry.1 is) h.0.1
    here later false is = later is

-- ---- the turns of an `each`

abbrev pub TurnsOfI64 : List Turn → Type 0
TurnsOfI64 turns = AllByRecursion IsI64Turn turns

-- the rows that a run sees in a region
seen_i64 : (m : TableState) (p : Progress) (g : Region) → Ranged m p → RowsOfI64 (rows_seen g p.changes.cells (rows_left g (own_cells g p.changes.cells) m))
seen_i64 m p g r =
    let own = own_cells g p.changes.cells in
    let left = rows_left g own m in
    let in_region = All-filter (λ (row : Cell × ℤ). is_in g row.0) IsI64Row m (All-from_recursion IsI64Row m r.rows) in
    let others = All-filter (λ (row : Cell × ℤ). not (is_cell_among own row.0)) IsI64Row (rows_in g m) in_region in
    let changes = All-filter (λ (entry : Cell × Option ℤ). is_in g entry.0) (IsEntry MayBeI64) p.changes.cells (All-from_recursion (IsEntry MayBeI64) p.changes.cells r.changes) in
    recursion_from_All IsI64Row (rows_seen g p.changes.cells left) (HasI64Rows-changed left (changes_in g p.changes.cells) changes others)

-- so the turns of an `each` are numbers of i64
pub listed_i64 : (m : TableState) (p : Progress) (g : Region) (range : RangeTree) → Ranged m p → TurnsOfI64 (turns_of range (rows_seen g p.changes.cells (rows_left g (own_cells g p.changes.cells) m)))
listed_i64 m p g range r = turns-i64 range (rows_seen g p.changes.cells (rows_left g (own_cells g p.changes.cells) m)) (seen_i64 m p g r)
