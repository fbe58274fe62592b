-- What the columns of keys and ranges are under an assignment that has the values of their unknowns.
use lib.Signed.{≤ℤ_refl}
use Rattle.std.proofs.Common.{◌≡◌, ℕ, ◌+◌, Bool, true, T, ◌&&◌, List, [], ◌∷◌, ◌++◌, length, refl, sym, subst, ap, ◌∙◌, arith, tests}
use Rattle.std.proofs.lemmas.Int.{ints}
use Rattle.std.specs.Prelude.{ℤ, pos, Option, Some, None, if◌then◌else◌, int_le, ◌≤ℤ◌, ◌==◌}
use Rattle.std.proofs.lemmas.List.{length-append}
use Rattle.std.proofs.lemmas.Bool.{and_parts}
use Rattle.prog_tree.specs.declared.cell.Cell.{Cell}
use Rattle.prog_tree.specs.declared.cell.Region.{Region}
use Rattle.prog_tree.specs.Syntax.{Name, ExprTree, KeyTree, One, Two, RangeTree, OneRange, TwoRange}
use Rattle.prog_tree.specs.Syntax as s
use Rattle.prog_tree.specs.Value.{Bindings, value_of, pair_of}
use Rattle.prog_tree.specs.Table.{is_in, lies_between}
use Rattle.prog_tree.specs.Evaluation.{cell_in, cell_of, region_between, region_at, region_of}
use Rattle.prog_check.specs.declared.path.Term.{Term}
use Rattle.prog_check.specs.Names.{place_among}
use Rattle.prog_check.specs.Accesses.{Columns, single, param_or, is_unknown, term_of, next_behind, key_columns, range_columns}
use Rattle.prog_paths.specs.Meeting.{Assignment, number_under, second_under, IsWithin, IsWithinSecond}
use Rattle.prog_tree.specs.Number.{IsI64}
use Rattle.prog_tree.specs.Table.{IsI64Cell}
use Rattle.prog_tree.proofs.NumberLaws.{i64_is_tested}
use Rattle.prog_paths.proofs.Numbers.{AllI64, KeyLiteralsFit}
use Rattle.prog_paths.proofs.SingleCells.{all-append}
use Rattle.prog_paths.proofs.Ranges.{EnvOfI64, value_i64}
use Rattle.prog_paths.proofs.Values.{Agrees, agrees_first, agrees_behind, EnvFits, assigned}

-- both parts of a pair are there
pub pair_goes : {A B C : Type 0} (f : A → B → C) (o : Option A) (k : Option B) (c : C) → pair_of f o k ≡ Some c → (a : A) × (b : B) × (o ≡ Some a) × (k ≡ Some b) × (f a b ≡ c)
pair_goes f (Some a) (Some b) c e = (a, b, refl, refl, cc)
pair_goes f (Some a) None c e = absurd (cc)
pair_goes f None k c e = absurd (cc)

-- the cell of a key has columns of i64
pub cell_i64 : (number : ℕ) (key : KeyTree) (env : Bindings) (cell : Cell) → EnvOfI64 env → KeyLiteralsFit key → cell_of number key env ≡ Some cell → IsI64Cell cell
cell_i64 number (One a) env cell ranged fits e =
    let c = pair_goes (cell_in number) (value_of a env) (Some (pos 0)) cell e in
    subst IsI64Cell c.4 (value_i64 a env c.0 ranged fits c.2, subst IsI64 (zero_is c.1 c.3) ((i64_is_tested (pos 0)).0 refl))
  where
    zero_is : (y : ℤ) → Some (pos 0) ≡ Some y → pos 0 ≡ y
    zero_is y e = cc
cell_i64 number (Two a b) env cell ranged fits e =
    let c = pair_goes (cell_in number) (value_of a env) (value_of b env) cell e in
    subst IsI64Cell c.4 (value_i64 a env c.0 ranged fits.0 c.2, value_i64 b env c.1 ranged fits.1 c.3)

within_single : (v : Assignment) (t : Term) (z : ℤ) → number_under v t ≡ z → IsWithin v (single t) z
within_single v t z e = (subst (λ k. k ≤ℤ z) (sym e) (≤ℤ_refl z), subst (λ k. z ≤ℤ k) (sym e) (≤ℤ_refl z))

le_true : (a b : ℤ) → int_le a b ≡ true → a ≤ℤ b
le_true a b e = record { le = subst (λ (t : Bool). T t) (sym e) tt }

-- a number between two ends is within a column whose ends are these
within_ends : (v : Assignment) (low high : Term) (l x h : ℤ) → number_under v low ≡ l → number_under v high ≡ h → lies_between l x h ≡ true → IsWithin v (record { low = low; high = high }) x
within_ends v low high l x h a b e =
    let k = and_parts (int_le l x) (int_le x h) e in
    (subst (λ n. n ≤ℤ x) (sym a) (le_true l x k.0), subst (λ n. x ≤ℤ n) (sym b) (le_true x h k.1))

same_number : (a b : ℕ) → (a == b) ≡ true → b ≡ a
same_number a b e = search (tests, arith)

-- a cell is of columns of a table
pub record CellIn (v : Assignment) (columns : Columns) (number : ℕ) (cell : Cell) : Type 0 where
  pub table : cell.table ≡ number
  pub first : IsWithin v columns.first cell.first
  pub second : IsWithinSecond v columns.second cell.second

-- and is the cell of their low ends
pub record CellAt (v : Assignment) (columns : Columns) (number : ℕ) (cell : Cell) : Type 0 where
  pub holds : CellIn v columns number cell
  pub low_first : number_under v columns.first.low ≡ cell.first
  pub low_second : second_under v columns.second ≡ cell.second

module _ (params : List Name) (parameter : ℕ → ℤ) where
  -- a term is its expression's value
  pub record TermFits (env : Bindings) (e : ExprTree) (z : ℤ) : Type 0 where
    pub values : List ℤ
    pub of_i64 : EnvOfI64 env → AllI64 values
    pub count : (u : ℕ) → next_behind params u e ≡ u + length values
    pub fits : (f : ℕ → ℤ) (u : ℕ) → Agrees f u values → number_under (assigned params parameter f) (term_of params u e) ≡ z

  -- an unknown
  unknown_fits : (env : Bindings) (e : ExprTree) (z : ℤ) → (EnvOfI64 env → IsI64 z) → ((u : ℕ) → next_behind params u e ≡ u + 1) → ((f : ℕ → ℤ) (u : ℕ) → number_under (assigned params parameter f) (term_of params u e) ≡ f u) → TermFits env e z
  unknown_fits env e z ranged next is = record { values = z ∷ []; of_i64 = λ h. (ranged h, tt); count = λ u. next u ∙ omega arith; fits = λ f u h. is f u ∙ h.0 }

  pub term_fits : (e : ExprTree) (env : Bindings) (z : ℤ) → EnvFits params parameter env → value_of e env ≡ Some z → TermFits env e z
  term_fits (s.Literal n) env z fits e = record { values = []; of_i64 = λ h. tt; count = λ u. omega arith; fits = λ f u h. cc }
  term_fits (s.Named x) env z fits e = go (place_among params x) refl
    where
      go : (o : Option ℕ) → place_among params x ≡ o → TermFits env (s.Named x) z
      go (Some i) is =
          let same : Some (parameter i) ≡ Some z = sym (fits x i is) ∙ e in
          record {
            values = [];
            of_i64 = λ h. tt;
            count = λ u. ap (λ o. if is_unknown (param_or o u) then u + 1 else u) is ∙ omega arith;
            fits = λ f u h. ap (λ o. number_under (assigned params parameter f) (param_or o u)) is ∙ cc;
          }
      go None is =
          unknown_fits env (s.Named x) z (λ h. h x z e) (λ u. ap (λ o. if is_unknown (param_or o u) then u + 1 else u) is)
          (λ f u. ap (λ o. number_under (assigned params parameter f) (param_or o u)) is)
  term_fits (s.Plus a b) env z fits e = unknown_fits env (s.Plus a b) z (λ h. value_i64 (s.Plus a b) env z h tt e) (λ u. refl) (λ f u. refl)
  term_fits (s.Minus a b) env z fits e = unknown_fits env (s.Minus a b) z (λ h. value_i64 (s.Minus a b) env z h tt e) (λ u. refl) (λ f u. refl)
  term_fits (s.Times a b) env z fits e = unknown_fits env (s.Times a b) z (λ h. value_i64 (s.Times a b) env z h tt e) (λ u. refl) (λ f u. refl)

  -- the columns of a key are its cell's
  pub record KeyFits (env : Bindings) (number : ℕ) (key : KeyTree) (cell : Cell) : Type 0 where
    pub values : List ℤ
    pub of_i64 : EnvOfI64 env → AllI64 values
    pub count : (u : ℕ) → (key_columns params u key).next ≡ u + length values
    pub fits : (f : ℕ → ℤ) (u : ℕ) → Agrees f u values → CellAt (assigned params parameter f) (key_columns params u key) number cell

  one_fits : (env : Bindings) (number : ℕ) (a : ExprTree) (x : ℤ) → TermFits env a x → KeyFits env number (One a) (cell_in number x (pos 0))
  one_fits env number a x t =
      record {
        values = t.values;
        of_i64 = t.of_i64;
        count = t.count;
        fits = λ f u h.
            let first = t.fits f u h in
            record {
              holds = record { table = refl; first = within_single (assigned params parameter f) (term_of params u a) x first; second = refl };
              low_first = first;
              low_second = refl;
            };
      }

  two_fits : (env : Bindings) (number : ℕ) (a b : ExprTree) (x y : ℤ) → TermFits env a x → TermFits env b y → KeyFits env number (Two a b) (cell_in number x y)
  two_fits env number a b x y t k =
      record {
        values = t.values ++ k.values;
        of_i64 = λ h. all-append IsI64 t.values k.values (t.of_i64 h) (k.of_i64 h);
        count = λ u. k.count (next_behind params u a) ∙ (let c = t.count u in let d = length-append t.values k.values in omega (arith, c, d));
        fits = λ f u h.
            let first = t.fits f u (agrees_first f u t.values k.values h) in
            let second = k.fits f (next_behind params u a) (agrees_behind f u (next_behind params u a) t.values k.values (t.count u) h) in
            record {
              holds = record { table = refl; first = within_single (assigned params parameter f) (term_of params u a) x first; second = within_single (assigned params parameter f) (term_of params (next_behind params u a) b) y second };
              low_first = first;
              low_second = second;
            };
      }

  pub key_fits : (number : ℕ) (key : KeyTree) (env : Bindings) (cell : Cell) → EnvFits params parameter env → cell_of number key env ≡ Some cell → KeyFits env number key cell
  key_fits number (One a) env cell fits e =
      let c = pair_goes (cell_in number) (value_of a env) (Some (pos 0)) cell e in
      let zero_second : pos 0 ≡ c.1 = zero_is c.1 c.3 in
      subst (KeyFits env number (One a)) (ap (cell_in number c.0) zero_second ∙ c.4) (one_fits env number a c.0 (term_fits a env c.0 fits c.2))
    where
      zero_is : (y : ℤ) → Some (pos 0) ≡ Some y → pos 0 ≡ y
      zero_is y e = cc
  key_fits number (Two a b) env cell fits e =
      let c = pair_goes (cell_in number) (value_of a env) (value_of b env) cell e in
      subst (KeyFits env number (Two a b)) c.4 (two_fits env number a b c.0 c.1 (term_fits a env c.0 fits c.2) (term_fits b env c.1 fits c.3))

  -- ---- ranges

  -- each cell of a region is within the columns of its range
  pub record RangeFits (env : Bindings) (number : ℕ) (range : RangeTree) (region : Region) : Type 0 where
    pub values : List ℤ
    pub of_i64 : EnvOfI64 env → AllI64 values
    pub count : (u : ℕ) → (range_columns params u range).next ≡ u + length values
    pub fits : (f : ℕ → ℤ) (u : ℕ) → Agrees f u values → (c : Cell) → is_in region c ≡ true → CellIn (assigned params parameter f) (range_columns params u range) number c

  is_zero : (z : ℤ) → lies_between (pos 0) z (pos 0) ≡ true → z ≡ pos 0
  is_zero z inside =
      let ends = and_parts (int_le (pos 0) z) (int_le z (pos 0)) inside in
      let above = le_true (pos 0) z ends.0 in
      let below = le_true z (pos 0) ends.1 in
      omega (arith, ints)

  one_range : (env : Bindings) (number : ℕ) (low high : ExprTree) (l h : ℤ) → TermFits env low l → TermFits env high h → RangeFits env number (OneRange low high) (region_between number l h)
  one_range env number low high l h t k =
      record {
        values = t.values ++ k.values;
        of_i64 = λ r. all-append IsI64 t.values k.values (t.of_i64 r) (k.of_i64 r);
        count = λ u. k.count (next_behind params u low) ∙ (let c = t.count u in let d = length-append t.values k.values in omega (arith, c, d));
        fits = λ f u agrees c inside.
            let is_low = t.fits f u (agrees_first f u t.values k.values agrees) in
            let is_high = k.fits f (next_behind params u low) (agrees_behind f u (next_behind params u low) t.values k.values (t.count u) agrees) in
            let parts = and_parts (number == c.table) (lies_between l c.first h && lies_between (pos 0) c.second (pos 0)) inside in
            let ends = and_parts (lies_between l c.first h) (lies_between (pos 0) c.second (pos 0)) parts.1 in
            record {
              table = same_number number c.table parts.0;
              first = within_ends (assigned params parameter f) (term_of params u low) (term_of params (next_behind params u low) high) l c.first h is_low is_high ends.0;
              second = is_zero c.second ends.1;
            };
      }

  two_range : (env : Bindings) (number : ℕ) (a low high : ExprTree) (x l h : ℤ) → TermFits env a x → TermFits env low l → TermFits env high h → RangeFits env number (TwoRange a low high) (region_at number x (l, h))
  two_range env number a low high x l h j t k =
      record {
        values = j.values ++ (t.values ++ k.values);
        of_i64 = λ r. all-append IsI64 j.values (t.values ++ k.values) (j.of_i64 r) (all-append IsI64 t.values k.values (t.of_i64 r) (k.of_i64 r));
        count = λ u.
            k.count (next_behind params (next_behind params u a) low)
            ∙ (let b = j.count u in let c = t.count (next_behind params u a) in let d = length-append t.values k.values in let g = length-append j.values (t.values ++ k.values) in omega (arith, b, c, d, g));
        fits = λ f u agrees c inside.
            let behind_a = next_behind params u a in
            let behind_low = next_behind params behind_a low in
            let is_a = j.fits f u (agrees_first f u j.values (t.values ++ k.values) agrees) in
            let rest = agrees_behind f u behind_a j.values (t.values ++ k.values) (j.count u) agrees in
            let is_low = t.fits f behind_a (agrees_first f behind_a t.values k.values rest) in
            let is_high = k.fits f behind_low (agrees_behind f behind_a behind_low t.values k.values (t.count behind_a) rest) in
            let parts = and_parts (number == c.table) (lies_between x c.first x && lies_between l c.second h) inside in
            let ends = and_parts (lies_between x c.first x) (lies_between l c.second h) parts.1 in
            record {
              table = same_number number c.table parts.0;
              first = within_ends (assigned params parameter f) (term_of params u a) (term_of params u a) x c.first x is_a is_a ends.0;
              second = within_ends (assigned params parameter f) (term_of params behind_a low) (term_of params behind_low high) l c.second h is_low is_high ends.1;
            };
      }

  pub range_fits : (number : ℕ) (range : RangeTree) (env : Bindings) (region : Region) → EnvFits params parameter env → region_of number range env ≡ Some region → RangeFits env number range region
  range_fits number (OneRange low high) env region fits e =
      let c = pair_goes (region_between number) (value_of low env) (value_of high env) region e in
      subst (RangeFits env number (OneRange low high)) c.4 (one_range env number low high c.0 c.1 (term_fits low env c.0 fits c.2) (term_fits high env c.1 fits c.3))
  range_fits number (TwoRange a low high) env region fits e =
      let c = pair_goes (region_at number) (value_of a env) (pair_of (λ y z. (y, z)) (value_of low env) (value_of high env)) region e in
      let d = pair_goes (λ (y z : ℤ). (y, z)) (value_of low env) (value_of high env) c.1 c.3 in
      subst (RangeFits env number (TwoRange a low high)) (ap (region_at number c.0) d.4 ∙ c.4)
      (two_range env number a low high c.0 d.0 d.1 (term_fits a env c.0 fits c.2) (term_fits low env d.0 fits d.2) (term_fits high env d.1 fits d.3))
