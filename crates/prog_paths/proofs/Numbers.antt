-- Numbers of i64 in a run: arguments, rows, and what a statement gives to a name or a row.
use Rattle.std.proofs.Common.{◌≡◌, List, [], ◌∷◌, Bool, true, false, subst}
use Rattle.std.specs.Prelude.{ℤ, Some, if◌then◌else◌}
use Rattle.std.specs.List.{All, AllByRecursion}
use Rattle.std.proofs.lemmas.List.Elements.{recursion_from_All}
use Rattle.std.proofs.lemmas.Option.{same_Some}
use Rattle.prog_tree.specs.declared.cell.Cell.{Cell}
use Rattle.prog_tree.specs.Syntax.{ExprTree, KeyTree, One, Two, StatementTree, BlockTree, BlockEnd, Then, Branch, Each}
use Rattle.prog_tree.specs.Syntax as s
use Rattle.prog_tree.specs.Number.{IsI64}
use Rattle.prog_tree.specs.Table.{TableState, row_at, is_same_cell, HasI64Rows, IsI64Row}

abbrev pub AllI64 : List ℤ → Type 0
AllI64 = AllByRecursion IsI64

abbrev pub RowsOfI64 : TableState → Type 0
RowsOfI64 m = AllByRecursion IsI64Row m

-- a lone number is one of i64
abbrev pub LiteralFits : ExprTree → Type 0
LiteralFits (s.Literal n) = IsI64 n
LiteralFits (s.Named x) = Unit {0}
LiteralFits (s.Plus a b) = Unit {0}
LiteralFits (s.Minus a b) = Unit {0}
LiteralFits (s.Times a b) = Unit {0}

abbrev pub KeyLiteralsFit : KeyTree → Type 0
KeyLiteralsFit (One a) = LiteralFits a
KeyLiteralsFit (Two a b) = LiteralFits a × LiteralFits b

-- the numbers that a statement gives to a name, or to a row and its cell
abbrev pub StatementFits : StatementTree → Type 0
StatementFits (s.Bind name value) = LiteralFits value
StatementFits (s.Get name table key otherwise) = LiteralFits otherwise
StatementFits (s.Put table key value) = KeyLiteralsFit key × LiteralFits value
StatementFits (s.Insert table key value) = KeyLiteralsFit key × LiteralFits value
StatementFits (s.Delete table key) = KeyLiteralsFit key
StatementFits statement = Unit {0}

abbrev pub BlockFits : BlockTree → Type 0
BlockFits BlockEnd = Unit {0}
BlockFits (Then statement rest) = StatementFits statement × BlockFits rest
BlockFits (Branch test a b rest) = BlockFits a × BlockFits b × BlockFits rest
BlockFits (Each l body rest) = BlockFits body × BlockFits rest

-- from the forms of the law
pub all_i64 : (xs : List ℤ) → All IsI64 xs → AllI64 xs
all_i64 xs h = recursion_from_All IsI64 xs h

pub rows_i64 : (m : TableState) → HasI64Rows m → RowsOfI64 m
rows_i64 m h = recursion_from_All IsI64Row m h

pub row_i64 : (m : TableState) (c : Cell) (z : ℤ) → RowsOfI64 m → row_at m c ≡ Some z → IsI64 z
row_i64 [] c z h e = absurd (cc)
row_i64 (row ∷ rows) c z h e = here (row_i64 rows c z h.1) (is_same_cell c row.0) e
  where
    here : (row_at rows c ≡ Some z → IsI64 z) → (b : Bool) → (if b then Some row.1 else row_at rows c) ≡ Some z → IsI64 z
    here later true is = subst IsI64 (same_Some row.1 z is) h.0.1
    here later false is = later is
