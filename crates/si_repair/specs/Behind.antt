-- What keeps behind the marked statements make of a program.
use Rattle.std.specs.Prelude.{ℕ, ◌+◌, ◌≤◌, Bool, Option, None}
use Rattle.prog_tree.specs.Syntax.{Name, KeyTree, StmtTree, Plain, Fork, Loop}
use Rattle.prog_tree.specs.Tree.{block_tree}
use Rattle.prog_tree.specs.declared.program.Program.{Program}
use Rattle.prog_check.specs.Limits.{most_statements}
use Rattle.prog_check.specs.Paths.{statement_count}
use Rattle.repair_laws.specs.Promoted.{cell_read, with_keeps}

-- the cell that a statement reads; a branch itself reads none, nor does an `each`
abbrev pub cell_read_by : StmtTree → Option (Name × KeyTree)
cell_read_by (Plain statement) = cell_read statement
cell_read_by (Fork test a b) = None
cell_read_by (Loop l body) = None

-- how many statements a statement is, those of its blocks too
abbrev pub count_by : StmtTree → ℕ
count_by (Plain statement) = 1
count_by (Fork test a b) = 1 + statement_count a + statement_count b
count_by (Loop l body) = 1 + statement_count body

-- a statement of this number with keeps in the blocks of a branch; a body gets none
abbrev pub with_keeps_in : (marked : ℕ → Bool) → (number : ℕ) → StmtTree → StmtTree
with_keeps_in marked number (Plain statement) = Plain statement
with_keeps_in marked number (Fork test a b) =
    Fork test (with_keeps marked (number + 1) a) (with_keeps marked (number + 1 + statement_count a) b)
with_keeps_in marked number (Loop l body) = Loop l body

abbrev pub HasFewStatements : Program → Type 0
HasFewStatements p = statement_count (block_tree p.body) ≤ most_statements
