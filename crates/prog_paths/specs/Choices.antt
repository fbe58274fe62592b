-- Which way a run takes: its choices at the branches that it meets.
use Rattle.std.specs.Prelude.{ℤ, Bool, List, [], ◌∷◌, ◌++◌, length, Option, Some, None, if◌then◌else◌}
use Rattle.prog_tree.specs.declared.progress.Progress.{Progress}
use Rattle.prog_tree.specs.declared.table.TableDecl.{TableDecl}
use Rattle.prog_tree.specs.Syntax.{BlockTree, BlockEnd, Then, Branch, Each, ProgramTree}
use Rattle.prog_tree.specs.Steps.{closed}
use Rattle.prog_tree.specs.Table.{TableState}
use Rattle.prog_tree.specs.Value.{holds_of}
use Rattle.prog_tree.specs.Evaluation.{Flow, GoesOn, Stops, run_statement, run_block, at_start}

-- the choices behind a flow; there are none where the instance has aborted
abbrev pub choices_behind : Flow → (Progress → List Bool) → List Bool
choices_behind (GoesOn p) go = go p
choices_behind (Stops cause p) go = []

-- the choice of a branch, and those that come with it; there is none where its test overflows
abbrev pub choices_by : Option Bool → (Bool → List Bool) → List Bool
choices_by (Some holds) go = holds ∷ go holds
choices_by None go = []

module _ (tables : List TableDecl) (m : TableState) where
  -- the choices that a run of a block makes, `true` where a test holds
  abbrev pub choices_taken : BlockTree → Progress → List Bool
  choices_taken BlockEnd p = []
  choices_taken (Then statement rest) p = choices_behind (run_statement tables m statement p) (choices_taken rest)
  choices_taken (Branch test a b rest) p =
      choices_by (holds_of test p.env) (λ holds.
      (if holds then choices_taken a else choices_taken b) p
      ++ choices_behind ((if holds then run_block tables m a else run_block tables m b) p)
      (λ q. choices_taken rest (closed (length p.env) q)))
  -- the branches in the body of an `each` are no choices
  choices_taken (Each l body rest) p =
      choices_behind (run_block tables m (Each l body BlockEnd) p) (choices_taken rest)

-- the choices of a program with arguments on a table state
abbrev pub program_choices : List TableDecl → ProgramTree → List ℤ → TableState → List Bool
program_choices tables program args m = choices_taken tables m program.body (at_start program args)
