-- The law of paths: each evaluation that ends Ready follows exactly one committing path, under one assignment with its
-- arguments.
use Rattle.std.specs.Prelude.{◌≡◌, ℕ, ℤ, List, length, Some, slice_get, All}
use Rattle.prog_tree.specs.declared.deed.End.TheVariants.{Ready}
use Rattle.prog_tree.specs.declared.table.TableDecl.{TableDecl}
use Rattle.prog_tree.specs.Syntax.{ProgramTree, DraftTree}
use Rattle.prog_tree.specs.Number.{IsI64}
use Rattle.prog_tree.specs.Table.{TableState, HasI64Rows}
use Rattle.prog_tree.specs.Evaluation.{eval}
use Rattle.prog_check.specs.declared.path.Path.{Path}
use Rattle.prog_check.specs.Sound.{IsSound}
use Rattle.prog_check.specs.Paths.{program_paths}
use Rattle.prog_paths.specs.Choices.{program_choices}
use Rattle.prog_paths.specs.Meeting.{Assignment, IsOfI64}
use Rattle.prog_paths.specs.Follows.{Follows}

-- a path of the program with the choices of the run, an assignment with its arguments, and what the run did by them
pub record FollowsPath (tables : List TableDecl) (number : ℕ) (program : ProgramTree)
    (args : List ℤ) (m : TableState) : Type 0 where
  pub place : ℕ
  pub path : Path
  pub at : slice_get (program_paths tables number program) place ≡ Some path
  pub chosen : path.choices ≡ program_choices tables program args m
  pub v : Assignment
  pub arguments : (i : ℕ) (x : ℤ) → slice_get args i ≡ Some x → v.parameter i ≡ x
  pub of_i64 : IsOfI64 v
  pub follows : Follows m path v (eval tables program args m)

-- no other path has these choices
abbrev pub IsOnly : List TableDecl → ℕ → ProgramTree → List ℤ → TableState → ℕ → Type 0
IsOnly tables number program args m place =
    (j : ℕ) (q : Path) → slice_get (program_paths tables number program) j ≡ Some q
    → q.choices ≡ program_choices tables program args m → j ≡ place

abbrev pub LawOfPaths : Type 0
LawOfPaths =
    (draft : DraftTree) (number : ℕ) (program : ProgramTree) (args : List ℤ) (m : TableState)
    → IsSound draft → slice_get draft.programs number ≡ Some program → length program.params ≡ length args
    → All IsI64 args → HasI64Rows m → (eval draft.tables program args m).ending ≡ Ready
    → (f : FollowsPath draft.tables number program args m) × IsOnly draft.tables number program args m f.place
