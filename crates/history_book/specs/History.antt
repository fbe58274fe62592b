-- Histories of committed instances.
use Rattle.std.specs.Prelude.{◌≡◌, ℕ, zero, suc, ◌-◌, ◌<◌, ℤ, true, All, List, [], ◌∷◌, ◌++◌, length, Option, Some, None, slice_get}
use Rattle.std.specs.Option.{option_map_or}
use Rattle.prog_tree.specs.declared.cell.Cell.{Cell}
use Rattle.prog_tree.specs.declared.deed.End.TheVariants.{Ready, Aborted}
use Rattle.prog_tree.specs.declared.deed.Cause.TheVariants.{Asked}
use Rattle.prog_tree.specs.declared.table.TableDecl.{TableDecl}
use Rattle.prog_tree.specs.ChangeSet.{ChangeSet, no_changes, touches_cell}
use Rattle.prog_tree.specs.Evaluation.{Evaluation, eval}
use Rattle.prog_tree.specs.Number.{IsI64}
use Rattle.prog_tree.specs.Syntax.{ProgramTree, DraftTree}
use Rattle.prog_tree.specs.Table.{TableState}
use Rattle.version_store.specs.Commits.{state_at}

-- a program by its number, its arguments, and the number of commits that it sees
pub record Instance : Type 0 where
  pub program : ℕ
  pub args : List ℤ
  pub start : ℕ

-- an instance of no program does nothing
abbrev pub nothing : Evaluation
nothing =
    record { ending = Aborted Asked; deeds = []; replies = []; changes = no_changes; looks = [] }

abbrev pub eval_found : Option ProgramTree → List TableDecl → List ℤ → TableState → Evaluation
eval_found found tables args m = option_map_or (λ (p : ProgramTree). eval tables p args m) found nothing

-- what an instance does on a table state
unfoldable pub eval_of : DraftTree → Instance → TableState → Evaluation
eval_of set i m = eval_found (slice_get set.programs i.program) set.tables i.args m

-- what the instances write, each evaluated on the state that it sees, after the commits so far
abbrev pub commits_after : DraftTree → TableState → List ChangeSet → List Instance → List ChangeSet
commits_after set opening past [] = past
commits_after set opening past (i ∷ is) =
    let w = (eval_of set i (state_at opening past i.start)).changes in
    commits_after set opening (past ++ w ∷ []) is

abbrev pub commits_of : DraftTree → TableState → List Instance → List ChangeSet
commits_of set opening h = commits_after set opening [] h

-- the state after the first n instances
abbrev pub state_after : DraftTree → TableState → List Instance → ℕ → TableState
state_after set opening h n = state_at opening (commits_of set opening h) n

-- what an instance does on the state that it sees
abbrev pub evaluation : DraftTree → TableState → List Instance → Instance → Evaluation
evaluation set opening h i = eval_of set i (state_after set opening h i.start)

-- the item of a number; numbers begin at 1
abbrev pub nth_item : {A : Type 0} → List A → ℕ → Option A
nth_item xs zero = None
nth_item xs (suc n) = slice_get xs n

-- the instance of a number
abbrev pub nth_instance : List Instance → ℕ → Option Instance
nth_instance h n = nth_item h n

-- the program exists and takes as many arguments, which are i64
abbrev pub IsCalled : DraftTree → Instance → Type 0
IsCalled set i =
    (p : ProgramTree) × (slice_get set.programs i.program ≡ Some p)
    × (length p.params ≡ length i.args) × All IsI64 i.args

-- each instance is called rightly, sees only earlier commits and ends ready, and no cell that it changes or
-- keeps was changed or kept by a commit above its start
pub record IsLawful (set : DraftTree) (opening : TableState) (h : List Instance) : Type 0 where
  pub called : (j : ℕ) (b : Instance) → nth_instance h j ≡ Some b → IsCalled set b
  pub starts : (j : ℕ) (b : Instance) → nth_instance h j ≡ Some b → b.start < j
  pub ready :
      (j : ℕ) (b : Instance) → nth_instance h j ≡ Some b →
      (evaluation set opening h b).ending ≡ Ready
  pub apart :
      (i j : ℕ) (a b : Instance) (c : Cell) →
      nth_instance h i ≡ Some a → nth_instance h j ≡ Some b → b.start < i → i < j →
      touches_cell (evaluation set opening h a).changes c ≡ true →
      touches_cell (evaluation set opening h b).changes c ≡ true → ⊥

-- each instance sees only earlier commits
abbrev pub StartsBelow : List Instance → Type 0
StartsBelow h = (j : ℕ) (b : Instance) → nth_instance h j ≡ Some b → b.start < j

-- the commit of a number above the start changes or keeps the cell
pub record NamesCommit (ws : List ChangeSet) (start : ℕ) (cell : Cell) (number : ℕ) : Type 0 where
  pub above : start < number
  pub commit : ChangeSet
  pub at : slice_get ws (number - 1) ≡ Some commit
  pub touches : touches_cell commit cell ≡ true
