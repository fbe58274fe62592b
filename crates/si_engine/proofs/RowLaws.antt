-- The states of a history whose instances have arguments of i64 have rows of i64.
use Rattle.std.proofs.Common.{◌≡◌, ℕ, zero, suc, List, [], ◌∷◌, ◌++◌, refl}
use Rattle.std.specs.Prelude.{slice_get, Option, Some, None, All}
use Rattle.std.specs.List.{AllByRecursion}
use Rattle.std.proofs.lemmas.List.Elements.{All-from_recursion}
use Rattle.std.proofs.ByRecursion.{All-push}
use Rattle.prog_tree.specs.ChangeSet.{ChangeSet, HasI64Changes, changed}
use Rattle.prog_tree.specs.Number.{IsI64}
use Rattle.prog_tree.specs.Syntax.{ProgramTree, DraftTree}
use Rattle.prog_tree.specs.Table.{TableState, HasI64Rows}
use Rattle.prog_tree.proofs.NumberLaws.{HasI64Rows-changed}
use Rattle.prog_tree.proofs.NumberRuns.{evaluations_write_i64}
use Rattle.prog_check.specs.Sound.{IsSound}
use Rattle.version_store.specs.Commits.{state_at}
use Rattle.history_book.specs.History.{Instance, eval_found, eval_of, commits_after, commits_of, state_after, IsLawful}

-- each of these commits writes i64
abbrev AllWriteI64 : List ChangeSet → Type 0
AllWriteI64 ws = AllByRecursion (λ (w : ChangeSet). HasI64Changes w.cells) ws

-- a state after some of the commits
rows_at : (m : TableState) (ws : List ChangeSet) (n : ℕ) → AllWriteI64 ws → HasI64Rows m →
    HasI64Rows (state_at m ws n)
rows_at m [] zero all rows = rows
rows_at m [] (suc n) all rows = rows
rows_at m (w ∷ ws) zero all rows = rows
rows_at m (w ∷ ws) (suc n) all rows = rows_at (changed m w.cells) ws n all.1 (HasI64Rows-changed m w.cells all.0 rows)

-- an instance of a sound set writes i64
instance_writes : (set : DraftTree) (i : Instance) (m : TableState) → IsSound set → All IsI64 i.args → HasI64Rows m →
    HasI64Changes (eval_of set i m).changes.cells
unfolding eval_of
instance_writes set i m sound args rows = go (slice_get set.programs i.program) refl
  where
    go : (o : Option ProgramTree) → slice_get set.programs i.program ≡ o →
        HasI64Changes (eval_found o set.tables i.args m).changes.cells
    go None e = All-from_recursion _ [] tt
    go (Some p) e = evaluations_write_i64 set.tables p i.args m (sound.programs i.program p e).literals args rows

commits_write : (set : DraftTree) (opening : TableState) (past : List ChangeSet) (h : List Instance) → IsSound set →
    HasI64Rows opening →
    ((k : ℕ) (b : Instance) → slice_get h k ≡ Some b → All IsI64 b.args) → AllWriteI64 past → AllWriteI64
    (commits_after set opening past h)
commits_write set opening past [] sound rows args all = all
commits_write set opening past (i ∷ h) sound rows args all =
    let w = (eval_of set i (state_at opening past i.start)).changes in
    let writes =
    instance_writes set i (state_at opening past i.start) sound (args 0 i refl)
    (rows_at opening past i.start all rows) in
    commits_write set opening (past ++ w ∷ []) h sound rows (λ k b found. args (suc k) b found)
    (All-push (λ (v : ChangeSet). HasI64Changes v.cells) past w all writes)

-- each state of a lawful history of a sound set has rows of i64, if the opening has
pub rows_after : (set : DraftTree) (opening : TableState) (h : List Instance) → IsSound set → IsLawful set opening h →
    HasI64Rows opening → (n : ℕ) → HasI64Rows (state_after set opening h n)
rows_after set opening h sound lawful rows n =
    rows_at opening (commits_of set opening h) n (commits_write set opening [] h sound rows args tt) rows
  where
    args : (k : ℕ) (b : Instance) → slice_get h k ≡ Some b → All IsI64 b.args
    args k b found = (lawful.called (suc k) b found).3
