-- Laws of looks.
use Rattle.std.proofs.Common.{◌≡◌, List, [], ◌∷◌, ◌++◌, refl, subst}
use Rattle.std.specs.Prelude.{ℤ, Option, Some, None, is_some, if◌then◌else◌}
use Rattle.prog_tree.specs.declared.look.Look.{Look}
use Rattle.prog_tree.specs.declared.cell.Cell.{Cell}
use Rattle.prog_tree.specs.declared.progress.Progress.{Progress}
use Rattle.prog_tree.specs.Table.{TableState}
use Rattle.prog_tree.specs.ChangeSet.{ChangeSet, change_at}
use Rattle.prog_run.specs.Task.{CellUseTree, OfCell}
use Rattle.prog_run.specs.Task as task
use Rattle.prog_run.specs.Looks.{AreFound, FoundBefore, asked_by}
use Rattle.prog_run.specs.declared.next.Next.TheVariants.{Get}

pub found_last : (m : TableState) (ls : List Look) (l : Look) → AreFound m (ls ++ l ∷ []) → AreFound m ls × AreFound m (l ∷ [])
found_last m [] l h = (tt, h)
found_last m (k ∷ ks) l h = let r = found_last m ks l h.1 in ((h.0, r.0), r.1)

pub found_same : (p q : Progress) → q.looks ≡ p.looks → FoundBefore p q
found_same p q e m f = subst (AreFound m) e f

-- a cell that the run has changed is not asked for
pub asked_unchanged : (changes : ChangeSet) (cell : Cell) (usage : CellUseTree) → asked_by changes (task.Ask (OfCell cell usage)) ≡ Some (Get cell) → change_at changes cell ≡ None
asked_unchanged changes cell usage e = by_change (change_at changes cell) refl e
  where
    by_change : (o : Option (Option ℤ)) → change_at changes cell ≡ o → (if is_some o then None else Some (Get cell)) ≡ Some (Get cell) → change_at changes cell ≡ None
    by_change (Some w) is h = absurd (cc)
    by_change None is h = is
