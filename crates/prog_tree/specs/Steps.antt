-- The steps of a run: what each of them adds to what it has done so far.
use Rattle.std.specs.Prelude.{ℕ, ℤ, [], ◌∷◌, ◌++◌, take, Option}
use Rattle.prog_tree.specs.declared.cell.Cell.{Cell}
use Rattle.prog_tree.specs.declared.deed.Deed.{Deed}
use Rattle.prog_tree.specs.declared.look.Look.{Look}
use Rattle.prog_tree.specs.declared.progress.Progress.{Progress}
use Rattle.prog_tree.specs.Syntax.{Name}
use Rattle.prog_tree.specs.Value.{Bindings}
use Rattle.prog_tree.specs.ChangeSet.{no_changes, with_change, with_kept}

-- nothing was done yet
abbrev pub started_with : Bindings → Progress
started_with env = record { env = env; deeds = []; replies = []; changes = no_changes; looks = [] }

abbrev pub bound : Name → ℤ → Progress → Progress
bound name v p = record p { env = p.env ++ (name, v) ∷ [] }

abbrev pub did : Deed → Progress → Progress
did deed p = record p { deeds = p.deeds ++ deed ∷ [] }

abbrev pub replied : ℤ → Progress → Progress
replied v p = record p { replies = p.replies ++ v ∷ [] }

-- a cell is set to a value, or removed
abbrev pub wrote : Cell → Option ℤ → Progress → Progress
wrote cell w p = record p { changes = with_change p.changes cell w }

abbrev pub keeps : Cell → Progress → Progress
keeps cell p = record p { changes = with_kept p.changes cell }

abbrev pub looked : Look → Progress → Progress
looked look p = record p { looks = p.looks ++ look ∷ [] }

-- the end of a block: only the names from before it are left
abbrev pub closed : ℕ → Progress → Progress
closed scope p = record p { env = take scope p.env }
