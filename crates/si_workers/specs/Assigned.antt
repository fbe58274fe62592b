-- What workers are given beside their jobs.
use Rattle.std.specs.Prelude.{ℕ}
use Rattle.prog_tree.specs.Syntax.{DraftTree}
use Rattle.prog_tree.specs.Table.{TableState}
use Rattle.prog_tree.specs.Tree.{draft_tree}
use Rattle.si_workers.specs.declared.assignment.Assignment.{Assignment}

-- so many workers do jobs for a set of programs, over opening rows
pub record Assigned : Type 0 where
  pub workers : ℕ
  pub set : DraftTree
  pub opening : TableState

abbrev pub assigned : (workers : ℕ) → DraftTree → TableState → Assigned
assigned workers set opening = record { workers = workers; set = set; opening = opening }

-- what an assignment says
abbrev pub assigned_by : Assignment → Assigned
assigned_by a = assigned a.workers (draft_tree a.set.now) a.opening.now
