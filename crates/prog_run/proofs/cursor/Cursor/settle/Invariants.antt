use Rattle.prog_run.specs.Todo.{weight_left}
use Rattle.prog_run.specs.Cursor.{cursor_tree, SameTodo, KeepsStore}
use Rattle.prog_run.proofs.cursor.Cursor.settle.Given as goal

abbrev pub invariant-steps : goal.invariant-steps
invariant-steps l = SameTodo (cursor_tree l.initial.self) l.initial.progress (cursor_tree l.self) l.progress × KeepsStore l.initial.progress l.progress

abbrev pub decreases-steps : goal.decreases-steps
decreases-steps l = weight_left (cursor_tree l.self)
