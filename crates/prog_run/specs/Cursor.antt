-- Where a run stands, and what a step without the store does.
use Rattle.std.specs.Prelude.{◌≡◌, ◌<◌, ℤ, Bool, true, false, Option, Some, None, is_some, option_map, List, map, take, length, Result, IfOk, OnErr}
use Rattle.std.specs.declared.alloc.AllocError.{AllocError}
use Rattle.prog_tree.specs.declared.deed.End.{End}
use Rattle.prog_tree.specs.declared.progress.Progress.{Progress}
use Rattle.prog_tree.specs.declared.table.TableDecl.{TableDecl}
use Rattle.prog_tree.specs.Syntax.{ListingTree, StatementTree, BlockTree, BlockEnd, Then, Branch, Each, StmtTree, Plain, Fork, Loop}
use Rattle.prog_tree.specs.Tree.{stmts_tree, block_tree}
use Rattle.prog_tree.specs.Table.{TableState}
use Rattle.prog_tree.specs.Evaluation.{as_evaluation, ended}
use Rattle.prog_check.specs.Uses.{used_table}
use Rattle.prog_run.specs.Todo.{TurnsTree, named, OpenTree, CursorTree, todo, weight_left}
use Rattle.prog_run.specs.declared.block.Turns.{Turns}
use Rattle.prog_run.specs.declared.block.Turn.{Turn}
use Rattle.prog_run.specs.declared.block.OpenBlock.{OpenBlock}
use Rattle.prog_run.specs.declared.cursor.Cursor.{Cursor}
use Rattle.prog_run.specs.declared.cursor.Standing.{Standing}
use Rattle.prog_run.specs.declared.cursor.Standing.TheVariants.{Moved, AtStore, Over}

-- turns of the code, as plain trees
abbrev pub turns_tree : Turns → TurnsTree
turns_tree t =
    record { key = t.names.key.now; value = t.names.value.now; body = block_tree t.body.now; left = t.left.items }

-- an open block of the code, as plain trees
abbrev pub open_tree : OpenBlock → OpenTree
open_tree b = record { rest = stmts_tree b.rest.now; scope = b.scope; turns = option_map turns_tree b.turns }

-- a cursor of the code, as plain trees
abbrev pub cursor_tree : Cursor → CursorTree
cursor_tree c = record { here = open_tree c.here; outer = map open_tree c.outer.items }

-- a turn of the code, with the head of its `each`
abbrev pub turn_tree : Turn → ListingTree × (ℤ × ℤ)
turn_tree t = (named t.names.key.now t.names.value.now, (t.key, t.value))

-- a list begins with another one
abbrev pub BeginsWith : {A : Type 0} → (front whole : List A) → Type 0
BeginsWith front whole = take (length front) whole ≡ front

-- the store part of what the run has done stays: deeds, changes and looks; its replies only grow
pub record KeepsStore (old new : Progress) : Type 0 where
  pub deeds : new.deeds ≡ old.deeds
  pub changes : new.changes ≡ old.changes
  pub looks : new.looks ≡ old.looks
  pub replies : BeginsWith old.replies new.replies

-- whether a statement without blocks is one of the store: it uses a table
abbrev pub needs_store : StatementTree → Bool
needs_store s = is_some (used_table s)

-- whether a statement is one of the store: an `each` is, a branch is not
abbrev pub is_store_stmt : StmtTree → Bool
is_store_stmt (Plain statement) = needs_store statement
is_store_stmt (Fork test a b) = false
is_store_stmt (Loop l body) = true

-- whether a block begins with a statement of the store
abbrev pub is_store : BlockTree → Bool
is_store BlockEnd = false
is_store (Then statement rest) = needs_store statement
is_store (Branch test a b rest) = false
is_store (Each l body rest) = true

-- what is left then is what was left before
abbrev pub SameTodo : CursorTree → Progress → CursorTree → Progress → Type 0
SameTodo c p d q = (tables : List TableDecl) (m : TableState) → todo tables m d q ≡ todo tables m c p

-- the run is over, with this ending
abbrev pub IsOver : End → CursorTree → Progress → Progress → Type 0
IsOver end c p q = (tables : List TableDecl) (m : TableState) → ended (todo tables m c p) ≡ as_evaluation end q

-- one step without the store: less is left and it means the same, or nothing was done, or the run is over
abbrev pub IsLocalStep : Standing → CursorTree → Progress → CursorTree → Progress → Type 0
IsLocalStep Moved c p d q = SameTodo c p d q × (weight_left d < weight_left c) × KeepsStore p q
-- the next statement is one of the store
IsLocalStep AtStore c p d q = (d ≡ c) × (q ≡ p) × (is_store c.here.rest ≡ true)
IsLocalStep (Over end) c p d q = IsOver end c p q × KeepsStore p q

-- one such step was done; where memory ran out, all is as it was
pub record StepsOrStays (result : Result Standing AllocError) (c : CursorTree) (p : Progress) (d : CursorTree)
    (q : Progress) : Type 0 where
  pub step : IfOk result (λ standing. IsLocalStep standing c p d q)
  pub err : OnErr result (d ≡ c)
  pub err_progress : OnErr result (q ≡ p)

-- all such steps were done: the next statement is one of the store, or the run is over
abbrev pub IsSettled : Option End → CursorTree → Progress → CursorTree → Progress → Type 0
IsSettled None c p d q = SameTodo c p d q × (is_store d.here.rest ≡ true)
IsSettled (Some end) c p d q = IsOver end c p q
