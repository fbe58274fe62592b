-- Worked examples of what a run asks, of the looks that answers make, and of refusals, computed from the definitions.
use Rattle.std.proofs.Common.{◌≡◌, [], ◌∷◌, refl, false}
use Rattle.std.specs.Prelude.{ℤ, pos, codes, ◌-◌, ◌^◌, List, Option, Some, None, option_and_then}
use Rattle.prog_tree.specs.declared.cell.Cell.{Cell}
use Rattle.prog_tree.specs.declared.cell.Region.{Region}
use Rattle.prog_tree.specs.declared.deed.Cause.TheVariants.{Overflow}
use Rattle.prog_tree.specs.declared.deed.Deed.TheVariants.{Read, Put, Counted, Summed, Listed}
use Rattle.prog_tree.specs.declared.deed.End.TheVariants.{Aborted}
use Rattle.prog_tree.specs.declared.look.Look.{Look}
use Rattle.prog_tree.specs.declared.look.Look.TheVariants as look
use Rattle.prog_tree.specs.declared.table.Arity.TheVariants as arity
use Rattle.prog_tree.specs.declared.table.TableDecl.{TableDecl}
use Rattle.prog_tree.specs.declared.progress.Progress.{Progress}
use Rattle.prog_tree.specs.Syntax.{ExprTree, Literal, Named, Plus, Less, KeyTree, ListingTree, StatementTree, BlockTree, BlockEnd, Then, Branch, Each}
use Rattle.prog_tree.specs.Syntax as s
use Rattle.prog_tree.specs.Steps.{started_with, wrote, bound, did}
use Rattle.prog_tree.specs.Table.{TableState}
use Rattle.prog_tree.specs.Evaluation.{GoesOn, cell_in, rows_seen, begun_turn}
use Rattle.prog_run.specs.Looks.{AreFound, asked_by, region_look}
use Rattle.prog_run.specs.Task.{Counts, Sums, Lists, task_of, next_task, rows_flow}
use Rattle.prog_run.specs.Seen.{rows_before}
use Rattle.prog_run.specs.Step.{next_of, end_after, deeds_after, cursor_behind}
use Rattle.prog_run.specs.Todo.{TurnsTree, named, OpenTree, CursorTree, weight, weight_left, next_turn, in_turn}
use Rattle.prog_run.specs.View.{get_fault, scan_fault, begin_fault}
use Rattle.prog_run.specs.declared.fault.AnswerFault.TheVariants.{NotAsked, BadRows}
use Rattle.prog_run.specs.declared.fault.RunFault.TheVariants.{NoSuchProgram}
use Rattle.prog_run.specs.declared.next.Next.TheVariants as next
use Rattle.prog_run.specs.declared.next.Step.TheVariants as step
use Rattle.prog_run.specs.declared.next.Next.{Next}

-- ---- in short

abbrev tables : List TableDecl
tables = record { name = codes "t"; arity = arity.One; grow = false } ∷ record { name = codes "e"; arity = arity.Two; grow = false } ∷ []

abbrev number : ℤ → ExprTree
number n = Literal n

abbrev too_large : ExprTree
too_large = Plus (number (pos (2 ^ 63 - 1))) (number (pos 1))

abbrev cell : ℤ → Cell
cell k = record { table = 0; first = k; second = pos 0 }

abbrev nothing_yet : Progress
nothing_yet = started_with ((codes "d", pos 7) ∷ [])

-- put e[7, 2] = 5; delete e[7, 1];
abbrev own : Progress
own = wrote (cell_in 1 (pos 7) (pos 1)) None (wrote (cell_in 1 (pos 7) (pos 2)) (Some (pos 5)) nothing_yet)

abbrev region : Region
region = record { table = 1; first_low = pos 7; first_high = pos 7; second_low = pos 1; second_high = pos 3 }

abbrev opening : TableState
opening = (cell_in 1 (pos 7) (pos 1), pos 9) ∷ (cell_in 1 (pos 7) (pos 3), pos 4) ∷ (cell_in 1 (pos 8) (pos 2), pos 1) ∷ []

-- the rows of the region in that state
abbrev answered : TableState
answered = (cell_in 1 (pos 7) (pos 1), pos 9) ∷ (cell_in 1 (pos 7) (pos 3), pos 4) ∷ []

-- ---- questions

abbrev asked_of : StatementTree → Progress → Option Next
asked_of st p = option_and_then (asked_by p.changes) (task_of tables st p.env)

-- let x = get t[d] else 0;
pub get_asks : asked_of (s.Get (codes "x") (codes "t") (s.One (Named (codes "d"))) (number (pos 0))) nothing_yet ≡ Some (next.Get (cell (pos 7)))
get_asks = refl

-- let x = need e[d, 2]; of a cell that the run has set, and of one that it has removed
pub own_is_not_asked : asked_of (s.Need (codes "x") (codes "e") (s.Two (Named (codes "d")) (number (pos 2)))) own ≡ None
own_is_not_asked = refl

pub removed_is_not_asked : asked_of (s.Lacks (codes "e") (s.Two (Named (codes "d")) (number (pos 1)))) own ≡ None
removed_is_not_asked = refl

-- insert t[1] = greatest + 1; the value comes before the look
pub overflow_asks_nothing : asked_of (s.Insert (codes "t") (s.One (number (pos 1))) too_large) nothing_yet ≡ None
overflow_asks_nothing = refl

-- let x = get t[1] else greatest + 1; the other value comes after the look
pub else_comes_later : asked_of (s.Get (codes "x") (codes "t") (s.One (number (pos 1))) too_large) nothing_yet ≡ Some (next.Get (cell (pos 1)))
else_comes_later = refl

-- let n = count e[d, 1..3]; own changes don't answer it
pub count_asks : asked_of (s.Count (codes "n") (codes "e") (s.TwoRange (Named (codes "d")) (number (pos 1)) (number (pos 3)))) own ≡ Some (next.Scan region)
count_asks = refl

-- ---- looks

abbrev own_look : Look
own_look = look.Range region (cell_in 1 (pos 7) (pos 1) ∷ cell_in 1 (pos 7) (pos 2) ∷ []) ((cell_in 1 (pos 7) (pos 3), pos 4) ∷ [])

pub look_leaves_out_own : region_look own.changes region answered ≡ own_look
look_leaves_out_own = refl

pub look_is_found : AreFound opening (own_look ∷ look.One (cell_in 1 (pos 8) (pos 2)) (Some (pos 1)) ∷ [])
look_is_found = (refl, (refl, tt))

-- two rows seen: that of the look, and the one that the run has set
abbrev seen : TableState
seen = rows_seen region own.changes.cells ((cell_in 1 (pos 7) (pos 3), pos 4) ∷ [])

pub seen_rows_are : seen ≡ (cell_in 1 (pos 7) (pos 2), pos 5) ∷ (cell_in 1 (pos 7) (pos 3), pos 4) ∷ []
seen_rows_are = refl

pub seen_count : rows_flow (Counts (codes "n")) region seen nothing_yet ≡ GoesOn (bound (codes "n") (pos 2) (did (Counted region (pos 2)) nothing_yet))
seen_count = refl

pub seen_total : rows_flow (Sums (codes "n")) region seen nothing_yet ≡ GoesOn (bound (codes "n") (pos 9) (did (Summed region (pos 9)) nothing_yet))
seen_total = refl

-- the row of cell (7, 2) comes behind one row of the snapshot
pub own_place : rows_before (cell_in 1 (pos 7) (pos 2)) answered ≡ 1
own_place = refl

-- ---- turns

-- each k, x in e[d, 1..3] { put t[k] = x; }
abbrev head : ListingTree
head = record { key = codes "k"; value = codes "x"; table = codes "e"; range = s.TwoRange (Named (codes "d")) (number (pos 1)) (number (pos 3)) }

abbrev body : BlockTree
body = Then (s.Put (codes "t") (s.One (Named (codes "k"))) (Named (codes "x"))) BlockEnd

pub each_asks : option_and_then (asked_by own.changes) (next_task tables (Each head body BlockEnd) own.env) ≡ Some (next.Scan region)
each_asks = refl

pub each_deed : rows_flow (Lists head body) region seen nothing_yet ≡ GoesOn (did (Listed region 2) nothing_yet)
each_deed = refl

-- before the statement, with one name bound
abbrev before_each : CursorTree
before_each = record { here = record { rest = Each head body BlockEnd; scope = 1; turns = None }; outer = [] }

abbrev turns : List (ℤ × ℤ) → TurnsTree
turns left = record { key = codes "k"; value = codes "x"; body = body; left = left }

-- its turns are those of the rows in cell order, by the last key column and the value
pub each_opens : cursor_behind (Lists head body) seen 1 (step.Did (Listed region 2)) before_each
    ≡ record { here = record { rest = BlockEnd; scope = 1; turns = Some (turns ((pos 2, pos 5) ∷ (pos 3, pos 4) ∷ [])) }; outer = record { rest = BlockEnd; scope = 1; turns = None } ∷ [] }
each_opens = refl

abbrev at_turns : List (ℤ × ℤ) → OpenTree
at_turns left = record { rest = BlockEnd; scope = 1; turns = Some (turns left) }

pub first_turn : next_turn (at_turns ((pos 2, pos 5) ∷ (pos 3, pos 4) ∷ [])) ≡ Some (named (codes "k") (codes "x"), (pos 2, pos 5))
first_turn = refl

pub no_turn : next_turn (at_turns []) ≡ None
no_turn = refl

pub second_turn : in_turn 1 (at_turns ((pos 3, pos 4) ∷ [])) ≡ record { rest = body; scope = 1; turns = Some (turns []) }
second_turn = refl

-- the key and then the value are bound
pub turn_names : begun_turn head (pos 2, pos 5) nothing_yet ≡ bound (codes "x") (pos 5) (bound (codes "k") (pos 2) nothing_yet)
turn_names = refl

-- two turns of a statement and an end each, with one step before each, and the end that comes before the first
pub turns_weigh : weight_left (record { here = at_turns ((pos 2, pos 5) ∷ (pos 3, pos 4) ∷ []); outer = [] }) ≡ 7
turns_weigh = refl

-- ---- refusals

pub not_asked : get_fault None ≡ Some NotAsked
not_asked = refl

pub foreign_row : scan_fault (Some region) opening ≡ Some BadRows
foreign_row = refl

pub no_foreign_row : scan_fault (Some region) answered ≡ None
no_foreign_row = refl

pub no_such_program : begin_fault None (pos 7 ∷ []) ≡ Some NoSuchProgram
no_such_program = refl

-- ---- steps

pub ends_overflow : end_after (next_of (step.Over (Aborted Overflow))) ≡ Some (Aborted Overflow)
ends_overflow = refl

pub deed_counts : deeds_after (next.Did (Put (cell (pos 1)) (pos 5))) (Read (cell (pos 1)) None ∷ []) ≡ Read (cell (pos 1)) None ∷ Put (cell (pos 1)) (pos 5) ∷ []
deed_counts = refl

pub question_counts_nothing : deeds_after (next.Get (cell (pos 1))) [] ≡ []
question_counts_nothing = refl

-- if d < 0 { abort; } else { put t[9] = d; }
pub branch_weight : weight (Branch ((record { negated = false; left = Named (codes "d"); relation = Less; right = number (pos 0) } ∷ []) ∷ []) (Then s.Abort BlockEnd) (Then (s.Put (codes "t") (s.One (number (pos 9))) (Named (codes "d"))) BlockEnd) BlockEnd) ≡ 6
branch_weight = refl
