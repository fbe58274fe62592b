-- Runs that are answered from what a table state holds.
use Rattle.std.proofs.Common.{◌≡◌, Bool, true, false, cond, List, [], ◌∷◌, ◌++◌, ℤ, Option, Some, None, IfSome, refl, ap, sym, subst, ◌∙◌}
use Rattle.std.specs.List.{list_all}
use Rattle.prog_tree.specs.declared.cell.Cell.{Cell}
use Rattle.prog_tree.specs.declared.cell.Region.{Region}
use Rattle.prog_tree.specs.declared.look.Look.{Look}
use Rattle.prog_tree.specs.declared.look.Look.TheVariants as look
use Rattle.prog_tree.specs.Table.{TableState, is_in, row_at, rows_in}
use Rattle.prog_run.specs.declared.next.Next.{Next}
use Rattle.prog_run.specs.declared.next.Next.TheVariants.{Get, Scan, Did, Done}
use Rattle.prog_run.specs.Looks.{IsFound, AreFound, region_look}
use Rattle.prog_tree.specs.Evaluation.{own_cells, rows_without}
use Rattle.prog_run.specs.Cursor.{BeginsWith}
use Rattle.prog_run.specs.Step.{question_after, deeds_after, changes_after}
use Rattle.prog_run.specs.View.{RunView, IsAdvance, IsAnswered, IsTrueRun, SameBegin, begun, scan_fault, asked_cell, asked_region, result_of}
use Rattle.std.specs.Prelude.{IsSome, slice_get}
use Rattle.std.specs.Option.{option_map}
use Rattle.std.proofs.lemmas.Option.{slice_get-map}
use Rattle.prog_tree.specs.declared.deed.End.{End}
use Rattle.prog_tree.specs.declared.program.Draft.{Draft}
use Rattle.prog_tree.specs.Evaluation.{Evaluation}
use Rattle.prog_tree.specs.Tree.{program_tree}
use Rattle.history_book.specs.Audit.{CameTo}
use Rattle.history_book.specs.Runs.{IsOwnRun, StepsTo}
use Rattle.history_book.specs.View.{BookView, instance_of, state_in, done_in}
use Rattle.history_book.specs.declared.instances.row.HistoryRow.{HistoryRow}
use Rattle.history_book.proofs.CommitLaws.{own_run}

-- one look more, which found what the state holds
found_more : (m : TableState) (looks : List Look) (l : Look) → AreFound m looks → IsFound m l → AreFound m (looks ++ l ∷ [])
found_more m [] l before here = (here, tt)
found_more m (k ∷ looks) l before here = (before.0, found_more m looks l before.1 here)

answered_with : (m : TableState) (l : Look) (next : Next) (old new : RunView) → IsAnswered l next old new → AreFound m old.looks → IsFound m l → AreFound m new.looks
answered_with m l next old new answered before here = subst (AreFound m) (sym answered.looks) (found_more m old.looks l before here)

-- the question for a cell was answered
pub answered_cell : (old new : RunView) (cell : Cell) (held : Option ℤ) (next : Next) → old.asked ≡ Some (Get cell) → IfSome (asked_cell old.asked) (λ c. IsAnswered (look.One c held) next old new)
    → IsAnswered (look.One cell held) next old new
answered_cell old new cell held next asked answered = subst (λ a. IfSome (asked_cell a) (λ c. IsAnswered (look.One c held) next old new)) asked answered

-- the question for a region was answered
pub answered_region : (old new : RunView) (region : Region) (rows : TableState) (next : Next) → old.asked ≡ Some (Scan region)
    → IfSome (asked_region old.asked) (λ r. IsAnswered (region_look old.changes r rows) next old new) → IsAnswered (region_look old.changes region rows) next old new
answered_region old new region rows next asked answered = subst (λ a. IfSome (asked_region a) (λ r. IsAnswered (region_look old.changes r rows) next old new)) asked answered

-- the answer for a cell is what the state holds there
pub found_cell : (m : TableState) (old new : RunView) (cell : Cell) (held : Option ℤ) (next : Next) → held ≡ row_at m cell → AreFound m old.looks
    → IsAnswered (look.One cell held) next old new → AreFound m new.looks
found_cell m old new cell held next is before answered = answered_with m (look.One cell held) next old new answered before (sym is)

-- the answer for a region is the state's rows in it
pub found_region : (m : TableState) (old new : RunView) (region : Region) (rows : TableState) (next : Next) → rows ≡ rows_in region m → AreFound m old.looks
    → IsAnswered (region_look old.changes region rows) next old new → AreFound m new.looks
found_region m old new region rows next is before answered =
    answered_with m (region_look old.changes region rows) next old new answered before (ap (rows_without (own_cells region old.changes.cells)) (sym is))

goes_on : (next : Next) (first old new : RunView) → old.deeds ≡ first.deeds → old.changes ≡ first.changes → BeginsWith first.replies old.replies → (l : Look) → IsAnswered l next old new → StepsTo next first new
goes_on next first old new deeds changes replies l answered = record {
  idle = answered.finished;
  deeds = answered.deeds ∙ ap (deeds_after next) deeds;
  changes = answered.changes ∙ ap (changes_after next) changes;
  replies = subst (BeginsWith first.replies) (sym answered.replies) replies;
  asked = answered.asked;
  end = answered.end;
}

-- an answer goes on from where the run was before it asked
pub steps_behind : (l : Look) (asking next : Next) (first old new : RunView) (question : Next) → question_after asking ≡ Some question → IsAdvance asking first old → IsAnswered l next old new
    → StepsTo next first new
steps_behind l (Get cell) next first old new question is advance answered = goes_on next first old new advance.deeds advance.changes advance.replies l answered
steps_behind l (Scan region) next first old new question is advance answered = goes_on next first old new advance.deeds advance.changes advance.replies l answered
steps_behind l (Did deed) next first old new question is advance answered = absurd (cc)
steps_behind l (Done end) next first old new question is advance answered = absurd (cc)

pub begun_as_first : (first old new : RunView) → SameBegin first old → SameBegin old new → SameBegin first new
begun_as_first first old new one two = record { tables = two.tables ∙ one.tables; program = two.program ∙ one.program; args = two.args ∙ one.args }

-- the rows of a region lie in it
all_in : (region : Region) (m : TableState) → list_all (λ row. is_in region row.0) (rows_in region m) ≡ true
all_in region [] = refl
all_in region (row ∷ m) = go (is_in region row.0) refl (all_in region m)
  where
    go : (b : Bool) → is_in region row.0 ≡ b → list_all (λ r. is_in region r.0) (rows_in region m) ≡ true
        → list_all (λ r. is_in region r.0) (cond b (row ∷ rows_in region m) (rows_in region m)) ≡ true
    go true here rest = rw (here, rest) refl
    go false here rest = rest

pub no_scan_fault : (m : TableState) (asked : Option Next) (region : Region) (rows : TableState) → asked ≡ Some (Scan region) → rows ≡ rows_in region m → scan_fault (asked_region asked) rows ≡ None
no_scan_fault m asked region rows is same =
    ap (λ a. scan_fault (asked_region a) rows) is ∙ ap (scan_fault (Some region)) same ∙ (rw (all_in region m) refl)

-- ---- a run that is over

-- a run of a row's instance that looked at its snapshot alone came to what the instance does
pub came_to : (v : BookView) (row : HistoryRow) (set : Draft) (args : List ℤ) (first run : RunView) → set ≡ v.set → args ≡ row.args →
    first ≡ begun set.tables.items first.program args → slice_get set.programs.items row.program ≡ Some first.program → IsSome run.end →
    AreFound (state_in v row.start) run.looks → IsTrueRun run → SameBegin first run → CameTo run (done_in v (instance_of row))
came_to v row set args first run set_is args_is begins found over looks is_true same = go run.end refl over
  where
    own : IsOwnRun v (instance_of row) run
    own = record {
      same = record {
        tables = same.tables ∙ ap (λ (r : RunView). r.tables) begins ∙ ap (λ (s : Draft). s.tables.items) set_is;
        program =
            slice_get-map program_tree v.set.programs.items row.program
            ∙ ap (λ (s : Draft). option_map program_tree (slice_get s.programs.items row.program)) (sym set_is)
            ∙ ap (option_map program_tree) found
            ∙ ap (λ p. Some (program_tree p)) (sym same.program);
        args = same.args ∙ ap (λ (r : RunView). r.args) begins ∙ args_is;
      };
      found = looks;
    }

    go : (o : Option End) → run.end ≡ o → IsSome o → CameTo run (done_in v (instance_of row))
    go None is some = absurd (cc)
    go (Some end) is some =
        let did : result_of end run ≡ done_in v (instance_of row) = own_run v (instance_of row) run end own is_true is in
        record {
          ends = is ∙ ap (λ (e : Evaluation). Some e.ending) did;
          replies = ap (λ (e : Evaluation). e.replies) did;
          changes = ap (λ (e : Evaluation). e.changes) did;
          looks = ap (λ (e : Evaluation). e.looks) did;
        }
