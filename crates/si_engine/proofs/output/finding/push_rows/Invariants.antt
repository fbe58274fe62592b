use Rattle.std.proofs.Common.{◌≡◌, List, ℕ, ◌++◌, drop, string_bytes}
use Rattle.prog_tree.specs.Tree.{draft_tree}
use Rattle.si_engine.specs.Runs.{row_lines, AddsLines}
use Rattle.si_engine.proofs.output.finding.push_rows.Given as goal

abbrev pub invariant-loop-row : goal.invariant-loop-row
invariant-loop-row l = record {
  done : List (List ℕ);
  lines : row_lines (draft_tree l.set) l.rows ≡ done ++ row_lines (draft_tree l.set) (drop l.row-index l.rows);
  added : AddsLines done (string_bytes l.fn.out) (string_bytes l.out);
}
