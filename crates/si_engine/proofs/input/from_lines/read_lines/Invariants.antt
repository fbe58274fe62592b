use Rattle.std.proofs.Common.{◌≡◌, ◌+◌, ◌≤◌, List, length}
use Rattle.prog_tree.specs.Tree.{draft_tree}
use Rattle.si_engine.specs.Lines.{lines_of}
use Rattle.si_engine.specs.Sayings.{sayings_from, all_sayings}
use Rattle.si_engine.proofs.input.from_lines.read_lines.Given as goal

-- the lines that were read said this, and behind them the others say what the whole says
abbrev pub invariant-loop-rest : goal.invariant-loop-rest
invariant-loop-rest g l = record {
  before : List g.row.W-Saying.Denot;
  made : l.whole ≡ g.W.FromLines.whole before;
  same :
      sayings_from (g.W.FromLines.says (draft_tree l.set)) g.W.FromLines.wrong (l.line + 1) before (lines_of l.rest)
      ≡ all_sayings (g.W.FromLines.says (draft_tree l.set)) g.W.FromLines.wrong l.part;
  counted : l.line + length l.rest ≤ length l.part;
}

abbrev pub decreases-loop-rest : goal.decreases-loop-rest
decreases-loop-rest g l = length l.rest
