use Rattle.std.proofs.Common.{take}
use Rattle.repair_laws.specs.Promoted.{MarksExposed}
use Rattle.si_repair.specs.Promotion.{pairs_of}
use Rattle.si_repair.specs.Marks.{is_marked}
use Rattle.si_repair.proofs.repairs.promotion.marked_statements.Given as goal

-- the exposed reads of the pairs so far are marked
abbrev pub invariant-loop-each : goal.invariant-loop-each
invariant-loop-each l = MarksExposed l.paths (pairs_of (take l.each-index l.coverable)) (is_marked l.marks.items)
