use Rattle.std.proofs.Common.{List, take}
use Rattle.prog_paths.specs.declared.accesses.questions.Question.{Question}
use Rattle.si_repair.specs.Key.{AreForced}
use Rattle.si_repair.specs.Exposed.{AreExposedAmong}
use Rattle.si_repair.proofs.repairs.key.key_of.Given as goal

-- the pairs that the exposed questions of the accesses so far force
abbrev pub invariant-loop-read : goal.invariant-loop-read
invariant-loop-read l =
    (questions : List Question) × AreExposedAmong l.paths (take l.read-index l.reads) l.changes questions
    × AreForced l.paths questions l.first_count l.second_count l.pairs.items
