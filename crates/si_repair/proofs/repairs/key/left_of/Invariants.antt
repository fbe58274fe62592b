use Rattle.std.proofs.Common.{ℕ, List, ◌++◌, take}
use Rattle.prog_paths.specs.declared.accesses.questions.Question.{Question}
use Rattle.si_repair.specs.Key.{AreForced}
use Rattle.si_repair.proofs.repairs.key.left_of.Given as goal

-- those that the questions so far leave
abbrev pub invariant-loop-question : goal.invariant-loop-question
invariant-loop-question l =
    (earlier : List Question) (firsts seconds : ℕ)
    → AreForced l.paths earlier firsts seconds l.fn.pairs.items
    → AreForced l.paths (earlier ++ take l.question-index l.questions) firsts seconds l.left.items
