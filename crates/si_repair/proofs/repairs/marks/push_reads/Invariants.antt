use Rattle.std.proofs.Common.{◌≡◌, ◌||◌, ℕ, take}
use Rattle.std.specs.List.{list_any}
use Rattle.si_repair.specs.Marks.{is_marked, reads_at}
use Rattle.si_repair.proofs.repairs.marks.push_reads.Given as goal

abbrev pub invariant-loop-question : goal.invariant-loop-question
invariant-loop-question l =
    (program number : ℕ)
    → is_marked l.marks.items program number
    ≡ (is_marked l.fn.marks.items program number || list_any (reads_at l.paths l.pair program number) (take l.question-index l.questions))
