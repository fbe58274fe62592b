use Rattle.std.proofs.Common.{take}
use Rattle.std.specs.Prelude.{All}
use Rattle.robust_cert.specs.declared.entries.Told.{Told}
use Rattle.robust_cert.specs.Json.{QuestionFits}
use Rattle.robust_cert.proofs.text.pieces.questions_fit.Given as goal

-- the questions so far have such numbers
abbrev pub invariant-loop-next : goal.invariant-loop-next
invariant-loop-next l = All (λ (t : Told). QuestionFits t.question) (take l.next-index l.told)
