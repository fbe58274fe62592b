use Rattle.std.proofs.Common.{◌≡◌}
use Rattle.sirob.specs.Refusal.{sample_numbers}
use Rattle.sirob.proofs.commands.refusal.sample_numbers.Given as goal

-- the numbers so far are there
abbrev pub invariant-loop-i : goal.invariant-loop-i
invariant-loop-i l = l.numbers.items ≡ sample_numbers l.sample l.is_first l.i
