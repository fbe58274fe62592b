use Rattle.std.proofs.Common.{◌++◌, take, codes, Ok}
use Rattle.std.specs.List.{flat_map}
use Rattle.si_engine.specs.Writing.{AddsBytes}
use Rattle.si_engine.proofs.output.pieces.push_numbers.Given as goal

-- the numbers so far are written
abbrev pub invariant-loop-number : goal.invariant-loop-number
invariant-loop-number g l = AddsBytes l.fn.text l.text (Ok tt) (flat_map (λ n. codes " " ++ g.I.Integer.text n) (take l.number-index l.numbers))
