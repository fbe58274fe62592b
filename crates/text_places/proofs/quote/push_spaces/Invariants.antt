use Rattle.std.proofs.Common.{◌≡◌, ◌++◌, replicate, string_bytes}
use Rattle.text_places.proofs.quote.push_spaces.Given as goal

-- a space for each turn
abbrev pub invariant-loop-space : goal.invariant-loop-space
invariant-loop-space l = string_bytes l.out ≡ string_bytes l.fn.out ++ replicate l._space 32
