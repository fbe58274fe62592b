use Rattle.std.proofs.Common.{◌≡◌, ◌-◌, ◌^◌, min, take}
use Rattle.prog_text.specs.Lexing.{digits_value}
use Rattle.prog_text.proofs.lexing.lexer.value.Given as goal

-- the value so far, or the greatest number of 64 bits
abbrev pub invariant-loop-byte : goal.invariant-loop-byte
invariant-loop-byte l = l.value ≡ min (digits_value (take l.byte-index l.digits)) (2 ^ 64 - 1)
