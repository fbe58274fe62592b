use Rattle.std.proofs.Common.{◌≡◌, drop}
use Rattle.si_engine.proofs.NumberLaws.{read_from}
use Rattle.si_engine.proofs.input.number.natural.Given as goal

-- the digits that are left make of the value what all of them make
abbrev pub invariant-loop-byte : goal.invariant-loop-byte
invariant-loop-byte l = read_from l.value (drop l.byte-index l.bytes) ≡ read_from 0 l.bytes
