use Rattle.std.proofs.Common.{◌<◌, length, sym, rules, arith}
use Rattle.sirob.specs.Parts.{parts_of}
use Rattle.sirob.proofs.PartLemmas.{three_parts}
use Rattle.sirob.proofs.parts.two_parts.Goals as goal
use Rattle.sirob.proofs.parts.two_parts.Goals.{Then-is_some}

many : (c : Then-is_some) → 2 < length (parts_of c.args.input.now)
many c = three_parts c.args.input.now _ _ c.in-Some.rest _ _ c.in-Some.is c.first_part-first.ensures.parts c.first_part-second.ensures.parts (sym c.if-is_some.ensures)

pub returns-then-is_some-clause-ok : goal.returns-then-is_some-clause-ok
returns-then-is_some-clause-ok c = let long = many c in (λ no. cc, λ two. absurd (omega arith))

pub returns-then-is_some-clause-extra : goal.returns-then-is_some-clause-extra
returns-then-is_some-clause-extra c = (λ _. many c, λ _. search rules)
