use Rattle.std.proofs.Common.{sym, rules}
use Rattle.sirob.proofs.PartLemmas.{two_parts}
use Rattle.sirob.proofs.parts.one_part.Goals as goal

pub returns-then-is_some-clause-extra : goal.returns-then-is_some-clause-extra
returns-then-is_some-clause-extra c = (λ _. two_parts c.args.input.now _ _ c.first_part-first.ensures.parts (sym c.if-is_some.ensures), λ _. search rules)
