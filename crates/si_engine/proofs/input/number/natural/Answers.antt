use Rattle.std.proofs.Common.{◌≡◌, ◌<◌, length, Some, None, arith, ◌∙◌}
use Rattle.std.proofs.lemmas.Grind.{common_steps}
use Rattle.si_engine.proofs.NumberLaws.{read_from, read_from-natural}
use Rattle.si_engine.proofs.input.number.natural.Goals as goal

pub returns-in_err-value : goal.returns-in_err-value
returns-in_err-value c =
    let some : 0 < length c.args.bytes.now = grind (arith, common_steps) in
    let none : None ≡ read_from 0 c.args.bytes.now = grind (arith, common_steps) in
    c.from_residual.ensures ∙ none ∙ read_from-natural c.args.bytes.now some

pub returns : goal.returns
returns c =
    let some : 0 < length c.args.bytes.now = grind (arith, common_steps) in
    let all : Some c.loop-byte.value ≡ read_from 0 c.args.bytes.now = grind (arith, common_steps) in
    all ∙ read_from-natural c.args.bytes.now some
