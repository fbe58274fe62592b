use Rattle.std.proofs.Common.{◌∙◌}
use Rattle.serial_orders.proofs.WriterLaws.{missed_read}
use Rattle.serial_orders.proofs.writers.first_missed.Goals as goal

pub returns : goal.returns
returns c = λ start cut.
    let found = c.get.ensures.lookup in
    c.copied.ensures ∙ missed_read start c.args.numbers.now c.args.count c.get.result found.0 found.1 cut
