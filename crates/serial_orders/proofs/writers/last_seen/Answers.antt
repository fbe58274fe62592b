use Rattle.std.proofs.Common.{◌∙◌}
use Rattle.serial_orders.proofs.WriterLaws.{seen_at}
use Rattle.serial_orders.proofs.writers.last_seen.Goals as goal

pub returns : goal.returns
returns c = λ start cut.
    c.copied.ensures ∙ c.last.ensures.value ∙ seen_at start c.args.numbers.now c.args.count cut c.requires
