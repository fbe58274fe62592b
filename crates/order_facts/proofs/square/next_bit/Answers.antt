use Rattle.order_facts.proofs.WordRows.{no_bit-from, next_bit-found}
use Rattle.order_facts.proofs.square.next_bit.Goals as goal

pub returns-then-rest-eq0-clause-none : goal.returns-then-rest-eq0-clause-none
returns-then-rest-eq0-clause-none c = no_bit-from c.args.word c.args.start c.if-rest-eq0.true

pub returns-clause-found : goal.returns-clause-found
returns-clause-found c = next_bit-found c.args.word c.args.start c.ranges.word.fits c.if-rest-eq0.false
