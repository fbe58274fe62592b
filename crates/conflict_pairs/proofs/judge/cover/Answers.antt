use Rattle.std.proofs.Common.{sym, ◌∙◌}
use Rattle.std.proofs.lemmas.Bool.{false≢true}
use Rattle.std.proofs.lemmas.Option.{IfSome_then}
use Rattle.conflict_pairs.proofs.judge.cover.Goals as goal
use Rattle.conflict_pairs.proofs.judge.cover.Goals.{else-consistent-via-then-consistent+else-asks_read_write, else-consistent-via-else-consistent}

pub returns-then-asks_read_write-clause-some : goal.returns-then-asks_read_write-clause-some
returns-then-asks_read_write-clause-some c =
    IfSome_then c.least_cover.result c.least_cover.ensures.some (λ p h. record {
      consistent = c.consistent.ensures.consistent.0 c.if-consistent.true;
      asks = c.asks_read_write.ensures.asks.0 c.if-asks_read_write.true;
      first = h;
    })

pub returns-else-consistent-clause-none : goal.returns-else-consistent-clause-none
returns-else-consistent-clause-none c =
    λ k asks m t h. elim c.else-consistent.branch [
      | else-consistent-via-then-consistent+else-asks_read_write w ↦ false≢true (sym w.if-asks_read_write.false ∙ w.asks_read_write.ensures.asks.1 asks)
      | else-consistent-via-else-consistent w ↦ false≢true (sym w.if-consistent.false ∙ c.consistent.ensures.consistent.1 k)
    ]
