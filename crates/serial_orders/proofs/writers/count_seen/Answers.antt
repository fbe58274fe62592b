use Rattle.std.proofs.Common.{ℕ, leb, rules}
use Rattle.std.proofs.lemmas.List.Sorted.{IsPartitionedBy-leb, IsPartitionPoint-from_clause}
use Rattle.version_store.proofs.RisingLaws.{risen}
use Rattle.serial_orders.proofs.writers.count_seen.Goals as goal

pub returns-clause-cut : goal.returns-clause-cut
returns-clause-cut c =
    IsPartitionPoint-from_clause (λ (m : ℕ). leb m c.args.start) c.args.numbers.now _ c.partition_point.ensures.partitioned
    (IsPartitionedBy-leb (λ (m : ℕ). m) c.args.numbers.now c.args.start (risen (λ (m : ℕ). m) 0 c.args.numbers.now c.requires)) (λ a r f k. search rules)
