use Rattle.std.proofs.Common.{leb, rules}
use Rattle.std.proofs.lemmas.List.Sorted.{IsPartitionedBy-leb, IsPartitionPoint-from_clause}
use Rattle.prog_paths.specs.declared.accesses.places.Placed.{Placed}
use Rattle.prog_paths.proofs.accesses.changers.count_through.Goals as goal

pub returns-clause-cut : goal.returns-clause-cut
returns-clause-cut c = λ by_table.
    IsPartitionPoint-from_clause (λ (p : Placed). leb p.access.table c.args.table) c.args.places.now _ c.partition_point.ensures.partitioned
    (IsPartitionedBy-leb (λ (p : Placed). p.access.table) c.args.places.now c.args.table by_table) (λ a r f k. search rules)
