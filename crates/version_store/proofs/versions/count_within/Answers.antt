use Rattle.std.proofs.Common.{ℕ, leb, rules}
use Rattle.std.specs.Prelude.{ℤ, Option}
use Rattle.std.proofs.lemmas.List.Sorted.{IsPartitionedBy-leb, IsPartitionPoint-from_clause}
use Rattle.version_store.specs.Reading.{version_number}
use Rattle.version_store.proofs.RisingLaws.{risen}
use Rattle.version_store.proofs.versions.count_within.Goals as goal

pub returns-clause-cut : goal.returns-clause-cut
returns-clause-cut c = λ rises.
    IsPartitionPoint-from_clause (λ (v : ℕ × Option ℤ). leb v.0 c.args.number) c.args.versions.now _ c.partition_point.ensures.partitioned
    (IsPartitionedBy-leb version_number c.args.versions.now c.args.number (risen version_number 0 c.args.versions.now rises)) (λ a r f k. search rules)
