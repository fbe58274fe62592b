-- What a contract sees of a pass and of a counter.
use Rattle.std.specs.Prelude.{ℕ, List}
use Rattle.atomic_table.specs.Seated.{TableId}
use Rattle.job_counter.specs.declared.Counter.{Counter}
use Rattle.job_counter.specs.declared.Pass.{Pass}
use Rattle.job_counter.specs.declared.holding.Holding.{Holding}

-- the counter that a pass draws from
abbrev pub counter_of : Pass → TableId
counter_of p = p.seat.table_id

-- what a pass holds
abbrev pub holding_of : Pass → Holding
holding_of p = p.seat.me.0

-- how many numbers the pass may still draw
abbrev pub left_of : Pass → ℕ
left_of p = (holding_of p).left

-- the numbers that the pass drew, and those of the passes that were joined to it
abbrev pub numbers_of : Pass → List ℕ
numbers_of p = (holding_of p).numbers

-- the counter's own name, which its passes know
abbrev pub name_of : Counter → TableId
name_of c = c.table.shared.table_id

-- how many numbers may be drawn from the counter in all
abbrev pub budget_of : Counter → ℕ
budget_of c = c.table.shared.key
