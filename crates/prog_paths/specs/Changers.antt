-- The accesses that change a table.
use Rattle.std.specs.Prelude.{ℕ, List, Bool, true, false, ◌&&◌, ◌==◌}
use Rattle.std.specs.List.{filter}
use Rattle.std.specs.List.Sorted.{IsNonDecreasingBy}
use Rattle.prog_check.specs.declared.path.Kind.{Kind}
use Rattle.prog_check.specs.declared.path.Kind.TheVariants.{Writes, Adds}
use Rattle.prog_paths.specs.declared.accesses.places.Placed.{Placed}

-- an access of the kind changes rows that others may ask about
abbrev pub changes : Kind → Bool
changes Writes = true
changes Adds = true
changes _ = false

-- the accesses of a table that change it, in their order
abbrev pub changers_of : ℕ → List Placed → List Placed
changers_of table places = filter (λ p. (p.access.table == table) && changes p.access.kind) places

-- they stand by table
abbrev pub AreByTable : List Placed → Type 0
AreByTable places = IsNonDecreasingBy (λ p. p.access.table) places
