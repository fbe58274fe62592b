-- Why one commit has to stand before another.
use Rattle.std.specs.Prelude.{◌≡◌, ◌≢◌, ℕ, ◌<◌, ◌≤◌, nat_lt, nat_le, ◌==◌, Bool, true, ◌&&◌, ◌||◌, List, Contains, find, Option, None, option_map, option_and_then, if◌then◌else◌}
use Rattle.std.specs.Option.{option_or}
use Rattle.prog_tree.specs.declared.cell.Cell.{Cell}
use Rattle.prog_tree.specs.declared.cell.Region.{Region}
use Rattle.serial_orders.specs.TraceView.{TraceView}
use Rattle.serial_orders.specs.Traces.{takes_in, looked_at, changed_at, trace_at}
use Rattle.serial_orders.specs.declared.trace.Sight.{Sight}
use Rattle.serial_orders.specs.declared.trace.Sight.TheVariants as sight
use Rattle.serial_orders.specs.declared.reason.OrderReason.{OrderReason}
use Rattle.serial_orders.specs.declared.reason.OrderReason.TheVariants as reason

-- the commit changed the cell
abbrev pub Changed : TraceView → Cell → Type 0
Changed t c = changed_at t c ≡ true

-- it looked at the cell, alone or in a region
abbrev pub Looked : TraceView → Cell → Type 0
Looked t c = looked_at t c ≡ true

-- it looked at this very cell
abbrev pub LookedAlone : TraceView → Cell → Type 0
LookedAlone t c = Contains t.looked (sight.One c)

-- it looked at this very region, and that look takes the cell in
abbrev pub LookedIn : TraceView → Region → Cell → Type 0
LookedIn t region c =
    (own : List Cell) × Contains t.looked (sight.Range region own) × (takes_in (sight.Range region own) c ≡ true)

-- what two commits with these numbers did to a cell puts the first of them before the second
abbrev pub PutsBefore : (i j : ℕ) → (first second : TraceView) → OrderReason → Type 0
PutsBefore i j first second (reason.Both c) = (i < j) × Changed first c × Changed second c
PutsBefore i j first second (reason.Saw c) = (i ≤ second.start) × Changed first c × Looked second c
PutsBefore i j first second (reason.Missed c) = (first.start < j) × LookedAlone first c × Changed second c
PutsBefore i j first second (reason.MissedIn region c) = (first.start < j) × LookedIn first region c × Changed second c

-- why the first of two different commits has to stand before the second
abbrev pub IsReason : List TraceView → (i j : ℕ) → OrderReason → Type 0
IsReason traces i j r = (i ≢ j) × PutsBefore i j (trace_at traces i) (trace_at traces j) r

-- ---- which reason is told, where there are several

-- a cell that the first changed puts it before the second, which changed it later or saw the change
abbrev pub changed_before : (i j : ℕ) → (second : TraceView) → Cell → Bool
changed_before i j second c = (nat_lt i j && changed_at second c) || (nat_le i second.start && looked_at second c)

-- the reason that is told for such a cell
abbrev pub change_reason : (i j : ℕ) → (second : TraceView) → Cell → OrderReason
change_reason i j second c = if nat_lt i j && changed_at second c then reason.Both c else reason.Saw c

-- the reason for the first such cell
abbrev pub by_change : (i j : ℕ) → (first second : TraceView) → Option OrderReason
by_change i j first second = option_map (change_reason i j second) (find (changed_before i j second) first.changed)

-- the reason that is told for a look that takes in a cell whose change it missed
abbrev pub missed_by : Sight → Cell → OrderReason
missed_by (sight.One looked) c = reason.Missed c
missed_by (sight.Range region own) c = reason.MissedIn region c

-- the reason for the first look that takes in a cell
abbrev pub missed_at : TraceView → Cell → Option OrderReason
missed_at t c = option_map (λ s. missed_by s c) (find (λ s. takes_in s c) t.looked)

-- the reason for the first cell that the second changed and the first looked at, where the first missed the change
abbrev pub by_look : (j : ℕ) → (first second : TraceView) → Option OrderReason
by_look j first second =
    if nat_lt first.start j then option_and_then (missed_at first) (find (looked_at first) second.changed) else None

-- of several reasons, one for a change of the first is told before one for its look
abbrev pub told_reason : List TraceView → (i j : ℕ) → Option OrderReason
told_reason traces i j =
    let first = trace_at traces i in
    let second = trace_at traces j in
    if i == j then None else option_or (by_change i j first second) (by_look j first second)
