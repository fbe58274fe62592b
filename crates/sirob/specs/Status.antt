-- The program's exit statuses.
use Rattle.std.specs.Prelude.{ℕ}
use Rattle.si_engine.specs.declared.output.finding.Serializability.{Serializability}
use Rattle.si_engine.specs.declared.output.finding.Serializability.TheVariants.{Order, Cycle}
use Rattle.sirob.specs.declared.status.Status.{Status}
use Rattle.sirob.specs.declared.status.Status.TheVariants.{Done, Unserializable, Faulty, Memory}

-- the number that the process ends with
abbrev pub status_number : Status → ℕ
status_number Done = 0
status_number Unserializable = 1
status_number Faulty = 2
status_number Memory = 3

-- the status behind what is found out about a history's commits
abbrev pub status_of : Serializability → Status
status_of Order = Done
status_of Cycle = Unserializable
