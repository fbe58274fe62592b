use Rattle.std.proofs.Common.{◌≡◌, ◌++◌, List}
use Rattle.std.specs.Prelude.{All}
use Rattle.prog_check.specs.declared.path.Path.{Path}
use Rattle.prog_paths.specs.declared.accesses.places.Placed.{Placed}
use Rattle.prog_paths.specs.Questions.{asked_among}
use Rattle.robust_cert.specs.declared.entries.Reason.{Reason}
use Rattle.si_repair.specs.Certificates.{IsToldOf}
use Rattle.si_repair.specs.Telling.{IsPartTold, firsts_in}
use Rattle.si_repair.proofs.entries.joined.Given as goal

-- what the parts so far tell is of their accesses
abbrev pub invariant-loop-part : goal.invariant-loop-part
invariant-loop-part l =
    (paths : List Path) (reasons : List Reason) (places : List Placed) → All (IsPartTold paths reasons places) l.fn.parts.items
    → (done : List Placed) × (done ++ firsts_in l.part-iterator.rest.items ≡ firsts_in l.fn.parts.items)
    × All (IsPartTold paths reasons places) l.part-iterator.rest.items
    × IsToldOf paths reasons (asked_among done places) l.told.items
