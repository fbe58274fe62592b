-- What is told of the questions of accesses in parts.
use Rattle.std.specs.Prelude.{List, IfOk}
use Rattle.std.specs.List.{flat_map}
use Rattle.prog_check.specs.declared.path.Path.{Path}
use Rattle.prog_paths.specs.declared.accesses.places.Placed.{Placed}
use Rattle.prog_paths.specs.Questions.{asked_among}
use Rattle.robust_cert.specs.declared.entries.Reason.{Reason}
use Rattle.si_repair.specs.declared.entries.ToldPart.{ToldPart}
use Rattle.si_repair.specs.Certificates.{IsToldOf}

-- the accesses of all parts
abbrev pub firsts_in : List ToldPart → List Placed
firsts_in = flat_map (λ part. part.firsts.now)

-- what the accesses of a part ask of these is told, if memory did not run out
abbrev pub IsPartTold : List Path → List Reason → List Placed → ToldPart → Type 0
IsPartTold paths reasons places part =
    IfOk part.told (λ told. IsToldOf paths reasons (asked_among part.firsts.now places) told.items)
