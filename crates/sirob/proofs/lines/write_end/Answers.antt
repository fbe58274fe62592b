use Rattle.std.proofs.Common.{[], sym, subst}
use Rattle.si_engine.proofs.RunLaws.{writes_just}
use Rattle.sirob.specs.declared.status.Status.TheVariants as status
use Rattle.sirob.specs.Stops.{Ends, well}
use Rattle.sirob.proofs.lines.write_end.Goals as goal

pub returns-in-Ok : goal.returns-in-Ok
returns-in-Ok g c =
    let end = c.in-Ok.status in
    writes_just status.Faulty (Ends c.args.ended) [] end _ _ _ _ (subst (λ ended. Ends ended [] end) (sym c.in-Ok.is) (well end)) c.write_last.ensures
