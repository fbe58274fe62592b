use Rattle.clap.specs.Words.{kind_of}
use Rattle.si_engine.proofs.RunLaws.{writes_just}
use Rattle.sirob.specs.declared.status.Status.TheVariants as status
use Rattle.sirob.specs.Output.{memory_line}
use Rattle.sirob.specs.Program.{IsModeless, told, untold}
use Rattle.sirob.proofs.program.show.Goals as goal

pub returns-in-Ok : goal.returns-in-Ok
returns-in-Ok g c =
    let kind = kind_of c.args.error.now in
    let text = c.as_bytes.result.now in
    writes_just status.Faulty (IsModeless kind) text status.Done _ _ _ _ (told kind c.requires text) c.write_last.ensures

pub returns-in-Err : goal.returns-in-Err
returns-in-Err g c =
    let kind = kind_of c.args.error.now in
    writes_just status.Faulty (IsModeless kind) memory_line status.Memory _ _ _ _ (untold kind c.requires) c.tell_memory.ensures
