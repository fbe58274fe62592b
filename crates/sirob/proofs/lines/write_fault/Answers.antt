use Rattle.std.proofs.Common.{Err, ◌∙◌, sym, subst}
use Rattle.si_engine.proofs.RunLaws.{writes_just}
use Rattle.sirob.specs.declared.status.Status.TheVariants as status
use Rattle.sirob.specs.Output.{memory_line}
use Rattle.sirob.specs.Stops.{Ends, in_fault, in_memory}
use Rattle.sirob.proofs.lines.write_fault.Goals as goal

pub returns-then-is_memory : goal.returns-then-is_memory
returns-then-is_memory g c =
    let f = c.args.fault in
    writes_just status.Faulty (Ends (Err f)) memory_line status.Memory _ _ _ _ (in_memory f) c.write_last.ensures

pub returns-in-Ok : goal.returns-in-Ok
returns-in-Ok g c =
    let f = c.args.fault in
    let line = c.as_bytes.result.now in
    let same = c.as_bytes.ensures.value ∙ c.in-Ok.ensures in
    let no_memory = sym c.is_memory.ensures ∙ c.if-is_memory.false in
    let ends = subst (λ bytes. Ends (Err f) bytes status.Faulty) (sym same) (in_fault f no_memory) in
    writes_just status.Faulty (Ends (Err f)) line status.Faulty _ _ _ _ ends c.write_last-in-Ok.ensures

pub returns-in-Err : goal.returns-in-Err
returns-in-Err g c =
    let f = c.args.fault in
    writes_just status.Faulty (Ends (Err f)) memory_line status.Memory _ _ _ _ (in_memory f) c.write_last-in-Err.ensures
