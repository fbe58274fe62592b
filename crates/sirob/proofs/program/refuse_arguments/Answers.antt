use Rattle.std.proofs.Common.{◌≡◌, ◌≢◌, [], rules, sym, subst}
use Rattle.std.specs.IoError.{error_kind}
use Rattle.std.specs.declared.io.ErrorKind.TheVariants as kinds
use Rattle.si_engine.proofs.RunLaws.{writes_just}
use Rattle.sirob.specs.declared.status.Status.TheVariants as status
use Rattle.sirob.specs.Output.{memory_line}
use Rattle.sirob.specs.Program.{IsWordless, no_text, stopped}
use Rattle.sirob.proofs.program.refuse_arguments.Goals as goal

pub returns-then-eq : goal.returns-then-eq
returns-then-eq g c =
    let kind = error_kind c.args.error.now in
    let memory : kind ≡ kinds.OutOfMemory = search rules in
    writes_just status.Faulty (IsWordless kind) memory_line status.Memory _ _ _ _ (subst (λ k. IsWordless k memory_line status.Memory) (sym memory) stopped) c.tell_memory.ensures

pub returns : goal.returns
returns g c =
    let kind = error_kind c.args.error.now in
    let memory : kind ≢ kinds.OutOfMemory = search rules in
    writes_just status.Faulty (IsWordless kind) [] status.Faulty _ _ _ _ (no_text kind memory) c.tell_nothing.ensures
