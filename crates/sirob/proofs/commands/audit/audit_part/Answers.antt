use Rattle.std.proofs.Common.{List, ℕ, Err, sym, subst}
use Rattle.prog_tree.specs.Tree.{draft_tree}
use Rattle.si_engine.proofs.RunLaws.{writes_just}
use Rattle.sirob.specs.declared.command_line.Mode.TheVariants.{Audit}
use Rattle.sirob.specs.Stops.{IsPartDone, write_lost}
use Rattle.sirob.proofs.commands.audit.audit_part.Goals as goal

pub returns : goal.returns
returns g c =
    let set = draft_tree c.args.set.now in
    let part = c.args.part.now in
    let ended = c.push_audit-ended.result in
    let done = subst (λ (lines : List ℕ). IsPartDone Audit set part lines ended) (sym c.as_bytes.ensures.value) c.push_audit-ended.ensures in
    writes_just (Err write_lost) (IsPartDone Audit set part) c.as_bytes.result.now ended _ _ _ _ done c.write_lines.ensures
