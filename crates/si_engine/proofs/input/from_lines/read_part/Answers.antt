use Rattle.std.proofs.Common.{◌≤◌, length, Err, ap, arith}
use Rattle.std.proofs.lemmas.Result.{err_from_is_err_and}
use Rattle.prog_tree.specs.Tree.{draft_tree}
use Rattle.si_engine.specs.Limits.{input_limit}
use Rattle.si_engine.specs.Sayings.{made_of}
use Rattle.si_engine.proofs.SayingLemmas.{unread_part, fault_here}
use Rattle.si_engine.proofs.input.from_lines.read_part.Goals as goal

pub returns-in_err-part-clause-fault : goal.returns-in_err-part-clause-fault
returns-in_err-part-clause-fault g c =
    let exit = err_from_is_err_and c.from_residual.result c.from_residual.ensures.1 in
    let read = c.in_err-part.ensures in
    rw (exit.1, exit.2)
    (unread_part (made_of (g.W.FromLines.says (draft_tree c.args.set.now)) g.W.FromLines.wrong g.W.FromLines.whole) c.in_err-part.field-0.0 (g.S.Source.left c.args.source.now) (g.S.Source.has_failed c.read_whole.new.source)
    (λ e. read.long (ap Err e)) (λ e. read.fault.0 (ap Err e)))

pub returns-in_err-read_lines-clause-fault : goal.returns-in_err-read_lines-clause-fault
returns-in_err-read_lines-clause-fault g c =
    let exit = err_from_is_err_and c.from_residual-in_err-read_lines.result c.from_residual-in_err-read_lines.ensures.1 in
    let read = c.in_ok-part.ensures in
    let short : length c.in_ok-part.part.items ≤ input_limit = omega (arith, read.short) in
    rw (exit.1, exit.2)
    (λ works. fault_here (made_of (g.W.FromLines.says (draft_tree c.args.set.now)) g.W.FromLines.wrong g.W.FromLines.whole) (g.S.Source.left c.args.source.now) c.in_ok-part.part.items c.deref.result.now c.in_err-read_lines.field-0.0
    c.deref.ensures.value short read.whole c.in_err-read_lines.ensures)
