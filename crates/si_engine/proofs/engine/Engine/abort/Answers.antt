use Rattle.si_engine.proofs.EngineLaws.{applied, is_active, abort_without, engine-aborted, abort_applies}
use Rattle.si_engine.proofs.engine.Engine.abort.Goals as goal

pub returns-in-Err : goal.returns-in-Err
returns-in-Err c =
    let e = c.self.inside in
    applied c.self.view_is (abort_without e.book e.begun.items c.self.invariant c.args.number c.in-Err.reply _ c.in-Err.ensures.none c.in-Err.ensures.same)

pub withdraw-requires : goal.withdraw-requires
withdraw-requires c =
    let e = c.self.inside in
    is_active e.book e.begun.items c.self.invariant c.args.number c.in-Ok.active c.in-Ok.ensures.found

pub invariant_of-self : goal.invariant_of-self
invariant_of-self c =
    let e = c.self.inside in
    engine-aborted e.book e.begun.items c.self.invariant c.args.number c.in-Ok.active c.in-Ok.ensures.found _ c.in-Ok.ensures.taken c.withdraw.new.book c.withdraw.ensures

pub returns-in-Ok : goal.returns-in-Ok
returns-in-Ok c =
    let e = c.self.inside in
    applied c.self.view_is
    (abort_applies e.book e.begun.items c.self.invariant c.args.number c.in-Ok.active c.in-Ok.ensures.found _ c.in-Ok.ensures.taken c.withdraw.new.book c.withdraw.ensures)
