use Rattle.std.proofs.Common.{arith}
use Rattle.si_engine.proofs.EngineLaws.{applied, is_active, still_within, engine-stepped, step_applies}
use Rattle.si_engine.proofs.engine.Engine.step.Goals as goal

pub step-after-requires : goal.step-after-requires
step-after-requires c =
    let e = c.self.inside in
    is_active e.book e.begun.items c.self.invariant c.args.number c.in-Ok.active c.in-Ok.ensures.found

pub index_mut-requires : goal.index_mut-requires
index_mut-requires c =
    let e = c.self.inside in
    let within = still_within e.book e.begun.items c.self.invariant c.args.number c.in-Ok.active c.in-Ok.ensures.found _ c.in-Ok.ensures.taken in
    omega (arith, within, c.take_active.new.begun.ok.0)

pub invariant_of-self-2 : goal.invariant_of-self-2
invariant_of-self-2 c =
    let e = c.self.inside in
    engine-stepped e.book e.begun.items c.self.invariant c.args.number c.in-Ok.active c.in-Ok.ensures.found _ c.in-Ok.ensures.taken
    c.step-after.new.book c.step-after.result.0 c.step-after.ensures.after

pub returns : goal.returns
returns c =
    let e = c.self.inside in
    applied c.self.view_is
    (step_applies e.book e.begun.items c.self.invariant c.args.number c.in-Ok.active c.in-Ok.ensures.found _ c.in-Ok.ensures.taken
    c.step-after.new.book c.step-after.result.0 c.step-after.result.1 c.step-after.ensures.after c.step-after.ensures.step c.step-after.ensures.err)
