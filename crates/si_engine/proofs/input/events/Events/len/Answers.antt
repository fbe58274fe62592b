use Rattle.std.proofs.Common.{rules}
use Rattle.si_engine.proofs.EventLaws.{one_each}
use Rattle.si_engine.proofs.input.events.Events.len.Goals as goal

pub returns : goal.returns
returns c =
    let counted = one_each c.self.inside.items.items c.self.inside.kept c.self.invariant in
    search rules
