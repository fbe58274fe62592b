use Rattle.std.proofs.Common.{◌≡◌, ◌++◌, replicate}
use Rattle.si_engine.specs.declared.event.Event.TheVariants as e
use Rattle.si_engine.proofs.input.script.Script.push_steps.Given as goal

-- one event for each turn stands behind the events that there were
abbrev pub invariant-loop-turn : goal.invariant-loop-turn
invariant-loop-turn l = record {
  rows : l.self.rows ≡ l.initial.self.rows;
  events : l.self.events ≡ l.initial.self.events ++ replicate l._turn (e.Step l.instance);
}
