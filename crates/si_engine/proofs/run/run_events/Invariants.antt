use Rattle.std.proofs.Common.{◌≡◌, false, List, ℕ, length, ◌++◌, string_bytes}
use Rattle.prog_tree.specs.Tree.{draft_tree}
use Rattle.si_engine.specs.Machine.{machine_after}
use Rattle.si_engine.specs.Runs.{event_lines, AddsLines}
use Rattle.si_engine.specs.Writing.{IsUnderWay}
use Rattle.si_engine.proofs.run.run_events.Given as goal

-- the lines so far, and those of the events that are left, are all lines; the text of those so far is under way
abbrev pub invariant-loop-next : goal.invariant-loop-next
invariant-loop-next g l = record {
  same_set : l.engine.set ≡ l.fn.engine.set;
  same_opening : l.engine.opening ≡ l.fn.engine.opening;
  after : machine_after (draft_tree l.set) l.fn.engine.opening l.rest l.engine.machine
      ≡ machine_after (draft_tree l.set) l.fn.engine.opening l.events l.fn.engine.machine;
  done : List (List ℕ);
  lines : event_lines (draft_tree l.set) l.fn.engine.opening l.events l.fn.engine.machine
      ≡ done ++ event_lines (draft_tree l.set) l.fn.engine.opening l.rest l.engine.machine;
  text : List ℕ;
  added : AddsLines done (string_bytes l.fn.out) text;
  under_way : IsUnderWay (string_bytes l.out) (g.K.Sink.taken l.fn.sink) (g.K.Sink.taken l.sink) text;
  working : g.K.Sink.has_failed l.sink ≡ false;
}

-- each turn leaves fewer events
abbrev pub decreases-loop-next : goal.decreases-loop-next
decreases-loop-next g l = length l.rest
