use Rattle.std.proofs.Common.{◌≡◌, ◌≤◌, ◌++◌, drop, length, vec_len, vec_capacity}
use Rattle.std.specs.List.{zip}
use Rattle.prog_tree.specs.Tree.{draft_tree}
use Rattle.si_engine.specs.Headline.{commits_said}
use Rattle.si_engine.specs.Machine.{machine_after, replies_of}
use Rattle.si_engine.proofs.robust.run.apply_events.Given as goal

-- what is kept so far, and what the events that are left give, are the whole, and each reply has room
abbrev pub invariant-loop-event : goal.invariant-loop-event
invariant-loop-event l =
    let set = draft_tree l.fn.engine.set in
    let opening = l.fn.engine.opening in
    let later = drop l.event-index l.events in
    let all_replies = replies_of set opening l.events l.fn.engine.machine in
    let replies_later = replies_of set opening later l.engine.machine in
    record {
      same_set : l.engine.set ≡ l.fn.engine.set;
      same_opening : l.engine.opening ≡ l.fn.engine.opening;
      after : machine_after set opening later l.engine.machine ≡ machine_after set opening l.events l.fn.engine.machine;
      replies : all_replies ≡ l.replies.items ++ replies_later;
      committed : commits_said (zip l.events all_replies)
          ≡ l.committed.items ++ commits_said (zip later replies_later);
      one_each : vec_len l.replies ≡ l.event-index;
      room : length l.events ≤ vec_capacity l.replies;
    }
