use Rattle.std.proofs.Common.{◌+◌, [], ◌∷◌, ◌++◌, ◌∙◌, ap, sym, drop, append_assoc, arith}
use Rattle.std.proofs.lemmas.List.{drop_more}
use Rattle.std.specs.List.{zip}
use Rattle.prog_tree.specs.Tree.{draft_tree}
use Rattle.si_engine.specs.Headline.{commit_in, commits_said}
use Rattle.si_engine.specs.Machine.{machine_step, machine_after, replies_of}
use Rattle.si_engine.proofs.RunLaws.{first_after, first_reply, first_commit}
use Rattle.si_engine.proofs.robust.run.apply_events.Goals as goal

pub push_reserved-requires : goal.push_reserved-requires
push_reserved-requires c = omega (arith, c.loop-event-test.true, c.loop-event.invariant.one_each, c.loop-event.invariant.room)

pub loop-event-preserved : goal.loop-event-preserved
loop-event-preserved c =
    let before = c.loop-event.invariant in
    let set = draft_tree c.args.engine.now.set in
    let opening = c.args.engine.now.opening in
    let event = c.event-item.result in
    let later = drop (c.loop-event.event-index + 1) c.args.events.now in
    let reply = c.in_ok-reply.reply in
    let machine = c.loop-event.engine.machine in
    let next = c.apply.new.self.machine in
    let parts = drop_more c.args.events.now c.loop-event.event-index event c.loop-event-test.true ∙ ap (λ e. e ∷ later) (sym c.event-item.is) in
    let step =
    c.in_ok-reply.ensures.step
    ∙ (ap (λ d. machine_step (draft_tree d) c.loop-event.engine.opening event machine) before.same_set
    ∙ ap (λ o. machine_step set o event machine) before.same_opening) in
    record {
      same_set = c.in_ok-reply.ensures.over.0 ∙ before.same_set;
      same_opening = c.in_ok-reply.ensures.over.1 ∙ before.same_opening;
      after =
          sym (first_after set opening event later machine next reply step)
          ∙ (ap (λ events. machine_after set opening events machine) (sym parts) ∙ before.after);
      replies =
          before.replies
          ∙ (ap (λ events. c.loop-event.replies.items ++ replies_of set opening events machine) parts
          ∙ (ap (λ replies. c.loop-event.replies.items ++ replies) (first_reply set opening event later machine next reply step)
          ∙ (sym (append_assoc c.loop-event.replies.items (reply ∷ []) (replies_of set opening later next))
          ∙ ap (λ items. items ++ replies_of set opening later next) (sym c.push_reserved.ensures.items))));
      committed =
          before.committed
          ∙ (ap (λ events. c.loop-event.committed.items ++ commits_said (zip events (replies_of set opening events machine))) parts
          ∙ (ap (λ more. c.loop-event.committed.items ++ more) (first_commit set opening event later machine next reply step)
          ∙ (sym (append_assoc c.loop-event.committed.items (commit_in (event, reply)) (commits_said (zip later (replies_of set opening later next))))
          ∙ ap (λ items. items ++ commits_said (zip later (replies_of set opening later next))) (sym c.in_ok-note_commit.ensures))));
      one_each = omega (arith, c.push_reserved.ensures.len, c.loop-event.invariant.one_each);
      room = omega (arith, c.push_reserved.ensures.capacity, c.loop-event.invariant.room);
    }
