use Rattle.std.proofs.Common.{◌≡◌, refl, ap, sym, subst, ◌∙◌}
use Rattle.std.specs.Prelude.{IsTrue, ◌↔◌}
use Rattle.prog_tree.specs.Tree.{draft_tree}
use Rattle.history_book.specs.History.{IsCalled}
use Rattle.history_book.specs.View.{instance_of}
use Rattle.history_book.specs.declared.instances.row.HistoryRow.{HistoryRow}
use Rattle.history_book.proofs.RepeatLaws.{came_again, not_ready_again, other_replies_again, same_again, commits_again}
use Rattle.history_book.proofs.book.Book.repeat.Goals as goal

pub replay-requires-clause-called : goal.replay-requires-clause-called
replay-requires-clause-called c =
    subst (λ (r : HistoryRow). IsCalled (draft_tree c.args.self.now.set) (instance_of r)) (sym c.in_ok-row.ensures.row) c.requires.called

pub returns-then-not-is_ready-clause-same : goal.returns-then-not-is_ready-clause-same
returns-then-not-is_ready-clause-same c =
    let came = came_again c.args.self.now c.args.row.now c.in_ok-row.row _ c.in_ok-row.ensures.row c.in_ok-run.ensures in
    not_ready_again c.args.self.now c.args.row.now _ _ came c.is_ready.ensures.ready c.if-not-is_ready.true

pub returns-then-not-same_numbers-clause-same : goal.returns-then-not-same_numbers-clause-same
returns-then-not-same_numbers-clause-same c =
    let came = came_again c.args.self.now c.args.row.now c.in_ok-row.row _ c.in_ok-row.ensures.row c.in_ok-run.ensures in
    let theirs = c.as_slice.ensures ∙ ap (λ (r : HistoryRow). r.replies) c.in_ok-row.ensures.row in
    let tells : IsTrue c.same_numbers.result ↔ (c.in_ok-run.run'.replies ≡ c.args.row.now.replies) = (
      λ (h : IsTrue c.same_numbers.result). sym c.replies.ensures ∙ c.same_numbers.ensures.0 h ∙ theirs,
      λ (same : c.in_ok-run.run'.replies ≡ c.args.row.now.replies). c.same_numbers.ensures.1 (c.replies.ensures ∙ same ∙ sym theirs),
    ) in
    other_replies_again c.args.self.now c.args.row.now c.in_ok-run.run' c.same_numbers.result came tells c.if-not-same_numbers.true

pub take_up-requires-clause-commit : goal.take_up-requires-clause-commit
take_up-requires-clause-commit c =
    let ends = c.is_ready.ensures.ready.0 c.if-not-is_ready.false in
    let replies = sym c.replies.ensures ∙ c.same_numbers.ensures.0 c.if-not-same_numbers.false ∙ c.as_slice.ensures in
    commits_again c.args.self.now c.args.row.now c.in_ok-row.row c.in_ok-run.run' c.in_ok-row.ensures.row c.in_ok-run.ensures c.requires.called ends replies

pub returns-clause-same : goal.returns-clause-same
returns-clause-same c =
    let came = came_again c.args.self.now c.args.row.now c.in_ok-row.row _ c.in_ok-row.ensures.row c.in_ok-run.ensures in
    let ends = c.is_ready.ensures.ready.0 c.if-not-is_ready.false in
    let replies = sym c.replies.ensures ∙ c.same_numbers.ensures.0 c.if-not-same_numbers.false ∙ c.as_slice.ensures ∙ ap (λ (r : HistoryRow). r.replies) c.in_ok-row.ensures.row in
    (λ _. same_again c.args.self.now c.args.row.now c.in_ok-run.run' came ends replies, λ _. refl)
