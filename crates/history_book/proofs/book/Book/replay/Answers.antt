use Rattle.std.proofs.Common.{ap}
use Rattle.history_book.specs.View.{BookView}
use Rattle.history_book.proofs.ReplayLaws.{came_to}
use Rattle.history_book.proofs.book.Book.replay.Goals as goal

pub returns : goal.returns
returns c =
    let ran = c.in_ok-finish.ensures in
    came_to c.args.self.now c.args.row.now _ _ c.in-Ok.run' c.finish.new.run (ap (λ (v : BookView). v.set) c.self.view_is) c.as_slice.ensures c.in-Ok.ensures.begun c.in-Ok.ensures.program
    ran.over ran.found ran.true_run ran.same
