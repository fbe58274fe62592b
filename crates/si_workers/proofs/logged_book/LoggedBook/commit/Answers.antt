use Rattle.si_workers.proofs.KnownLaws.{states-kept-by-commit}
use Rattle.si_workers.proofs.logged_book.LoggedBook.commit.Goals as goal

pub invariant_of-self-2 : goal.invariant_of-self-2
invariant_of-self-2 g c =
    states-kept-by-commit c.prepare_looks.new.self c.commit_found-answer.new.self c.args.ticket c.args.run c.commit_found-answer.result c.self.inside.front
    c.commit_found-answer.ensures.ok c.commit_found-answer.ensures.err (rw c.prepare_looks.ensures c.self.invariant)
