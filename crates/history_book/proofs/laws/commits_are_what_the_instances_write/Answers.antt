use Rattle.history_book.proofs.StateLaws.{commits_of-is, state_after-next, IsTableState-state_after}
use Rattle.history_book.proofs.laws.commits_are_what_the_instances_write.Goals as goal

pub returns-clause-commits : goal.returns-clause-commits
returns-clause-commits c = commits_of-is

pub returns-clause-next : goal.returns-clause-next
returns-clause-next c = state_after-next

pub returns-clause-ordered : goal.returns-clause-ordered
returns-clause-ordered c = IsTableState-state_after
