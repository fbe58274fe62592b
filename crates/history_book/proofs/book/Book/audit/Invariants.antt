use Rattle.std.proofs.Common.{◌≡◌, ◌++◌, []}
use Rattle.prog_tree.specs.Tree.{draft_tree}
use Rattle.history_book.specs.Audit.{audited, AreRightBehind}
use Rattle.history_book.proofs.book.Book.audit.Given as goal

abbrev pub invariant-loop-row : goal.invariant-loop-row
invariant-loop-row l =
    (l.yielded ++ l.row-iterator.rest.items ≡ l.fn.rows.items)
    × (l.book ≡ audited l.fn.set l.fn.opening l.yielded)
    × AreRightBehind (draft_tree l.fn.set) l.fn.opening [] l.yielded
