-- Rows whose instances are run again, on the newest state.
use Rattle.std.specs.Prelude.{◌≡◌, length}
use Rattle.prog_tree.specs.declared.deed.End.TheVariants.{Ready}
use Rattle.prog_tree.specs.Evaluation.{Evaluation}
use Rattle.prog_tree.specs.Table.{TableState}
use Rattle.prog_tree.specs.Tree.{draft_tree}
use Rattle.history_book.specs.History.{eval_of}
use Rattle.history_book.specs.View.{BookView, instance_of, state_in}
use Rattle.history_book.specs.declared.instances.row.HistoryRow.{HistoryRow}

-- the state after all commits
abbrev pub newest_state : BookView → TableState
newest_state v = state_in v (length v.rows)

-- what a row's instance does on the newest state
abbrev pub done_again : BookView → HistoryRow → Evaluation
done_again v row = eval_of (draft_tree v.set) (instance_of row) (newest_state v)

-- it is ready there too, with the row's replies
abbrev pub IsSameAgain : BookView → HistoryRow → Type 0
IsSameAgain v row =
    ((done_again v row).ending ≡ Ready) × ((done_again v row).replies ≡ row.replies)

-- the row of the same instance, begun as the newest
abbrev pub begun_again : BookView → HistoryRow → HistoryRow
begun_again v row = record row { start = length v.rows }
