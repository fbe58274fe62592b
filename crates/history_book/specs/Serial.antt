-- Serial runs of a history's instances.
use Rattle.std.specs.Prelude.{◌≡◌, ℕ, ◌==◌, Bool, true, ◌&&◌, List, [], ◌∷◌, length}
use Rattle.std.specs.List.{list_all, range_with_len}
use Rattle.prog_tree.specs.declared.deed.End.TheVariants.{Ready}
use Rattle.prog_tree.specs.ChangeSet.{changed}
use Rattle.prog_tree.specs.Evaluation.{Evaluation}
use Rattle.prog_tree.specs.Syntax.{DraftTree}
use Rattle.prog_tree.specs.Table.{TableState}
use Rattle.history_book.specs.Dependencies.{run_found, evaluation_at}
use Rattle.history_book.specs.History.{Instance, nth_instance, state_after}
use Rattle.serial_orders.specs.Orders.{is_one_of}

-- each number from 1 to n stands in the list, once
abbrev pub is_each_once : ℕ → List ℕ → Bool
is_each_once n order = (length order == n) && list_all (is_one_of order) (range_with_len 1 n)

module _ (set : DraftTree) (opening : TableState) (h : List Instance) where
  -- one after another from a state, each on what the one before left: what each does is like what it did in the
  -- history, and the last state is the history's
  abbrev pub RunsAlike : (like : Evaluation → Evaluation → Type 0) → List ℕ → TableState → Type 0
  RunsAlike like [] m = m ≡ state_after set opening h (length h)
  RunsAlike like (n ∷ ns) m =
      let e = run_found set (nth_instance h n) m in
      like e (evaluation_at set opening h n) × RunsAlike like ns (changed m e.changes.cells)

  -- each ends ready, with its replies in the history
  abbrev pub Runs : List ℕ → TableState → Type 0
  Runs order m = RunsAlike (λ e was. (e.ending ≡ Ready) × (e.replies ≡ was.replies)) order m

  -- each does all that it did in the history, and its looks find the same
  abbrev pub RunsTheSame : List ℕ → TableState → Type 0
  RunsTheSame order m = RunsAlike (λ e was. e ≡ was) order m

  -- an equivalent serial order: it has each commit once, and a serial run along it from the opening rows gives the same
  pub record Fits (order : List ℕ) : Type 0 where
    pub once : is_each_once (length h) order ≡ true
    pub runs : Runs order opening
