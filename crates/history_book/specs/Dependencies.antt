-- Dependencies between the instances of a history, as tests, which compute.
use Rattle.std.specs.Prelude.{ℕ, Bool, is_some, List, Option}
use Rattle.std.specs.List.{list_any}
use Rattle.std.specs.Option.{option_map_or}
use Rattle.prog_tree.specs.declared.cell.Cell.{Cell}
use Rattle.prog_tree.specs.ChangeSet.{ChangedCells, change_at}
use Rattle.prog_tree.specs.Evaluation.{Evaluation}
use Rattle.prog_tree.specs.LookedAt.{has_looked}
use Rattle.prog_tree.specs.Syntax.{DraftTree}
use Rattle.prog_tree.specs.Table.{TableState}
use Rattle.history_book.specs.History.{Instance, nothing, eval_of, nth_instance, state_after}
use Rattle.serial_orders.specs.DependsBy.{Part, changes_again_by, sees_change_by, misses_change_by, depends_by}

-- what an instance, if there is one, does on a table state
abbrev pub run_found : DraftTree → Option Instance → TableState → Evaluation
run_found set found m = option_map_or (λ (i : Instance). eval_of set i m) found nothing

-- how many commits an instance sees, if there is one
abbrev pub start_found : Option Instance → ℕ
start_found found = option_map_or (λ (i : Instance). i.start) found 0

-- how many commits the instance of a number sees
abbrev pub start_at : List Instance → ℕ → ℕ
start_at h n = start_found (nth_instance h n)

-- some changed cell passes a test
abbrev pub changes_some : (Cell → Bool) → ChangedCells → Bool
changes_some p changes = list_any (λ e. p e.0) changes

module _ (set : DraftTree) (opening : TableState) (h : List Instance) where
  -- what the instance of a number did on the state that it saw
  abbrev pub evaluation_at : ℕ → Evaluation
  evaluation_at n = run_found set (nth_instance h n) (state_after set opening h (start_at h n))

  -- its part in the order of commits
  abbrev pub part_at : ℕ → Part
  part_at n =
      record {
        start = start_at h n;
        changes = λ c. is_some (change_at (evaluation_at n).changes c);
        looks = has_looked (evaluation_at n);
        changes_some = λ p. changes_some p (evaluation_at n).changes.cells;
      }

  abbrev pub write_write : ℕ → ℕ → Bool
  write_write i j = changes_again_by part_at i j

  abbrev pub write_read : ℕ → ℕ → Bool
  write_read i j = sees_change_by part_at i j

  abbrev pub read_write : ℕ → ℕ → Bool
  read_write i j = misses_change_by part_at i j

  abbrev pub depends : ℕ → ℕ → Bool
  depends i j = depends_by part_at i j
