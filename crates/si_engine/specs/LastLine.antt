-- The last line of a run or an audit: a serial order of the commits, or a cycle of them.
use Rattle.std.specs.Prelude.{◌≡◌, ℕ, List, ◌++◌, length, codes, Some}
use Rattle.std.specs.Fmt.{decimal}
use Rattle.std.specs.List.{flat_map}
use Rattle.prog_tree.specs.Syntax.{DraftTree}
use Rattle.prog_tree.specs.Table.{TableState}
use Rattle.history_book.specs.Dependencies.{depends}
use Rattle.history_book.specs.History.{Instance}
use Rattle.serial_orders.specs.Orders.{least_order, IsCycle}
use Rattle.history_book.specs.Serial.{Fits}
use Rattle.si_engine.specs.declared.output.finding.Serializability.{Serializability}
use Rattle.si_engine.specs.declared.output.finding.Serializability.TheVariants.{Order, Cycle}

-- numbers, each behind a space
abbrev pub spaced_numbers : List ℕ → List ℕ
spaced_numbers numbers = flat_map (λ n. codes " " ++ decimal n) numbers

-- `order 2 1` or `cycle 1 2`; `order` alone where nothing was committed
abbrev pub last_line : Serializability → List ℕ → List ℕ
last_line Order numbers = codes "order" ++ (spaced_numbers numbers ++ codes "\n")
last_line Cycle numbers = codes "cycle" ++ (spaced_numbers numbers ++ codes "\n")

-- the least serial order of a history, along which its instances, one after another, give their replies and leave its
-- rows; or a cycle of its commits
abbrev pub IsFinding : DraftTree → TableState → List Instance → Serializability → List ℕ → Type 0
IsFinding set opening h Order numbers =
    (least_order (depends set opening h) (length h) ≡ Some numbers) × Fits set opening h numbers
IsFinding set opening h Cycle numbers = IsCycle (depends set opening h) numbers

-- the last line after a history
abbrev pub IsLastLine : DraftTree → TableState → List Instance → Serializability → List ℕ → Type 0
IsLastLine set opening h finding line =
    (numbers : List ℕ) × IsFinding set opening h finding numbers × (line ≡ last_line finding numbers)
