-- What has to stand before what, as lists of numbers.
use Rattle.std.specs.Prelude.{◌≡◌, ℕ, ◌<◌, ◌≤◌, zero, suc, Bool, true, List, [], map, length, slice_index_or}
use Rattle.std.specs.declared.vec.Vec.{Vec}
use Rattle.std.specs.declared.alloc.Global.{Global}
use Rattle.serial_orders.specs.Orders.{is_one_of}

-- the numbers of each list
abbrev pub number_lists : List (Vec ℕ Global) → List (List ℕ)
number_lists lists = map (λ list. list.items) lists

-- the numbers that have to stand behind a number; the first list is that of the number 1
abbrev pub behind : List (List ℕ) → ℕ → List ℕ
behind lists zero = []
behind lists (suc k) = slice_index_or lists k []

-- the first number has to stand before the second
abbrev pub precedes : List (List ℕ) → ℕ → ℕ → Bool
precedes lists i j = is_one_of (behind lists i) j

-- whatever has to stand behind a number is one of the numbers from 1 on
abbrev pub HasCommitsAlone : List (List ℕ) → Type 0
HasCommitsAlone lists = (i j : ℕ) → precedes lists i j ≡ true → (0 < j) × (j ≤ length lists)
