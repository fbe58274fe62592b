-- How an order is found: what each number waits for, and where none is free.
use Rattle.std.specs.Prelude.{◌≡◌, ◌≢◌, ℕ, ◌+◌, ◌-◌, ◌<◌, ◌≤◌, ◌==◌, Bool, true, List, [], ◌∷◌, ◌++◌, length, slice_index, if◌then◌else◌, filter}
use Rattle.std.specs.List.{range_with_len}
use Rattle.serial_orders.specs.declared.order.OrderFault.{OrderFault}
use Rattle.serial_orders.specs.declared.order.OrderFault.TheVariants.{Cycle, Memory}
use Rattle.serial_orders.specs.Orders.{is_one_of, LeadsTo, IsCycle}
use Rattle.serial_orders.specs.Precedence.{precedes}

-- how many times a number stands among others
abbrev pub times : ℕ → List ℕ → ℕ
times n [] = 0
times n (m ∷ ms) = (if m == n then 1 else 0) + times n ms

-- for how many a number waits: how many times it stands behind a number that is not placed, the first list being that
-- of the number k
abbrev pub waits_from : (k : ℕ) → List (List ℕ) → (placed : List ℕ) → ℕ → ℕ
waits_from k [] placed n = 0
waits_from k (list ∷ lists) placed n =
    (if is_one_of placed k then 0 else times n list) + waits_from (k + 1) lists placed n

-- for each number from 0 on, for how many it waits
pub record AreWaits (lists : List (List ℕ)) (placed waits : List ℕ) : Type 0 where
  pub long : length waits ≡ length lists + 1
  pub each : (n : ℕ) → n < length waits → slice_index waits n ≡ waits_from 1 lists placed n

-- the numbers from k on that wait for none, as they rise
abbrev pub free_from : (waits : List ℕ) → (k : ℕ) → List ℕ
free_from waits k = filter (λ n. slice_index waits n == 0) (range_with_len k (length waits - k))

-- the number is the first from one on that waits for none
pub record IsNextFree (waits : List ℕ) (from n : ℕ) : Type 0 where
  pub from_on : from ≤ n
  pub within : n < length waits
  pub first : free_from waits from ≡ n ∷ free_from waits (n + 1)

-- the numbers that are free: those that were passed over, and those from the next on that wait for none
abbrev pub all_free : (passed waits : List ℕ) → (next : ℕ) → List ℕ
all_free passed waits next = passed ++ free_from waits next

-- all numbers of a list are less than a bound
abbrev pub AreBelow : (bound : ℕ) → List ℕ → Type 0
AreBelow bound numbers = (n : ℕ) → is_one_of numbers n ≡ true → n < bound

-- the number is the first of the list and less than all others
pub record IsLeastFirst (list others : List ℕ) (n : ℕ) : Type 0 where
  pub first : list ≡ n ∷ others
  pub less : (m : ℕ) → is_one_of others m ≡ true → n < m

-- a number waits for others
abbrev pub HasToWait : (waits : List ℕ) → ℕ → Type 0
HasToWait waits n = slice_index waits n ≢ 0

-- a number that waits has to stand before another
abbrev pub WaitsBefore : List (List ℕ) → (waits : List ℕ) → (leader n : ℕ) → Type 0
WaitsBefore lists waits leader n = (precedes lists leader n ≡ true) × HasToWait waits leader

-- each number that waits does so for one that waits too, and there is one
pub record IsStuck (lists : List (List ℕ)) (waits : List ℕ) : Type 0 where
  pub long : length waits ≡ length lists + 1
  pub waiting : (n : ℕ) × (n < length waits) × HasToWait waits n
  pub for_one : (n : ℕ) → n < length waits → HasToWait waits n → (i : ℕ) × WaitsBefore lists waits i n

-- a leader of the number is known
abbrev pub HasLeader : (leaders : List ℕ) → ℕ → Type 0
HasLeader leaders n = slice_index leaders n ≢ 0

-- for each number from 0 on, one that waits and has to stand before it; 0 where there is none
pub record AreLeaders (lists : List (List ℕ)) (waits leaders : List ℕ) : Type 0 where
  pub long : length leaders ≡ length lists + 1
  pub leads : (n : ℕ) → HasLeader leaders n → WaitsBefore lists waits (slice_index leaders n) n
  pub whole : (i n : ℕ) → precedes lists i n ≡ true → HasToWait waits i → HasLeader leaders n

-- each leader has to stand before what it leads
abbrev pub IsLed : (before : ℕ → ℕ → Bool) → (leaders : List ℕ) → Type 0
IsLed before leaders = (n : ℕ) → HasLeader leaders n → before (slice_index leaders n) n ≡ true

-- each has to stand behind the next, and the last behind `end`, which is one of them; none stands twice
pub record IsWalk (before : ℕ → ℕ → Bool) (numbers : List ℕ) (end : ℕ) : Type 0 where
  pub leads : LeadsTo (λ i j. before j i) numbers end
  pub once : (n : ℕ) → times n numbers ≤ 1
  pub again : is_one_of numbers end ≡ true

-- the cycle is one, or there was no memory
abbrev pub IsOrderFault : (before : ℕ → ℕ → Bool) → OrderFault → Type 0
IsOrderFault before (Cycle list) = IsCycle before list.items
IsOrderFault before Memory = Unit {0}
