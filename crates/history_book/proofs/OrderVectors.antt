-- Worked examples of dependencies, least orders and serial runs, computed from the definitions.
use Rattle.std.proofs.Common.{◌≡◌, ℕ, [], ◌∷◌, List, refl, true, false, arith}
use Rattle.std.specs.Prelude.{pos, codes, Some, None}
use Rattle.prog_tree.specs.Syntax.{Named, Plus, Minus, BlockTree, BlockEnd, Then, ProgramTree, DraftTree}
use Rattle.prog_tree.specs.Syntax as s
use Rattle.prog_tree.specs.Table.{TableState}
use Rattle.prog_tree.proofs.Vectors.{program_of, plain_table, number, if_less}
use Rattle.prog_tree.proofs.Vectors as tree
use Rattle.history_book.specs.Dependencies.{depends}
use Rattle.history_book.specs.History.{Instance, eval_of}
use Rattle.serial_orders.specs.Orders.{least_order, IsCycle}
use Rattle.history_book.specs.Serial.{is_each_once, Fits}
use Rattle.history_book.proofs.Vectors.{key, registers, call, history, opening}

-- ---- the register set

-- t[1] is set to 5, and then a look commits that began before
abbrev old_snapshot : List Instance
old_snapshot = call 1 (pos 1 ∷ pos 5 ∷ []) 0 ∷ call 0 (pos 1 ∷ []) 0 ∷ []

pub look_comes_first : depends registers [] old_snapshot 2 1 ≡ true
unfolding eval_of
look_comes_first = refl

pub set_does_not : depends registers [] old_snapshot 1 2 ≡ false
unfolding eval_of
set_does_not = refl

pub old_snapshot_comes_first : least_order (depends registers [] old_snapshot) 2 ≡ Some (2 ∷ 1 ∷ [])
unfolding eval_of
old_snapshot_comes_first = refl

pub it_fits_first : Fits registers [] old_snapshot (2 ∷ 1 ∷ [])
unfolding eval_of
it_fits_first = record { once = refl; runs = ((refl, refl), ((refl, refl), refl)) }

-- behind the set the look would find 5
pub it_fits_not_in_commit_order : Fits registers [] old_snapshot (1 ∷ 2 ∷ []) → ⊥
unfolding eval_of
it_fits_not_in_commit_order fits = let replies = fits.runs.1.0.1 in absurd (cc)

-- a look that began after the first of three sets comes right behind that one
pub old_look_comes_second : least_order (depends registers opening history) 5 ≡ Some (1 ∷ 4 ∷ 2 ∷ 3 ∷ 5 ∷ [])
unfolding eval_of
old_look_comes_second = refl

-- ---- a look at a region, and a kept cell

-- `Size()` replies how many rows t[1..2] has, and `Hold(k)` keeps t[k]
abbrev more_registers : DraftTree
more_registers = record registers {
  programs =
      program_of [] (Then (s.Count (codes "n") (codes "t") (s.OneRange (number 1) (number 2))) (Then (s.Reply (Named (codes "n"))) BlockEnd))
      ∷ program_of (codes "k" ∷ codes "v" ∷ []) (Then (s.Put (codes "t") (key (codes "k")) (Named (codes "v"))) BlockEnd)
      ∷ program_of (codes "k" ∷ []) (Then (s.Keep (codes "t") (key (codes "k"))) BlockEnd)
      ∷ [];
}

-- t[1], a row that the count lacks, is set to 5; then the count commits, and an instance that keeps t[1]
abbrev old_count : List Instance
old_count = call 1 (pos 1 ∷ pos 5 ∷ []) 0 ∷ call 0 [] 0 ∷ call 2 (pos 1 ∷ []) 1 ∷ []

-- an absent row of the region is looked at too
pub count_comes_first : depends more_registers [] old_count 2 1 ≡ true
unfolding eval_of
count_comes_first = refl

-- that a cell is kept gives no dependency
pub kept_after_set : depends more_registers [] old_count 1 3 ≡ false
unfolding eval_of
kept_after_set = refl

pub kept_after_count : depends more_registers [] old_count 2 3 ≡ false
unfolding eval_of
kept_after_count = refl

pub old_count_comes_first : least_order (depends more_registers [] old_count) 3 ≡ Some (2 ∷ 1 ∷ 3 ∷ [])
unfolding eval_of
old_count_comes_first = refl

-- ---- SmallBank

abbrev get_or_zero : List ℕ → List ℕ → List ℕ → BlockTree → BlockTree
get_or_zero name table n rest = Then (s.Get name table (key n) (number 0)) rest

abbrev put_at : List ℕ → List ℕ → s.ExprTree → BlockTree → BlockTree
put_at table n value rest = Then (s.Put table (key n) value) rest

-- let a = get savings[n] else 0; let b = get checking[n] else 0; reply a + b;
abbrev balance : ProgramTree
balance =
    program_of (codes "n" ∷ [])
    (get_or_zero (codes "a") (codes "savings") (codes "n")
    (get_or_zero (codes "b") (codes "checking") (codes "n")
    (Then (s.Reply (Plus (Named (codes "a")) (Named (codes "b")))) BlockEnd)))

-- let a = get savings[n] else 0; if a + v < 0 { abort; } put savings[n] = a + v;
abbrev transact_saving : ProgramTree
transact_saving =
    program_of (codes "n" ∷ codes "v" ∷ [])
    (get_or_zero (codes "a") (codes "savings") (codes "n")
    (if_less (Plus (Named (codes "a")) (Named (codes "v"))) (number 0) (Then s.Abort BlockEnd) BlockEnd
    (put_at (codes "savings") (codes "n") (Plus (Named (codes "a")) (Named (codes "v"))) BlockEnd)))

-- let a = get savings[n] else 0; let b = get checking[n] else 0;
-- if a + b < v { put checking[n] = b - v - 1; } else { put checking[n] = b - v; }
abbrev write_check : ProgramTree
write_check =
    program_of (codes "n" ∷ codes "v" ∷ [])
    (get_or_zero (codes "a") (codes "savings") (codes "n")
    (get_or_zero (codes "b") (codes "checking") (codes "n")
    (if_less (Plus (Named (codes "a")) (Named (codes "b"))) (Named (codes "v"))
    (put_at (codes "checking") (codes "n") (Minus (Minus (Named (codes "b")) (Named (codes "v"))) (number 1)) BlockEnd)
    (put_at (codes "checking") (codes "n") (Minus (Named (codes "b")) (Named (codes "v"))) BlockEnd)
    BlockEnd)))

abbrev bank : DraftTree
bank = record { tables = plain_table (codes "savings") ∷ plain_table (codes "checking") ∷ []; programs = balance ∷ transact_saving ∷ write_check ∷ [] }

abbrev bank_opening : TableState
bank_opening = (tree.cell 0 (pos 1), pos 0) ∷ (tree.cell 1 (pos 1), pos 0) ∷ []

abbrev balance_at : ℕ → Instance
balance_at start = call 0 (pos 1 ∷ []) start

abbrev saving : Instance
saving = call 1 (pos 1 ∷ pos 20 ∷ []) 0

abbrev check_at : ℕ → Instance
check_at start = call 2 (pos 1 ∷ pos 10 ∷ []) start

-- the balance sees the saving but not the check, and the check sees neither
abbrev anomaly : List Instance
anomaly = saving ∷ balance_at 1 ∷ check_at 0 ∷ []

pub anomaly_has_no_order : least_order (depends bank bank_opening anomaly) 3 ≡ None
unfolding eval_of
anomaly_has_no_order = refl

pub anomaly_cycles : IsCycle (depends bank bank_opening anomaly) (1 ∷ 2 ∷ 3 ∷ [])
unfolding eval_of
anomaly_cycles = record { first = 1; rest = 2 ∷ 3 ∷ []; is = refl; leads = (refl, (refl, refl)); least = search (arith); once = (refl, (refl, tt)) }

-- saving, check and balance one after another
abbrev in_turn : List Instance
in_turn = saving ∷ check_at 1 ∷ balance_at 2 ∷ []

pub in_turn_has_its_order : least_order (depends bank bank_opening in_turn) 3 ≡ Some (1 ∷ 2 ∷ 3 ∷ [])
unfolding eval_of
in_turn_has_its_order = refl

pub in_turn_fits : Fits bank bank_opening in_turn (1 ∷ 2 ∷ 3 ∷ [])
unfolding eval_of
in_turn_fits = record { once = refl; runs = ((refl, refl), ((refl, refl), ((refl, refl), refl))) }

-- the first balance would be 0
pub backward_fits_not : Fits bank bank_opening in_turn (3 ∷ 2 ∷ 1 ∷ []) → ⊥
unfolding eval_of
backward_fits_not fits = let replies = fits.runs.0.1 in absurd (cc)

pub twice_is_not_once : is_each_once 3 (1 ∷ 1 ∷ 2 ∷ []) ≡ false
twice_is_not_once = refl
