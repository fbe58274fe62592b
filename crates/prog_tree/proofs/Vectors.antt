-- Worked examples of what programs do, computed from the definitions.
use Rattle.std.proofs.Common.{◌≡◌, [], ◌∷◌, refl, true, false}
use Rattle.std.specs.Prelude.{ℕ, ℤ, pos, negsuc, codes, List, Bool, Some, None}
use Rattle.prog_tree.specs.declared.cell.Cell.{Cell}
use Rattle.prog_tree.specs.declared.cell.Region.{Region}
use Rattle.prog_tree.specs.declared.deed.Cause.{Cause}
use Rattle.prog_tree.specs.declared.deed.Cause.TheVariants.{Asked, Present, Overflow}
use Rattle.prog_tree.specs.declared.deed.End.TheVariants.{Ready, Aborted}
use Rattle.prog_tree.specs.declared.deed.Deed.{Deed}
use Rattle.prog_tree.specs.declared.deed.Deed.TheVariants.{Read, Counted, Summed, Put, Removed}
use Rattle.prog_tree.specs.declared.look.Look.{Look}
use Rattle.prog_tree.specs.declared.look.Look.TheVariants as look
use Rattle.prog_tree.specs.declared.table.TableDecl.{TableDecl}
use Rattle.prog_tree.specs.declared.table.Arity.TheVariants as arity
use Rattle.prog_tree.specs.ChangeSet.{ChangedCells, no_changes, changed}
use Rattle.prog_tree.specs.Evaluation.{Evaluation, cell_in, eval}
use Rattle.prog_tree.specs.Number.{greatest}
use Rattle.prog_tree.specs.Syntax.{ExprTree, Literal, Named, Plus, Minus, RelationSign, Less, TestTree, KeyTree, BlockTree, BlockEnd, Then, Branch, ProgramTree}
use Rattle.prog_tree.specs.Syntax as s
use Rattle.prog_tree.specs.Table.{TableState}

-- ---- programs, tables and rows in short

abbrev pub program_of : List (List ℕ) → BlockTree → ProgramTree
program_of params body = record { name = codes "P"; params = params; body = body }

abbrev pub plain_table : List ℕ → TableDecl
plain_table name = record { name = name; arity = arity.One; grow = false }

abbrev pub number : ℕ → ExprTree
number n = Literal (pos n)

-- a cell of a table with one key column
abbrev pub cell : ℕ → ℤ → Cell
cell table k = record { table = table; first = k; second = pos 0 }

abbrev pub region : ℤ → ℤ → Region
region low high = record { table = 0; first_low = low; first_high = high; second_low = pos 0; second_high = pos 0 }

-- one comparison, with or without a `not`
abbrev pub test_of : Bool → ExprTree → RelationSign → ExprTree → TestTree
test_of negated left relation right = (record { negated = negated; left = left; relation = relation; right = right } ∷ []) ∷ []

abbrev pub if_less : ExprTree → ExprTree → BlockTree → BlockTree → BlockTree → BlockTree
if_less a b = Branch (test_of false a Less b)

-- an instance that ended ready, and one that aborted
abbrev pub ready : List Deed → List ℤ → ChangedCells → List Look → Evaluation
ready deeds replies cells looks = record { ending = Ready; deeds = deeds; replies = replies; changes = record { cells = cells; kept = [] }; looks = looks }

abbrev pub aborted : Cause → List Deed → List Look → Evaluation
aborted cause deeds looks = record { ending = Aborted cause; deeds = deeds; replies = []; changes = no_changes; looks = looks }

-- ---- the two-column set
-- put e[d, 2] = 5; delete e[d, 1]; let n = count e[d, 1..3]; let s = sum e[d, 1..3]; reply n; reply s;

abbrev own_body : BlockTree
own_body =
    Then (s.Put (codes "e") (s.Two (Named (codes "d")) (number 2)) (number 5))
    (Then (s.Delete (codes "e") (s.Two (Named (codes "d")) (number 1)))
    (Then (s.Count (codes "n") (codes "e") (s.TwoRange (Named (codes "d")) (number 1) (number 3)))
    (Then (s.Sum (codes "s") (codes "e") (s.TwoRange (Named (codes "d")) (number 1) (number 3)))
    (Then (s.Reply (Named (codes "n")))
    (Then (s.Reply (Named (codes "s"))) BlockEnd)))))

abbrev own_opening : TableState
own_opening = (cell_in 0 (pos 7) (pos 1), pos 9) ∷ (cell_in 0 (pos 7) (pos 3), pos 4) ∷ (cell_in 0 (pos 8) (pos 2), pos 1) ∷ []

abbrev own_region : Region
own_region = record { table = 0; first_low = pos 7; first_high = pos 7; second_low = pos 1; second_high = pos 3 }

-- the row of the untouched cell is all that the snapshot is asked for
abbrev own_look : Look
own_look = look.Range own_region (cell_in 0 (pos 7) (pos 1) ∷ cell_in 0 (pos 7) (pos 2) ∷ []) ((cell_in 0 (pos 7) (pos 3), pos 4) ∷ [])

abbrev own_run : Evaluation
own_run = eval (record { name = codes "e"; arity = arity.Two; grow = false } ∷ []) (program_of (codes "d" ∷ []) own_body) (pos 7 ∷ []) own_opening

pub own : own_run
    ≡ ready
    (Put (cell_in 0 (pos 7) (pos 2)) (pos 5) ∷ Removed (cell_in 0 (pos 7) (pos 1)) ∷ Counted own_region (pos 2) ∷ Summed own_region (pos 9) ∷ [])
    (pos 2 ∷ pos 9 ∷ [])
    ((cell_in 0 (pos 7) (pos 1), None) ∷ (cell_in 0 (pos 7) (pos 2), Some (pos 5)) ∷ [])
    (own_look ∷ own_look ∷ [])
own = refl

pub own_rows : changed own_opening own_run.changes.cells
    ≡ (cell_in 0 (pos 7) (pos 2), pos 5) ∷ (cell_in 0 (pos 7) (pos 3), pos 4) ∷ (cell_in 0 (pos 8) (pos 2), pos 1) ∷ []
own_rows = refl

-- ---- programs over `table t 1;`

abbrev pub run : List (List ℕ) → BlockTree → List ℤ → TableState → Evaluation
run params body args m = eval (plain_table (codes "t") ∷ []) (program_of params body) args m

-- ---- the overflow set

-- let s = sum t[1..2]; reply s;
abbrev total_body : BlockTree
total_body = Then (s.Sum (codes "s") (codes "t") (s.OneRange (number 1) (number 2))) (Then (s.Reply (Named (codes "s"))) BlockEnd)

pub total_overflows : run [] total_body [] ((cell 0 (pos 1), greatest) ∷ (cell 0 (pos 2), pos 1) ∷ [])
    ≡ aborted Overflow [] (look.Range (region (pos 1) (pos 2)) [] ((cell 0 (pos 1), greatest) ∷ (cell 0 (pos 2), pos 1) ∷ []) ∷ [])
total_overflows = refl

-- if v < 0 { abort; } else { put t[9] = v; }
abbrev maybe_body : BlockTree
maybe_body =
    if_less (Named (codes "v")) (number 0) (Then s.Abort BlockEnd) (Then (s.Put (codes "t") (s.One (number 9)) (Named (codes "v"))) BlockEnd) BlockEnd

pub maybe_asks : run (codes "v" ∷ []) maybe_body (negsuc 0 ∷ []) [] ≡ aborted Asked [] []
maybe_asks = refl

pub maybe_puts : run (codes "v" ∷ []) maybe_body (pos 4 ∷ []) []
    ≡ ready (Put (cell 0 (pos 9)) (pos 4) ∷ []) [] ((cell 0 (pos 9), Some (pos 4)) ∷ []) []
maybe_puts = refl

-- ---- the grow set: insert g[k] = v;

abbrev add_run : List ℤ → TableState → Evaluation
add_run args m =
    eval (record { name = codes "g"; arity = arity.One; grow = true } ∷ [])
    (program_of (codes "k" ∷ codes "v" ∷ []) (Then (s.Insert (codes "g") (s.One (Named (codes "k"))) (Named (codes "v"))) BlockEnd))
    args m

pub adds : add_run (pos 1 ∷ pos 5 ∷ []) []
    ≡ ready (Put (cell 0 (pos 1)) (pos 5) ∷ []) [] ((cell 0 (pos 1), Some (pos 5)) ∷ []) (look.One (cell 0 (pos 1)) None ∷ [])
adds = refl

pub add_finds_a_row : add_run (pos 1 ∷ pos 7 ∷ []) ((cell 0 (pos 1), pos 5) ∷ [])
    ≡ aborted (Present (cell 0 (pos 1))) [] (look.One (cell 0 (pos 1)) (Some (pos 5)) ∷ [])
add_finds_a_row = refl

-- ---- the copy set: let x = get t[a] else 0; put t[b] = x;

pub copies : run (codes "a" ∷ codes "b" ∷ [])
    (Then (s.Get (codes "x") (codes "t") (s.One (Named (codes "a"))) (number 0))
    (Then (s.Put (codes "t") (s.One (Named (codes "b"))) (Named (codes "x"))) BlockEnd))
    (pos 1 ∷ pos 2 ∷ []) ((cell 0 (pos 1), pos 4) ∷ [])
    ≡ ready (Read (cell 0 (pos 1)) (Some (pos 4)) ∷ Put (cell 0 (pos 2)) (pos 4) ∷ []) [] ((cell 0 (pos 2), Some (pos 4)) ∷ []) (look.One (cell 0 (pos 1)) (Some (pos 4)) ∷ [])
copies = refl

-- let name = get table[key] else 0;
abbrev get_or_zero : List ℕ → List ℕ → List ℕ → BlockTree → BlockTree
get_or_zero name table key rest = Then (s.Get name table (s.One (Named key)) (number 0)) rest

-- put table[key] = value;
abbrev put_at : List ℕ → List ℕ → ExprTree → BlockTree → BlockTree
put_at table key value rest = Then (s.Put table (s.One (Named key)) value) rest

-- ---- the register set

-- let x = get t[k] else -1; reply x;
pub looks_up : run (codes "k" ∷ []) (Then (s.Get (codes "x") (codes "t") (s.One (Named (codes "k"))) (Literal (negsuc 0))) (Then (s.Reply (Named (codes "x"))) BlockEnd)) (pos 7 ∷ []) []
    ≡ ready (Read (cell 0 (pos 7)) None ∷ []) (negsuc 0 ∷ []) [] (look.One (cell 0 (pos 7)) None ∷ [])
looks_up = refl

-- delete t[k]; of an absent cell too
pub cuts : run (codes "k" ∷ []) (Then (s.Delete (codes "t") (s.One (Named (codes "k")))) BlockEnd) (pos 1 ∷ []) []
    ≡ ready (Removed (cell 0 (pos 1)) ∷ []) [] ((cell 0 (pos 1), None) ∷ []) []
cuts = refl

abbrev set_body : BlockTree
set_body = put_at (codes "t") (codes "k") (Named (codes "v")) BlockEnd

-- put t[k] = v; of a present cell and of an absent one alike, with no look
pub sets : run (codes "k" ∷ codes "v" ∷ []) set_body (pos 7 ∷ negsuc 4 ∷ []) ((cell 0 (pos 7), pos 1) ∷ [])
    ≡ ready (Put (cell 0 (pos 7)) (negsuc 4) ∷ []) [] ((cell 0 (pos 7), Some (negsuc 4)) ∷ []) []
sets = refl

pub sets_a_new_row : run (codes "k" ∷ codes "v" ∷ []) set_body (pos 7 ∷ negsuc 4 ∷ []) []
    ≡ ready (Put (cell 0 (pos 7)) (negsuc 4) ∷ []) [] ((cell 0 (pos 7), Some (negsuc 4)) ∷ []) []
sets_a_new_row = refl

-- ---- the transfer set

-- let x = get t[a] else 0; put t[a] = x - v; let y = get t[b] else 0; put t[b] = y + v;
abbrev transfer_run : List ℤ → TableState → Evaluation
transfer_run args m =
    run (codes "a" ∷ codes "b" ∷ codes "v" ∷ [])
    (get_or_zero (codes "x") (codes "t") (codes "a")
    (put_at (codes "t") (codes "a") (Minus (Named (codes "x")) (Named (codes "v")))
    (get_or_zero (codes "y") (codes "t") (codes "b")
    (put_at (codes "t") (codes "b") (Plus (Named (codes "y")) (Named (codes "v"))) BlockEnd))))
    args m

pub transfers : transfer_run (pos 2 ∷ pos 1 ∷ pos 5 ∷ []) ((cell 0 (pos 2), pos 9) ∷ [])
    ≡ ready
    (Read (cell 0 (pos 2)) (Some (pos 9)) ∷ Put (cell 0 (pos 2)) (pos 4) ∷ Read (cell 0 (pos 1)) None ∷ Put (cell 0 (pos 1)) (pos 5) ∷ [])
    []
    ((cell 0 (pos 1), Some (pos 5)) ∷ (cell 0 (pos 2), Some (pos 4)) ∷ [])
    (look.One (cell 0 (pos 2)) (Some (pos 9)) ∷ look.One (cell 0 (pos 1)) None ∷ [])
transfers = refl

-- to the same cell: the second read finds the instance's own value, and looks nowhere
pub transfers_to_itself : transfer_run (pos 2 ∷ pos 2 ∷ pos 5 ∷ []) ((cell 0 (pos 2), pos 9) ∷ [])
    ≡ ready
    (Read (cell 0 (pos 2)) (Some (pos 9)) ∷ Put (cell 0 (pos 2)) (pos 4) ∷ Read (cell 0 (pos 2)) (Some (pos 4)) ∷ Put (cell 0 (pos 2)) (pos 9) ∷ [])
    []
    ((cell 0 (pos 2), Some (pos 9)) ∷ [])
    (look.One (cell 0 (pos 2)) (Some (pos 9)) ∷ [])
transfers_to_itself = refl

-- ---- SmallBank

abbrev bank_run : List (List ℕ) → BlockTree → List ℤ → TableState → Evaluation
bank_run params body args m = eval (plain_table (codes "savings") ∷ plain_table (codes "checking") ∷ []) (program_of params body) args m

-- let a = get savings[n] else 0; let b = get checking[n] else 0; reply a + b;
pub balances : bank_run (codes "n" ∷ [])
    (get_or_zero (codes "a") (codes "savings") (codes "n")
    (get_or_zero (codes "b") (codes "checking") (codes "n")
    (Then (s.Reply (Plus (Named (codes "a")) (Named (codes "b")))) BlockEnd)))
    (pos 1 ∷ []) ((cell 0 (pos 1), pos 20) ∷ (cell 0 (pos 2), pos 6) ∷ [])
    ≡ ready
    (Read (cell 0 (pos 1)) (Some (pos 20)) ∷ Read (cell 1 (pos 1)) None ∷ [])
    (pos 20 ∷ []) []
    (look.One (cell 0 (pos 1)) (Some (pos 20)) ∷ look.One (cell 1 (pos 1)) None ∷ [])
balances = refl

-- if v < 0 { abort; } let b = get checking[n] else 0; put checking[n] = b + v;
abbrev deposit_run : List ℤ → TableState → Evaluation
deposit_run args m =
    bank_run (codes "n" ∷ codes "v" ∷ [])
    (if_less (Named (codes "v")) (number 0) (Then s.Abort BlockEnd) BlockEnd
    (get_or_zero (codes "b") (codes "checking") (codes "n")
    (put_at (codes "checking") (codes "n") (Plus (Named (codes "b")) (Named (codes "v"))) BlockEnd)))
    args m

pub deposits : deposit_run (pos 1 ∷ pos 5 ∷ []) ((cell 1 (pos 1), pos 2) ∷ [])
    ≡ ready (Read (cell 1 (pos 1)) (Some (pos 2)) ∷ Put (cell 1 (pos 1)) (pos 7) ∷ []) [] ((cell 1 (pos 1), Some (pos 7)) ∷ []) (look.One (cell 1 (pos 1)) (Some (pos 2)) ∷ [])
deposits = refl

-- a negative deposit ends the instance before it looks
pub deposits_nothing_negative : deposit_run (pos 1 ∷ negsuc 0 ∷ []) ((cell 1 (pos 1), pos 2) ∷ [])
    ≡ aborted Asked [] []
deposits_nothing_negative = refl

-- let a = get savings[n] else 0; if a + v < 0 { abort; } put savings[n] = a + v;
abbrev transact_run : List ℤ → TableState → Evaluation
transact_run args m =
    bank_run (codes "n" ∷ codes "v" ∷ [])
    (get_or_zero (codes "a") (codes "savings") (codes "n")
    (if_less (Plus (Named (codes "a")) (Named (codes "v"))) (number 0) (Then s.Abort BlockEnd) BlockEnd
    (put_at (codes "savings") (codes "n") (Plus (Named (codes "a")) (Named (codes "v"))) BlockEnd)))
    args m

pub transacts : transact_run (pos 1 ∷ negsuc 19 ∷ []) ((cell 0 (pos 1), pos 20) ∷ [])
    ≡ ready (Read (cell 0 (pos 1)) (Some (pos 20)) ∷ Put (cell 0 (pos 1)) (pos 0) ∷ []) [] ((cell 0 (pos 1), Some (pos 0)) ∷ []) (look.One (cell 0 (pos 1)) (Some (pos 20)) ∷ [])
transacts = refl

-- it asks to abort where the savings would be negative; the read before stays a deed
pub transacts_nothing_negative : transact_run (pos 1 ∷ negsuc 20 ∷ []) ((cell 0 (pos 1), pos 20) ∷ [])
    ≡ aborted Asked (Read (cell 0 (pos 1)) (Some (pos 20)) ∷ []) (look.One (cell 0 (pos 1)) (Some (pos 20)) ∷ [])
transacts_nothing_negative = refl

abbrev amalgamate_body : BlockTree
amalgamate_body =
    get_or_zero (codes "a") (codes "savings") (codes "n1")
    (get_or_zero (codes "b") (codes "checking") (codes "n1")
    (put_at (codes "savings") (codes "n1") (number 0)
    (put_at (codes "checking") (codes "n1") (number 0)
    (get_or_zero (codes "c") (codes "checking") (codes "n2")
    (put_at (codes "checking") (codes "n2") (Plus (Plus (Named (codes "c")) (Named (codes "a"))) (Named (codes "b"))) BlockEnd)))))

pub amalgamates : bank_run (codes "n1" ∷ codes "n2" ∷ []) amalgamate_body (pos 2 ∷ pos 1 ∷ []) ((cell 0 (pos 2), pos 3) ∷ (cell 1 (pos 1), pos 10) ∷ (cell 1 (pos 2), pos 4) ∷ [])
    ≡ ready
    (Read (cell 0 (pos 2)) (Some (pos 3)) ∷ Read (cell 1 (pos 2)) (Some (pos 4)) ∷ Put (cell 0 (pos 2)) (pos 0) ∷ Put (cell 1 (pos 2)) (pos 0)
    ∷ Read (cell 1 (pos 1)) (Some (pos 10)) ∷ Put (cell 1 (pos 1)) (pos 17) ∷ [])
    []
    ((cell 0 (pos 2), Some (pos 0)) ∷ (cell 1 (pos 1), Some (pos 17)) ∷ (cell 1 (pos 2), Some (pos 0)) ∷ [])
    (look.One (cell 0 (pos 2)) (Some (pos 3)) ∷ look.One (cell 1 (pos 2)) (Some (pos 4)) ∷ look.One (cell 1 (pos 1)) (Some (pos 10)) ∷ [])
amalgamates = refl

-- both customers the same: the fifth step reads the instance's own 0, and looks nowhere
pub amalgamates_one : bank_run (codes "n1" ∷ codes "n2" ∷ []) amalgamate_body (pos 1 ∷ pos 1 ∷ []) ((cell 0 (pos 1), pos 3) ∷ (cell 1 (pos 1), pos 4) ∷ [])
    ≡ ready
    (Read (cell 0 (pos 1)) (Some (pos 3)) ∷ Read (cell 1 (pos 1)) (Some (pos 4)) ∷ Put (cell 0 (pos 1)) (pos 0) ∷ Put (cell 1 (pos 1)) (pos 0)
    ∷ Read (cell 1 (pos 1)) (Some (pos 0)) ∷ Put (cell 1 (pos 1)) (pos 7) ∷ [])
    []
    ((cell 0 (pos 1), Some (pos 0)) ∷ (cell 1 (pos 1), Some (pos 7)) ∷ [])
    (look.One (cell 0 (pos 1)) (Some (pos 3)) ∷ look.One (cell 1 (pos 1)) (Some (pos 4)) ∷ [])
amalgamates_one = refl

abbrev write_check_run : TableState → Evaluation
write_check_run m =
    bank_run (codes "n" ∷ codes "v" ∷ [])
    (get_or_zero (codes "a") (codes "savings") (codes "n")
    (get_or_zero (codes "b") (codes "checking") (codes "n")
    (if_less (Plus (Named (codes "a")) (Named (codes "b"))) (Named (codes "v"))
    (put_at (codes "checking") (codes "n") (Minus (Minus (Named (codes "b")) (Named (codes "v"))) (number 1)) BlockEnd)
    (put_at (codes "checking") (codes "n") (Minus (Named (codes "b")) (Named (codes "v"))) BlockEnd)
    BlockEnd)))
    (pos 1 ∷ pos 10 ∷ []) m

pub write_check_overdraws : write_check_run ((cell 0 (pos 1), pos 0) ∷ (cell 1 (pos 1), pos 0) ∷ [])
    ≡ ready
    (Read (cell 0 (pos 1)) (Some (pos 0)) ∷ Read (cell 1 (pos 1)) (Some (pos 0)) ∷ Put (cell 1 (pos 1)) (negsuc 10) ∷ [])
    [] ((cell 1 (pos 1), Some (negsuc 10)) ∷ [])
    (look.One (cell 0 (pos 1)) (Some (pos 0)) ∷ look.One (cell 1 (pos 1)) (Some (pos 0)) ∷ [])
write_check_overdraws = refl

pub write_check_pays : write_check_run ((cell 0 (pos 1), pos 20) ∷ (cell 1 (pos 1), pos 0) ∷ [])
    ≡ ready
    (Read (cell 0 (pos 1)) (Some (pos 20)) ∷ Read (cell 1 (pos 1)) (Some (pos 0)) ∷ Put (cell 1 (pos 1)) (negsuc 9) ∷ [])
    [] ((cell 1 (pos 1), Some (negsuc 9)) ∷ [])
    (look.One (cell 0 (pos 1)) (Some (pos 20)) ∷ look.One (cell 1 (pos 1)) (Some (pos 0)) ∷ [])
write_check_pays = refl
