-- One small program for each rule of a statement that a reader could doubt, over `table t 1;`.
use Rattle.std.proofs.Common.{◌≡◌, [], ◌∷◌, refl, true, false}
use Rattle.std.specs.Prelude.{pos, negsuc, codes, ◌-◌, ◌^◌, Some, None}
use Rattle.prog_tree.specs.declared.deed.Cause.TheVariants.{Asked, Missing, Present, Overflow}
use Rattle.prog_tree.specs.declared.deed.End.TheVariants.{Ready, Aborted}
use Rattle.prog_tree.specs.declared.deed.Deed.TheVariants.{Read, Counted, Summed, Put, Removed, Kept}
use Rattle.prog_tree.specs.declared.look.Look.TheVariants as look
use Rattle.prog_tree.specs.Syntax.{ExprTree, Literal, Named, Plus, Minus, Times, Less, Equal, KeyTree, BlockTree, BlockEnd, Then, Branch}
use Rattle.prog_tree.specs.Syntax as s
use Rattle.prog_tree.specs.Table.{TableState}
use Rattle.prog_tree.specs.Number.{least, greatest}
use Rattle.prog_tree.proofs.Vectors.{number, cell, region, test_of, if_less, ready, aborted, run}

-- ---- in short

abbrev t_1 : KeyTree
t_1 = s.One (number 1)

-- greatest + 1
abbrev too_large : ExprTree
too_large = Plus (Literal greatest) (number 1)

abbrev five_at_1 : TableState
five_at_1 = (cell 0 (pos 1), pos 5) ∷ []

abbrev reply_x : BlockTree
reply_x = Then (s.Reply (Named (codes "x"))) BlockEnd

-- ---- let

-- let x = 2 * 3 - 10; reply x;
pub binds : run [] (Then (s.Bind (codes "x") (Minus (Times (number 2) (number 3)) (number 10))) reply_x) [] []
    ≡ ready [] (negsuc 3 ∷ []) [] []
binds = refl

-- let x = greatest + 1;
pub bind_overflows : run [] (Then (s.Bind (codes "x") too_large) reply_x) [] []
    ≡ aborted Overflow [] []
bind_overflows = refl

-- reply least - 1;
pub reply_overflows : run [] (Then (s.Reply (Minus (Literal least) (number 1))) BlockEnd) [] []
    ≡ aborted Overflow [] []
reply_overflows = refl

-- reply least * -1;
pub product_overflows : run [] (Then (s.Reply (Times (Literal least) (Literal (negsuc 0)))) BlockEnd) [] []
    ≡ aborted Overflow [] []
product_overflows = refl

-- if 0 < 1 { let x = 1; } let x = 2; reply x; a name lasts to the end of its block
pub names_end : run [] (if_less (number 0) (number 1) (Then (s.Bind (codes "x") (number 1)) BlockEnd) BlockEnd (Then (s.Bind (codes "x") (number 2)) reply_x)) [] []
    ≡ ready [] (pos 2 ∷ []) [] []
names_end = refl

-- ---- get and need

-- let x = get t[1] else greatest + 1; of a present cell the other value is not evaluated
pub get_of_present : run [] (Then (s.Get (codes "x") (codes "t") t_1 too_large) reply_x) [] five_at_1
    ≡ ready (Read (cell 0 (pos 1)) (Some (pos 5)) ∷ []) (pos 5 ∷ []) [] (look.One (cell 0 (pos 1)) (Some (pos 5)) ∷ [])
get_of_present = refl

-- let x = get t[1] else greatest + 1; of an absent one it is, after the look, and ends the instance with no deed
pub get_overflows : run [] (Then (s.Get (codes "x") (codes "t") t_1 too_large) reply_x) [] []
    ≡ aborted Overflow [] (look.One (cell 0 (pos 1)) None ∷ [])
get_overflows = refl

-- let x = need t[1]; reply x;
pub needs : run [] (Then (s.Need (codes "x") (codes "t") t_1) reply_x) [] five_at_1
    ≡ ready (Read (cell 0 (pos 1)) (Some (pos 5)) ∷ []) (pos 5 ∷ []) [] (look.One (cell 0 (pos 1)) (Some (pos 5)) ∷ [])
needs = refl

-- let x = need t[1]; of an absent cell
pub need_of_absent : run [] (Then (s.Need (codes "x") (codes "t") t_1) reply_x) [] []
    ≡ aborted (Missing (cell 0 (pos 1))) [] (look.One (cell 0 (pos 1)) None ∷ [])
need_of_absent = refl

-- ---- count and sum

-- let x = count t[3..1]; reply x; the region is empty, and looked at all the same
pub counts_nothing : run [] (Then (s.Count (codes "x") (codes "t") (s.OneRange (number 3) (number 1))) reply_x) [] five_at_1
    ≡ ready (Counted (region (pos 3) (pos 1)) (pos 0) ∷ []) (pos 0 ∷ []) [] (look.Range (region (pos 3) (pos 1)) [] [] ∷ [])
counts_nothing = refl

abbrev large_rows : TableState
large_rows = (cell 0 (pos 1), greatest) ∷ (cell 0 (pos 2), pos 1) ∷ (cell 0 (pos 3), negsuc 1) ∷ []

-- let x = sum t[least..greatest]; reply x; a part of the sum lies outside i64, and the total does not
pub sums_exactly : run [] (Then (s.Sum (codes "x") (codes "t") (s.OneRange (Literal least) (Literal greatest))) reply_x) [] large_rows
    ≡ ready (Summed (region least greatest) (pos (2 ^ 63 - 2)) ∷ []) (pos (2 ^ 63 - 2) ∷ []) [] (look.Range (region least greatest) [] large_rows ∷ [])
sums_exactly = refl

-- ---- lacks

-- lacks t[1];
pub lacks_it : run [] (Then (s.Lacks (codes "t") t_1) BlockEnd) [] []
    ≡ ready (Read (cell 0 (pos 1)) None ∷ []) [] [] (look.One (cell 0 (pos 1)) None ∷ [])
lacks_it = refl

-- lacks t[1]; of a present cell
pub lacks_of_present : run [] (Then (s.Lacks (codes "t") t_1) BlockEnd) [] five_at_1
    ≡ aborted (Present (cell 0 (pos 1))) [] (look.One (cell 0 (pos 1)) (Some (pos 5)) ∷ [])
lacks_of_present = refl

-- ---- put, insert, delete

-- put t[1] = 5; of the same value is a change
pub puts_the_same : run [] (Then (s.Put (codes "t") t_1 (number 5)) BlockEnd) [] five_at_1
    ≡ ready (Put (cell 0 (pos 1)) (pos 5) ∷ []) [] ((cell 0 (pos 1), Some (pos 5)) ∷ []) []
puts_the_same = refl

-- put t[greatest + 1] = 5;
pub put_overflows : run [] (Then (s.Put (codes "t") (s.One too_large) (number 5)) BlockEnd) [] []
    ≡ aborted Overflow [] []
put_overflows = refl

-- insert t[1] = greatest + 1; of a present cell: the value comes before the look
pub insert_overflows : run [] (Then (s.Insert (codes "t") t_1 too_large) BlockEnd) [] five_at_1
    ≡ aborted Overflow [] []
insert_overflows = refl

-- delete t[1]; insert t[1] = 2; the instance knows its own change, and does not look
pub inserts_after_delete : run [] (Then (s.Delete (codes "t") t_1) (Then (s.Insert (codes "t") t_1 (number 2)) BlockEnd)) [] five_at_1
    ≡ ready (Removed (cell 0 (pos 1)) ∷ Put (cell 0 (pos 1)) (pos 2) ∷ []) [] ((cell 0 (pos 1), Some (pos 2)) ∷ []) []
inserts_after_delete = refl

-- put t[1] = 2; insert t[1] = 3;
pub insert_after_put : run [] (Then (s.Put (codes "t") t_1 (number 2)) (Then (s.Insert (codes "t") t_1 (number 3)) BlockEnd)) [] []
    ≡ record { ending = Aborted (Present (cell 0 (pos 1))); deeds = Put (cell 0 (pos 1)) (pos 2) ∷ []; replies = []; changes = record { cells = (cell 0 (pos 1), Some (pos 2)) ∷ []; kept = [] }; looks = [] }
insert_after_put = refl

-- delete t[1]; let x = need t[1];
pub need_after_delete : run [] (Then (s.Delete (codes "t") t_1) (Then (s.Need (codes "x") (codes "t") t_1) BlockEnd)) [] five_at_1
    ≡ record { ending = Aborted (Missing (cell 0 (pos 1))); deeds = Removed (cell 0 (pos 1)) ∷ []; replies = []; changes = record { cells = (cell 0 (pos 1), None) ∷ []; kept = [] }; looks = [] }
need_after_delete = refl

-- put t[1] = 2; lacks t[1];
pub lacks_after_put : run [] (Then (s.Put (codes "t") t_1 (number 2)) (Then (s.Lacks (codes "t") t_1) BlockEnd)) [] []
    ≡ record { ending = Aborted (Present (cell 0 (pos 1))); deeds = Put (cell 0 (pos 1)) (pos 2) ∷ []; replies = []; changes = record { cells = (cell 0 (pos 1), Some (pos 2)) ∷ []; kept = [] }; looks = [] }
lacks_after_put = refl

-- ---- keep

-- keep t[1]; let x = get t[1] else 0; reply x; a kept cell is not changed, so it is looked at
pub keeps_and_looks : run [] (Then (s.Keep (codes "t") t_1) (Then (s.Get (codes "x") (codes "t") t_1 (number 0)) reply_x)) [] five_at_1
    ≡ record { ending = Ready; deeds = Kept (cell 0 (pos 1)) ∷ Read (cell 0 (pos 1)) (Some (pos 5)) ∷ []; replies = pos 5 ∷ []; changes = record { cells = []; kept = cell 0 (pos 1) ∷ [] }; looks = look.One (cell 0 (pos 1)) (Some (pos 5)) ∷ [] }
keeps_and_looks = refl

-- keep t[1]; let x = count t[1..3]; reply x; a kept cell is not the instance's own, so its row is among those looked at
pub keeps_and_counts : run [] (Then (s.Keep (codes "t") t_1) (Then (s.Count (codes "x") (codes "t") (s.OneRange (number 1) (number 3))) reply_x)) [] five_at_1
    ≡ record { ending = Ready; deeds = Kept (cell 0 (pos 1)) ∷ Counted (region (pos 1) (pos 3)) (pos 1) ∷ []; replies = pos 1 ∷ []; changes = record { cells = []; kept = cell 0 (pos 1) ∷ [] }; looks = look.Range (region (pos 1) (pos 3)) [] five_at_1 ∷ [] }
keeps_and_counts = refl

-- ---- tests

-- if 1 < 0 { abort; } else { reply 1; }
pub takes_else : run [] (if_less (number 1) (number 0) (Then s.Abort BlockEnd) (Then (s.Reply (number 1)) BlockEnd) BlockEnd) [] []
    ≡ ready [] (pos 1 ∷ []) [] []
takes_else = refl

-- if not 1 == 1 { abort; }
pub negates : run [] (Branch (test_of true (number 1) Equal (number 1)) (Then s.Abort BlockEnd) BlockEnd BlockEnd) [] []
    ≡ ready [] [] [] []
negates = refl

-- 0 < 1 or greatest + 1 < 0: all comparisons are made
abbrev settled_test : s.TestTree
settled_test =
    (record { negated = false; left = number 0; relation = Less; right = number 1 } ∷ [])
    ∷ (record { negated = false; left = too_large; relation = Less; right = number 0 } ∷ []) ∷ []

-- if 0 < 1 or greatest + 1 < 0 { }
pub test_overflows : run [] (Branch settled_test BlockEnd BlockEnd BlockEnd) [] []
    ≡ aborted Overflow [] []
test_overflows = refl

-- ---- abort

-- put t[1] = 2; abort; reply 1; nothing comes behind an abort
pub aborts : run [] (Then (s.Put (codes "t") t_1 (number 2)) (Then s.Abort (Then (s.Reply (number 1)) BlockEnd))) [] []
    ≡ record { ending = Aborted Asked; deeds = Put (cell 0 (pos 1)) (pos 2) ∷ []; replies = []; changes = record { cells = (cell 0 (pos 1), Some (pos 2)) ∷ []; kept = [] }; looks = [] }
aborts = refl
