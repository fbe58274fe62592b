-- Lines of replies and rows, written by hand.
use Rattle.std.proofs.Common.{◌≡◌, pos, neg_ℤ, ◌^◌, ◌-◌, List, [], ◌∷◌, Some, None, false, refl, codes}
use Rattle.std.specs.Fmt.{digits}
use Rattle.prog_tree.specs.declared.cell.Cell.{Cell}
use Rattle.prog_tree.specs.declared.cell.Region.{Region}
use Rattle.prog_tree.specs.declared.deed.Cause.TheVariants.{Asked, Missing, Present, Overflow}
use Rattle.prog_tree.specs.declared.deed.Deed.TheVariants.{Read, Counted, Summed, Listed, Put, Removed, Kept}
use Rattle.prog_tree.specs.declared.table.Arity.TheVariants.{One, Two}
use Rattle.prog_tree.specs.declared.table.TableDecl.{TableDecl}
use Rattle.si_engine.specs.declared.event.Event.TheVariants.{Begin, BeginAt, Step, Commit, Abort, Vacuum}
use Rattle.si_engine.specs.declared.event.Reply.TheVariants.{Begun, NoSuchProgram, WrongArguments, TooOld, TooNew, Full, Did, Ready, Aborted, Committed, Clashed, Withdrawn, Vacuumed, NoSuchInstance, Ended, NotReady}
use Rattle.si_engine.specs.Printed.{reply_line, printed_row}

-- `t` of one key column, `e` of two
tables : List TableDecl
tables = record { name = codes "t"; arity = One; grow = false } ∷ record { name = codes "e"; arity = Two; grow = false } ∷ []

t7 : Cell
t7 = record { table = 0; first = pos 7; second = pos 0 }

e72 : Cell
e72 = record { table = 1; first = pos 7; second = neg_ℤ (pos 2) }

t_region : Region
t_region = record { table = 0; first_low = pos 1; first_high = pos 2; second_low = pos 0; second_high = pos 0 }

e_region : Region
e_region = record { table = 1; first_low = pos 7; first_high = pos 7; second_low = pos 1; second_high = pos 3 }

-- its low end lies above its high one
no_region : Region
no_region = record { table = 0; first_low = pos 3; first_high = pos 1; second_low = pos 0; second_high = pos 0 }

negative_region : Region
negative_region = record { table = 1; first_low = neg_ℤ (pos 7); first_high = neg_ℤ (pos 7); second_low = neg_ℤ (pos 2); second_high = pos 0 }

begun : reply_line tables (Begin 0 []) (Begun 12 3) ≡ codes "12 begun at 3\n"
unfolding digits
begun = refl

no_such_program : reply_line tables (Begin 0 []) NoSuchProgram ≡ codes "refused no such program\n"
no_such_program = refl

wrong_arguments : reply_line tables (Begin 0 []) WrongArguments ≡ codes "refused wrong arguments\n"
wrong_arguments = refl

begun_at : reply_line tables (BeginAt 3 0 []) (Begun 12 3) ≡ codes "12 begun at 3\n"
unfolding digits
begun_at = refl

too_old : reply_line tables (BeginAt 3 0 []) (TooOld 12) ≡ codes "refused too old 12\n"
unfolding digits
too_old = refl

too_new : reply_line tables (BeginAt 3 0 []) (TooNew 2) ≡ codes "refused too new 2\n"
unfolding digits
too_new = refl

full : reply_line tables (Begin 0 []) Full ≡ codes "refused full\n"
full = refl

read_absent : reply_line tables (Step 0) (Did (Read t7 None)) ≡ codes "0 read t[7] absent\n"
unfolding digits tables t7
read_absent = refl

read_value : reply_line tables (Step 0) (Did (Read e72 (Some (neg_ℤ (pos (2 ^ 63)))))) ≡ codes "0 read e[7, -2] -9223372036854775808\n"
unfolding digits tables e72
read_value = refl

count : reply_line tables (Step 1) (Did (Counted e_region (pos 2))) ≡ codes "1 count e[7, 1..3] 2\n"
unfolding digits tables e_region
count = refl

sum : reply_line tables (Step 1) (Did (Summed t_region (pos (2 ^ 63 - 1)))) ≡ codes "1 sum t[1..2] 9223372036854775807\n"
unfolding digits tables t_region
sum = refl

list : reply_line tables (Step 0) (Did (Listed t_region 2)) ≡ codes "0 list t[1..2] 2\n"
unfolding digits tables t_region
list = refl

list_of_nothing : reply_line tables (Step 0) (Did (Listed no_region 0)) ≡ codes "0 list t[3..1] 0\n"
unfolding digits tables no_region
list_of_nothing = refl

list_of_two_columns : reply_line tables (Step 0) (Did (Listed negative_region 2)) ≡ codes "0 list e[-7, -2..0] 2\n"
unfolding digits tables negative_region
list_of_two_columns = refl

put : reply_line tables (Step 0) (Did (Put e72 (pos 5))) ≡ codes "0 put e[7, -2] 5\n"
unfolding digits tables e72
put = refl

removed : reply_line tables (Step 0) (Did (Removed t7)) ≡ codes "0 removed t[7]\n"
unfolding digits tables t7
removed = refl

kept : reply_line tables (Step 0) (Did (Kept t7)) ≡ codes "0 kept t[7]\n"
unfolding digits tables t7
kept = refl

ready : reply_line tables (Step 0) (Ready (pos 2 ∷ neg_ℤ (pos 9) ∷ [])) ≡ codes "0 ready 2 -9\n"
unfolding digits
ready = refl

ready_without_replies : reply_line tables (Step 0) (Ready []) ≡ codes "0 ready\n"
unfolding digits
ready_without_replies = refl

aborted_asked : reply_line tables (Step 1) (Aborted Asked) ≡ codes "1 aborted asked\n"
unfolding digits
aborted_asked = refl

aborted_missing : reply_line tables (Step 1) (Aborted (Missing t7)) ≡ codes "1 aborted missing t[7]\n"
unfolding digits tables t7
aborted_missing = refl

aborted_present : reply_line tables (Step 2) (Aborted (Present t7)) ≡ codes "2 aborted present t[7]\n"
unfolding digits tables t7
aborted_present = refl

aborted_overflow : reply_line tables (Step 0) (Aborted Overflow) ≡ codes "0 aborted overflow\n"
unfolding digits
aborted_overflow = refl

committed : reply_line tables (Commit 0) (Committed 10) ≡ codes "0 committed 10\n"
unfolding digits
committed = refl

clashed : reply_line tables (Commit 1) (Clashed (record { cell = t7; number = 1 })) ≡ codes "1 clashed on t[7] with 1\n"
unfolding digits tables t7
clashed = refl

no_such_instance : reply_line tables (Commit 4294967295) NoSuchInstance ≡ codes "4294967295 no such instance\n"
unfolding digits
no_such_instance = refl

ended : reply_line tables (Step 0) Ended ≡ codes "0 ended\n"
unfolding digits
ended = refl

not_ready : reply_line tables (Commit 1) NotReady ≡ codes "1 not ready\n"
unfolding digits
not_ready = refl

one_column : printed_row tables t7 (neg_ℤ (pos 11)) ≡ codes "row t 7 = -11\n"
unfolding digits tables t7
one_column = refl

two_columns : printed_row tables e72 (pos 5) ≡ codes "row e 7 -2 = 5\n"
unfolding digits tables e72
two_columns = refl

withdrawn : reply_line tables (Abort 2) Withdrawn ≡ codes "2 withdrawn\n"
unfolding digits
withdrawn = refl

vacuumed : reply_line tables Vacuum (Vacuumed 20) ≡ codes "vacuumed 20\n"
unfolding digits
vacuumed = refl
