-- Lines, words, numbers and scripts, read by hand.
use Rattle.std.proofs.Common.{◌≡◌, pos, neg_ℤ, ◌^◌, ◌-◌, [], ◌∷◌, ◌++◌, Some, None, Ok, Err, false, refl, codes}
use Rattle.prog_tree.specs.declared.table.Arity.TheVariants.{One, Two}
use Rattle.prog_tree.specs.Syntax.{DraftTree, BlockEnd}
use Rattle.si_engine.specs.declared.input.command.Command.TheVariants.{Skip, Row, Event, Steps}
use Rattle.si_engine.specs.declared.event.Event.TheVariants as e
use Rattle.si_engine.specs.declared.input.line_fault.LineFault.TheVariants as f
use Rattle.si_engine.specs.Lines.{lines_of, words_of}
use Rattle.si_engine.specs.Numbers.{i64_of, number_between}
use Rattle.si_engine.specs.Commands.{line_command, command_of, row_command, program_call, begin_command, begin_at_command, step_command, one_instance, commit_command, abort_command, vacuum_command}
use Rattle.si_engine.specs.RowLines.{row_line_of}
use Rattle.si_engine.specs.Sayings.{sayings_from}
use Rattle.si_engine.specs.Script.{script_of, room_fault}

-- a carriage return goes, the second one before it stays; the end of the part ends a line too
lines : lines_of (codes "a b\r\n\n# c\r\r\nd\r") ≡ codes "a b" ∷ [] ∷ codes "# c\r" ∷ codes "d" ∷ []
lines = refl

no_more_lines : lines_of (codes "a\n") ≡ codes "a" ∷ []
no_more_lines = refl

words : words_of (codes "  row   t\t1 =  ") ≡ codes "row" ∷ codes "t\t1" ∷ codes "=" ∷ []
words = refl

no_words : words_of (codes "   ") ≡ []
no_words = refl

leading_zeros : i64_of (codes "007") ≡ Some (pos 7)
leading_zeros = refl

negative : i64_of (codes "-12") ≡ Some (neg_ℤ (pos 12))
negative = refl

negative_zero : i64_of (codes "-0") ≡ Some (pos 0)
negative_zero = refl

plus_sign : i64_of (codes "+1") ≡ None
plus_sign = refl

two_minus_signs : i64_of (codes "--1") ≡ None
two_minus_signs = refl

minus_sign : i64_of (codes "-") ≡ None
minus_sign = refl

least : i64_of (codes "-9223372036854775808") ≡ Some (neg_ℤ (pos (2 ^ 63)))
least = refl

below_least : i64_of (codes "-9223372036854775809") ≡ None
below_least = refl

above_greatest : i64_of (codes "9223372036854775808") ≡ None
above_greatest = refl

greatest_instance : number_between 0 4294967295 (codes "4294967295") ≡ Some 4294967295
greatest_instance = refl

past_instances : number_between 0 4294967295 (codes "4294967296") ≡ None
past_instances = refl

no_steps : number_between 1 1000 (codes "0") ≡ None
no_steps = refl

negative_instance : number_between 0 4294967295 (codes "-1") ≡ None
negative_instance = refl

-- tables `t` of one key column and `e` of two; programs `Look` and `Set`
draft : DraftTree
draft = record {
  tables = record { name = codes "t"; arity = One; grow = false } ∷ record { name = codes "e"; arity = Two; grow = false } ∷ [];
  programs = record { name = codes "Look"; params = codes "k" ∷ []; body = BlockEnd } ∷ record { name = codes "Set"; params = codes "k" ∷ codes "v" ∷ []; body = BlockEnd } ∷ [];
}

row : line_command draft 1 (codes "row e -1 2 = 3") ≡ Ok (Row (record { cell = record { table = 1; first = neg_ℤ (pos 1); second = pos 2 }; value = pos 3 }))
unfolding draft line_command command_of row_command row_line_of
row = refl

begin : line_command draft 1 (codes "begin Set 1 -0 7") ≡ Ok (Event (e.Begin 1 (pos 1 ∷ pos 0 ∷ pos 7 ∷ [])))
unfolding draft line_command command_of begin_command program_call
begin = refl

begin_at : line_command draft 1 (codes "begin-at 18446744073709551615 Set 1 -0") ≡ Ok (Event (e.BeginAt (2 ^ 64 - 1) 1 (pos 1 ∷ pos 0 ∷ [])))
unfolding draft line_command command_of begin_at_command program_call
begin_at = refl

begin_at_no_number : line_command draft 2 (codes "begin-at Look 7") ≡ Err (f.BadLine 2)
unfolding draft line_command command_of begin_at_command program_call
begin_at_no_number = refl

begin_at_nothing : line_command draft 2 (codes "begin-at 0") ≡ Err (f.BadLine 2)
unfolding draft line_command command_of begin_at_command program_call
begin_at_nothing = refl

begin_past_the_end : line_command draft 2 (codes "begin-at 18446744073709551616 Look 1") ≡ Err (f.BadLine 2)
unfolding draft line_command command_of begin_at_command program_call
begin_past_the_end = refl

begin_at_no_name : line_command draft 2 (codes "begin-at 0 Lok 1") ≡ Err (f.UnknownName 2)
unfolding draft line_command command_of begin_at_command program_call
begin_at_no_name = refl

bad_argument_first : line_command draft 2 (codes "begin-at 0 Lok x") ≡ Err (f.BadLine 2)
unfolding draft line_command command_of begin_at_command program_call
bad_argument_first = refl

one_step : line_command draft 1 (codes "step 5") ≡ Ok (Steps 5 1)
unfolding draft line_command command_of step_command
one_step = refl

steps : line_command draft 1 (codes "step 0 1000") ≡ Ok (Steps 0 1000)
unfolding draft line_command command_of step_command
steps = refl

commit : line_command draft 1 (codes " commit 3") ≡ Ok (Event (e.Commit 3))
unfolding draft line_command command_of one_instance commit_command
commit = refl

comment : line_command draft 1 (codes "# commit") ≡ Ok Skip
unfolding line_command
comment = refl

spaces_alone : line_command draft 4 (codes "  ") ≡ Err (f.BadLine 4)
unfolding line_command command_of
spaces_alone = refl

abort : line_command draft 1 (codes "abort 2") ≡ Ok (Event (e.Abort 2))
unfolding draft line_command command_of one_instance abort_command
abort = refl

abort_of_nothing : line_command draft 3 (codes "abort") ≡ Err (f.BadLine 3)
unfolding draft line_command command_of one_instance abort_command
abort_of_nothing = refl

vacuum : line_command draft 1 (codes "vacuum ") ≡ Ok (Event e.Vacuum)
unfolding draft line_command command_of vacuum_command
vacuum = refl

vacuum_with_a_number : line_command draft 3 (codes "vacuum 1") ≡ Err (f.BadLine 3)
unfolding draft line_command command_of vacuum_command
vacuum_with_a_number = refl

unknown_line : line_command draft 4 (codes "jump") ≡ Err (f.BadLine 4)
unfolding line_command command_of
unknown_line = refl

bad_number_first : line_command draft 2 (codes "row u x = 1") ≡ Err (f.BadLine 2)
unfolding draft line_command command_of row_command row_line_of
bad_number_first = refl

three_keys : line_command draft 2 (codes "row t 1 2 3 = 4") ≡ Err (f.BadLine 2)
unfolding draft line_command command_of row_command row_line_of
three_keys = refl

unknown_table : line_command draft 2 (codes "row u 1 = 1") ≡ Err (f.UnknownName 2)
unfolding draft line_command command_of row_command row_line_of
unknown_table = refl

no_name : line_command draft 2 (codes "begin 7") ≡ Err (f.UnknownName 2)
unfolding draft line_command command_of begin_command program_call
no_name = refl

past_ascii : line_command draft 2 (codes "begin " ++ 200 ∷ []) ≡ Err (f.UnknownName 2)
unfolding draft line_command command_of begin_command program_call
past_ascii = refl

one_key_of_two : line_command draft 2 (codes "row e 1 = 3") ≡ Err (f.WrongKeys 2)
unfolding draft line_command command_of row_command row_line_of
one_key_of_two = refl

two_keys_of_one : line_command draft 2 (codes "row t 1 2 = 3") ≡ Err (f.WrongKeys 2)
unfolding draft line_command command_of row_command row_line_of
two_keys_of_one = refl

-- rows in the order of tables and keys, events in the order of lines
script : script_of draft (codes "# rows\nrow e 7 1 = 9\r\nrow t 2 = 5\n\nrow t 1 = 4\nbegin Look 1\nstep 0 2\ncommit 0") ≡ Ok (record {
  rows = (record { table = 0; first = pos 1; second = pos 0 }, pos 4) ∷ (record { table = 0; first = pos 2; second = pos 0 }, pos 5) ∷ (record { table = 1; first = pos 7; second = pos 1 }, pos 9) ∷ [];
  events = e.Begin 0 (pos 1 ∷ []) ∷ e.Step 0 ∷ e.Step 0 ∷ e.Commit 0 ∷ [];
})
unfolding draft sayings_from line_command command_of row_command row_line_of begin_command program_call step_command one_instance commit_command
script = refl

row_behind_a_vacuum : script_of draft (codes "vacuum\nabort 0\nrow t 2 = 1") ≡ Err (f.LateRow 3)
unfolding draft sayings_from line_command command_of row_command row_line_of one_instance abort_command vacuum_command
row_behind_a_vacuum = refl

late_row : script_of draft (codes "row t 1 = 1\ncommit 0\n\nrow t 2 = 1\nrow t 1 = 1") ≡ Err (f.LateRow 4)
unfolding draft sayings_from line_command command_of row_command row_line_of one_instance commit_command
late_row = refl

repeated_row : script_of draft (codes "row t 1 = 1\nrow t 2 = 1\n# again\nrow t 01 = 2\njump") ≡ Err (f.RepeatedRow 4)
unfolding draft sayings_from line_command command_of row_command row_line_of
repeated_row = refl

late_before_repeated : script_of draft (codes "row t 1 = 1\nstep 0\nrow t 1 = 1") ≡ Err (f.LateRow 3)
unfolding draft sayings_from line_command command_of row_command row_line_of step_command
late_before_repeated = refl

unknown_before_late : script_of draft (codes "step 0\nrow u 1 = 1") ≡ Err (f.UnknownName 2)
unfolding draft sayings_from line_command command_of row_command row_line_of step_command
unknown_before_late = refl

room : room_fault 9 [] 1000000 ≡ None
room = refl

no_room : room_fault 9 (e.Commit 0 ∷ []) 1000000 ≡ Some (f.TooManyEvents 9)
no_room = refl
