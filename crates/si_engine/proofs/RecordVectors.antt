-- Records and last lines, read by hand.
use Rattle.std.proofs.Common.{◌≡◌, pos, neg_ℤ, ◌^◌, ◌-◌, [], ◌∷◌, false, Some, None, Ok, Err, refl, codes}
use Rattle.std.specs.Fmt.{digits}
use Rattle.prog_tree.specs.declared.table.Arity.TheVariants.{One}
use Rattle.prog_tree.specs.Syntax.{DraftTree, BlockEnd}
use Rattle.si_engine.specs.declared.output.finding.Serializability.TheVariants.{Order, Cycle}
use Rattle.si_engine.specs.declared.input.list_line.ListLine.TheVariants.{Skip, Item}
use Rattle.si_engine.specs.declared.input.line_fault.LineFault.TheVariants as f
use Rattle.si_engine.specs.LastLine.{last_line}
use Rattle.si_engine.specs.ListLines.{list_line, list_line_of}
use Rattle.si_engine.specs.Numbers.{u64_of}
use Rattle.si_engine.specs.Records.{record_line, record_row_of, records_of}
use Rattle.si_engine.specs.RowLines.{row_line_of}
use Rattle.si_engine.specs.Sayings.{sayings_from}

greatest_start : u64_of (codes "18446744073709551615") ≡ Some (2 ^ 64 - 1)
greatest_start = refl

past_starts : u64_of (codes "18446744073709551616") ≡ None
past_starts = refl

negative_start : u64_of (codes "-1") ≡ None
negative_start = refl

negative_zero : u64_of (codes "-0") ≡ Some 0
negative_zero = refl

-- a table `t` of one key column; programs `Look` and `at`
draft : DraftTree
draft = record {
  tables = record { name = codes "t"; arity = One; grow = false } ∷ [];
  programs = record { name = codes "Look"; params = codes "k" ∷ []; body = BlockEnd } ∷ record { name = codes "at"; params = codes "k" ∷ []; body = BlockEnd } ∷ [];
}

one_record : record_line draft 1 (codes "record Look 1 -2 at 3 gives 4 -5") ≡ Ok (Item (record {
  program = 0;
  args = pos 1 ∷ neg_ℤ (pos 2) ∷ [];
  start = 3;
  replies = pos 4 ∷ neg_ℤ (pos 5) ∷ [];
}))
unfolding draft list_line list_line_of record_row_of
one_record = refl

program_named_at : record_line draft 1 (codes "record at 5 at 0 gives") ≡ Ok (Item (record { program = 1; args = pos 5 ∷ []; start = 0; replies = [] }))
unfolding draft list_line list_line_of record_row_of
program_named_at = refl

no_program : record_line draft 2 (codes "record at 0 gives") ≡ Err (f.BadLine 2)
unfolding draft list_line list_line_of record_row_of
no_program = refl

no_gives : record_line draft 2 (codes "record Look 1 at 0") ≡ Err (f.BadLine 2)
unfolding draft list_line list_line_of record_row_of
no_gives = refl

no_start : record_line draft 2 (codes "record Look 1 gives -1") ≡ Err (f.BadLine 2)
unfolding draft list_line list_line_of record_row_of
no_start = refl

two_starts : record_line draft 2 (codes "record Look 1 at 0 at 0 gives") ≡ Err (f.BadLine 2)
unfolding draft list_line list_line_of record_row_of
two_starts = refl

bad_number_before_unknown_name : record_line draft 2 (codes "record Nope x at 0 gives") ≡ Err (f.BadLine 2)
unfolding draft list_line list_line_of record_row_of
bad_number_before_unknown_name = refl

unknown_program : record_line draft 2 (codes "record Nope 1 at 0 gives") ≡ Err (f.UnknownName 2)
unfolding draft list_line list_line_of record_row_of
unknown_program = refl

line_of_a_run : record_line draft 2 (codes "begin Look 1") ≡ Err (f.BadLine 2)
unfolding draft list_line list_line_of
line_of_a_run = refl

comment : record_line draft 2 (codes "# record") ≡ Ok Skip
unfolding list_line
comment = refl

records : records_of draft (codes "# history\n\nrow  t 1 =  4\r\nrecord  Look 1  at 0   gives 4\nrecord at 2 at 1 gives") ≡ Ok (record {
  rows = (record { table = 0; first = pos 1; second = pos 0 }, pos 4) ∷ [];
  items = record { program = 0; args = pos 1 ∷ []; start = 0; replies = pos 4 ∷ [] } ∷ record { program = 1; args = pos 2 ∷ []; start = 1; replies = [] } ∷ [];
})
unfolding draft sayings_from list_line list_line_of row_line_of record_row_of
records = refl

late_row : records_of draft (codes "row t 1 = 2\nrecord Look 1 at 0 gives 2\nrow t 2 = 3") ≡ Err (f.LateRow 3)
unfolding draft sayings_from list_line list_line_of row_line_of record_row_of
late_row = refl

repeated_row : records_of draft (codes "row t 1 = 2\n\nrow t 1 = 2") ≡ Err (f.RepeatedRow 3)
unfolding draft sayings_from list_line list_line_of row_line_of
repeated_row = refl

order : last_line Order (2 ∷ 1 ∷ []) ≡ codes "order 2 1\n"
unfolding digits
order = refl

no_commits : last_line Order [] ≡ codes "order\n"
no_commits = refl

cycle : last_line Cycle (1 ∷ 12 ∷ []) ≡ codes "cycle 1 12\n"
unfolding digits
cycle = refl
