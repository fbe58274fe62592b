-- The lines that `run` writes.
use Rattle.std.specs.Prelude.{ℕ, ℤ, List, [], ◌++◌, Option, Some, None, codes, slice_get}
use Rattle.std.specs.Fmt.{decimal, signed_decimal}
use Rattle.std.specs.List.{flat_map}
use Rattle.prog_tree.specs.Syntax.{Name}
use Rattle.prog_tree.specs.declared.cell.Cell.{Cell}
use Rattle.prog_tree.specs.declared.cell.Region.{Region}
use Rattle.prog_tree.specs.declared.deed.Deed.{Deed}
use Rattle.prog_tree.specs.declared.deed.Deed.TheVariants.{Read, Counted, Summed, Listed, Put, Removed, Kept}
use Rattle.prog_tree.specs.declared.deed.Cause.{Cause}
use Rattle.prog_tree.specs.declared.deed.Cause.TheVariants.{Asked, Missing, Present, Overflow}
use Rattle.prog_tree.specs.declared.table.Arity.{Arity}
use Rattle.prog_tree.specs.declared.table.Arity.TheVariants.{One, Two}
use Rattle.prog_tree.specs.declared.table.TableDecl.{TableDecl}
use Rattle.si_engine.specs.declared.event.Event.{Event}
use Rattle.si_engine.specs.declared.event.Event.TheVariants as e
use Rattle.si_engine.specs.declared.event.Reply.{Reply}
use Rattle.si_engine.specs.declared.event.Reply.TheVariants.{Begun, NoSuchProgram, WrongArguments, TooOld, TooNew, Full, Did, Ready, Aborted, Committed, Clashed, Withdrawn, Vacuumed, NoSuchInstance, Ended, NotReady}

-- the name of a table and how many key columns it has; a table that is not there has no name and one column
abbrev pub head_of : Option TableDecl → Name × Arity
head_of None = ([], One)
head_of (Some table) = (table.name, table.arity)

abbrev pub table_head : List TableDecl → ℕ → Name × Arity
table_head tables number = head_of (slice_get tables number)

-- `t[7]` or `e[7, 2]`
abbrev pub cell_text_in : Name → Arity → Cell → List ℕ
cell_text_in name One c = name ++ (codes "[" ++ (signed_decimal c.first ++ codes "]"))
cell_text_in name Two c =
    name ++ (codes "[" ++ (signed_decimal c.first ++ (codes ", " ++ (signed_decimal c.second ++ codes "]"))))

abbrev pub cell_text : List TableDecl → Cell → List ℕ
cell_text tables c = let head = table_head tables c.table in cell_text_in head.0 head.1 c

-- `t[1..2]` or `e[7, 1..3]`
abbrev pub region_in : Name → Arity → Region → List ℕ
region_in name One r =
    name ++ (codes "[" ++ (signed_decimal r.first_low ++ (codes ".." ++ (signed_decimal r.first_high ++ codes "]"))))
region_in name Two r =
    name ++ (codes "[" ++ (signed_decimal r.first_low ++ (codes ", " ++ (signed_decimal r.second_low
    ++ (codes ".." ++ (signed_decimal r.second_high ++ codes "]"))))))

abbrev pub region_text : List TableDecl → Region → List ℕ
region_text tables r = let head = table_head tables r.table in region_in head.0 head.1 r

-- a value, or that there is none
abbrev pub value_text : Option ℤ → List ℕ
value_text (Some v) = signed_decimal v
value_text None = codes "absent"

abbrev pub deed_text : List TableDecl → Deed → List ℕ
deed_text tables (Read c v) = codes "read " ++ (cell_text tables c ++ (codes " " ++ value_text v))
deed_text tables (Counted r v) = codes "count " ++ (region_text tables r ++ (codes " " ++ signed_decimal v))
deed_text tables (Summed r v) = codes "sum " ++ (region_text tables r ++ (codes " " ++ signed_decimal v))
deed_text tables (Listed r n) = codes "list " ++ (region_text tables r ++ (codes " " ++ decimal n))
deed_text tables (Put c v) = codes "put " ++ (cell_text tables c ++ (codes " " ++ signed_decimal v))
deed_text tables (Removed c) = codes "removed " ++ cell_text tables c
deed_text tables (Kept c) = codes "kept " ++ cell_text tables c

abbrev pub cause_text : List TableDecl → Cause → List ℕ
cause_text tables Asked = codes "asked"
cause_text tables (Missing c) = codes "missing " ++ cell_text tables c
cause_text tables (Present c) = codes "present " ++ cell_text tables c
cause_text tables Overflow = codes "overflow"

-- numbers, each behind a space
abbrev pub numbers_text : List ℤ → List ℕ
numbers_text ns = flat_map (λ n. codes " " ++ signed_decimal n) ns

-- what is answered
abbrev pub reply_text : List TableDecl → Reply → List ℕ
reply_text tables (Begun instance start) = decimal instance ++ (codes " begun at " ++ decimal start)
reply_text tables NoSuchProgram = codes "refused no such program"
reply_text tables WrongArguments = codes "refused wrong arguments"
reply_text tables (TooOld floor) = codes "refused too old " ++ decimal floor
reply_text tables (TooNew commits) = codes "refused too new " ++ decimal commits
reply_text tables Full = codes "refused full"
reply_text tables (Did deed) = deed_text tables deed
reply_text tables (Ready replies) = codes "ready" ++ numbers_text replies
reply_text tables (Aborted cause) = codes "aborted " ++ cause_text tables cause
reply_text tables (Committed number) = codes "committed " ++ decimal number
reply_text tables (Clashed clash) =
    codes "clashed on " ++ (cell_text tables clash.cell ++ (codes " with " ++ decimal clash.number))
reply_text tables Withdrawn = codes "withdrawn"
reply_text tables (Vacuumed count) = codes "vacuumed " ++ decimal count
reply_text tables NoSuchInstance = codes "no such instance"
reply_text tables Ended = codes "ended"
reply_text tables NotReady = codes "not ready"

-- the instance of which a step, a commit or an abort speaks
abbrev pub subject : Event → List ℕ
subject (e.Begin program args) = []
subject (e.BeginAt start program args) = []
subject (e.Step instance) = decimal instance ++ codes " "
subject (e.Commit instance) = decimal instance ++ codes " "
subject (e.Abort instance) = decimal instance ++ codes " "
subject e.Vacuum = []

-- the line of an event and its reply
abbrev pub reply_line : List TableDecl → Event → Reply → List ℕ
reply_line tables event reply = subject event ++ (reply_text tables reply ++ codes "\n")

-- `row t 1 = 5` or `row e 7 2 = 5`
abbrev pub row_text_in : Name → Arity → Cell → ℤ → List ℕ
row_text_in name One c v =
    codes "row " ++ (name ++ (codes " " ++ (signed_decimal c.first
    ++ (codes " = " ++ (signed_decimal v ++ codes "\n")))))
row_text_in name Two c v =
    codes "row " ++ (name ++ (codes " " ++ (signed_decimal c.first ++ (codes " " ++ (signed_decimal c.second
    ++ (codes " = " ++ (signed_decimal v ++ codes "\n")))))))

-- the line of a row
abbrev pub printed_row : List TableDecl → Cell → ℤ → List ℕ
printed_row tables c v = let head = table_head tables c.table in row_text_in head.0 head.1 c v
