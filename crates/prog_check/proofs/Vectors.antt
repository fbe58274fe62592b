-- Worked examples of first faults, computed from the definition.
use Rattle.std.proofs.Common.{◌≡◌, ℕ, ◌+◌, zero, suc, [], ◌∷◌, ◌++◌, refl, true, false, List}
use Rattle.std.specs.Prelude.{Bool, Option, Some, None, pos, codes}
use Rattle.prog_tree.specs.declared.table.Arity.{Arity}
use Rattle.prog_tree.specs.declared.table.Arity.TheVariants as arity
use Rattle.prog_tree.specs.declared.table.TableDecl.{TableDecl}
use Rattle.prog_tree.specs.Syntax.{Name, ExprTree, Literal, Named, Plus, Less, TestTree, KeyTree, One, Two, TwoRange, BlockTree, BlockEnd, Then, Branch, ProgramTree, DraftTree}
use Rattle.prog_tree.specs.Syntax as s
use Rattle.prog_check.specs.declared.fault.CheckFault.{CheckFault}
use Rattle.prog_check.specs.declared.fault.CheckFault.TheVariants.{DuplicateTable, DuplicateProgram, DuplicateParameter, UnknownTable, UnknownName, NameTaken, WrongArity, GrowTableChanged, AfterAbort, TooMany, TooManyPaths}
use Rattle.prog_check.specs.declared.fault.Place.TheVariants.{Table, Program, Statement}
use Rattle.prog_check.specs.Faults.{first_fault}

-- ---- drafts in short

abbrev pub table_of : List ℕ → Arity → Bool → TableDecl
table_of name columns grow = record { name = name; arity = columns; grow = grow }

abbrev pub program_of : List ℕ → List Name → BlockTree → ProgramTree
program_of name params body = record { name = name; params = params; body = body }

-- `table t 1; table e 2; table g 1 grow;`
abbrev tables : List TableDecl
tables = table_of (codes "t") arity.One false ∷ table_of (codes "e") arity.Two false ∷ table_of (codes "g") arity.One true ∷ []

abbrev fault_of_programs : List ProgramTree → Option CheckFault
fault_of_programs programs = first_fault (record { tables = tables; programs = programs })

-- the fault of a program `P(a)` with this body
abbrev fault_of : BlockTree → Option CheckFault
fault_of body = fault_of_programs (program_of (codes "P") (codes "a" ∷ []) body ∷ [])

abbrev fault_of_tables : List TableDecl → Option CheckFault
fault_of_tables declared = first_fault (record { tables = declared; programs = [] })

abbrev one : ExprTree
one = Literal (pos 1)

abbrev a_value : ExprTree
a_value = Named (codes "a")

abbrev b_value : ExprTree
b_value = Named (codes "b")

-- `a < 1`
abbrev below : TestTree
below = (record { negated = false; left = a_value; relation = Less; right = one } ∷ []) ∷ []

abbrev let_b : BlockTree → BlockTree
let_b rest = Then (s.Bind (codes "b") one) rest

abbrev reply_b : BlockTree → BlockTree
reply_b rest = Then (s.Reply b_value) rest

-- `reply 1;` so many times
abbrev replies : ℕ → BlockTree → BlockTree
replies zero rest = rest
replies (suc n) rest = Then (s.Reply one) (replies n rest)

-- tables named by one byte each, from a code on
abbrev tables_from : ℕ → ℕ → List TableDecl
tables_from code zero = []
tables_from code (suc n) = table_of (code ∷ []) arity.One false ∷ tables_from (code + 1) n

abbrev programs_from : ℕ → ℕ → List ProgramTree
programs_from code zero = []
programs_from code (suc n) = program_of (code ∷ []) [] BlockEnd ∷ programs_from (code + 1) n

abbrev names_from : ℕ → ℕ → List Name
names_from code zero = []
names_from code (suc n) = (code ∷ []) ∷ names_from (code + 1) n

-- ---- tables and programs

empty : first_fault (record { tables = []; programs = [] }) ≡ None
empty = refl

-- the first of two repeated names is reported
table_twice : fault_of_tables (table_of (codes "t") arity.One false ∷ table_of (codes "t") arity.Two false ∷ table_of (codes "t") arity.One true ∷ []) ≡ Some (DuplicateTable (Table 1))
table_twice = refl

tables_64 : fault_of_tables (tables_from 0 64) ≡ None
tables_64 = refl

tables_65 : fault_of_tables (tables_from 0 65) ≡ Some (TooMany (Table 64))
tables_65 = refl

-- the number of tables is counted before the name
table_65_twice : fault_of_tables (tables_from 0 64 ++ table_of (0 ∷ []) arity.One false ∷ []) ≡ Some (TooMany (Table 64))
table_65_twice = refl

program_twice : fault_of_programs (program_of (codes "P") [] BlockEnd ∷ program_of (codes "P") [] BlockEnd ∷ []) ≡ Some (DuplicateProgram (Program 1))
program_twice = refl

-- tables, programs and values have separate names
names_apart : fault_of_programs (program_of (codes "t") (codes "t" ∷ []) BlockEnd ∷ []) ≡ None
names_apart = refl

programs_16 : fault_of_programs (programs_from 65 16) ≡ None
programs_16 = refl

programs_17 : fault_of_programs (programs_from 65 17) ≡ Some (TooMany (Program 16))
programs_17 = refl

-- the number of programs is counted before the name
program_17_twice : fault_of_programs (programs_from 65 16 ++ program_of (65 ∷ []) [] BlockEnd ∷ []) ≡ Some (TooMany (Program 16))
program_17_twice = refl

parameters_8 : fault_of_programs (program_of (codes "P") (names_from 65 8) BlockEnd ∷ []) ≡ None
parameters_8 = refl

-- the count comes before the repeated name
parameters_9 : fault_of_programs (program_of (codes "P") (codes "A" ∷ names_from 65 8) BlockEnd ∷ []) ≡ Some (TooMany (Program 0))
parameters_9 = refl

-- and a program's own name comes before its parameters are counted
program_twice_with_9 : fault_of_programs (program_of (codes "P") [] BlockEnd ∷ program_of (codes "P") (names_from 65 9) BlockEnd ∷ []) ≡ Some (DuplicateProgram (Program 1))
program_twice_with_9 = refl

parameter_twice : fault_of_programs (program_of (codes "P") (codes "a" ∷ codes "b" ∷ codes "a" ∷ []) BlockEnd ∷ []) ≡ Some (DuplicateParameter (Program 0))
parameter_twice = refl

-- one program is gone through before the next
first_program_first : fault_of_programs (program_of (codes "P") [] (reply_b BlockEnd) ∷ program_of (codes "P") [] BlockEnd ∷ []) ≡ Some (UnknownName (Statement 0 0))
first_program_first = refl

-- ---- statements

unknown_table : fault_of (Then (s.Put (codes "u") (One one) one) BlockEnd) ≡ Some (UnknownTable (Statement 0 0))
unknown_table = refl

one_key_for_two : fault_of (Then (s.Put (codes "e") (One one) one) BlockEnd) ≡ Some (WrongArity (Statement 0 0))
one_key_for_two = refl

two_ends_for_one : fault_of (Then (s.Count (codes "n") (codes "t") (TwoRange one one one)) BlockEnd) ≡ Some (WrongArity (Statement 0 0))
two_ends_for_one = refl

put_on_grow_table : fault_of (Then (s.Put (codes "g") (One one) one) BlockEnd) ≡ Some (GrowTableChanged (Statement 0 0))
put_on_grow_table = refl

insert_into_grow_table : fault_of (Then (s.Insert (codes "g") (One one) one) (Then (s.Keep (codes "g") (One one)) BlockEnd)) ≡ None
insert_into_grow_table = refl

-- the rules are gone through in their order, each over the whole statement
table_before_names : fault_of (Then (s.Put (codes "u") (One b_value) one) BlockEnd) ≡ Some (UnknownTable (Statement 0 0))
table_before_names = refl

name_before_taken : fault_of (Then (s.Bind (codes "a") (Plus a_value b_value)) BlockEnd) ≡ Some (UnknownName (Statement 0 0))
name_before_taken = refl

-- a new name isn't visible in its own statement, but behind it
own_name : fault_of (Then (s.Bind (codes "b") b_value) BlockEnd) ≡ Some (UnknownName (Statement 0 0))
own_name = refl

next_statement : fault_of (let_b (reply_b BlockEnd)) ≡ None
next_statement = refl

taken_by_parameter : fault_of (Then (s.Get (codes "a") (codes "t") (One one) one) BlockEnd) ≡ Some (NameTaken (Statement 0 0))
taken_by_parameter = refl

after_abort : fault_of (Then s.Abort (reply_b BlockEnd)) ≡ Some (AfterAbort (Statement 0 1))
after_abort = refl

statement_255 : fault_of (replies 256 BlockEnd) ≡ None
statement_255 = refl

statement_256 : fault_of (replies 256 (reply_b BlockEnd)) ≡ Some (TooMany (Statement 0 256))
statement_256 = refl

-- ---- blocks

-- a `let` ends with its block
let_ends : fault_of (Branch below (let_b BlockEnd) BlockEnd (reply_b BlockEnd)) ≡ Some (UnknownName (Statement 0 2))
let_ends = refl

side_by_side : fault_of (Branch below (let_b (reply_b BlockEnd)) (let_b (reply_b BlockEnd)) (let_b BlockEnd)) ≡ None
side_by_side = refl

taken_in_block : fault_of (let_b (Branch below (let_b BlockEnd) BlockEnd BlockEnd)) ≡ Some (NameTaken (Statement 0 2))
taken_in_block = refl

-- a branch is numbered before its blocks, the first before the second
in_second_block : fault_of (Branch below (replies 2 BlockEnd) (replies 1 (reply_b BlockEnd)) BlockEnd) ≡ Some (UnknownName (Statement 0 4))
in_second_block = refl

after_abort_in_block : fault_of (Branch below BlockEnd (Then s.Abort (replies 1 BlockEnd)) BlockEnd) ≡ Some (AfterAbort (Statement 0 2))
after_abort_in_block = refl

branch_after_abort : fault_of (Then s.Abort (Branch below BlockEnd BlockEnd BlockEnd)) ≡ Some (AfterAbort (Statement 0 1))
branch_after_abort = refl

-- a block that aborts ends no block round it
block_aborts : fault_of (Branch below (Then s.Abort BlockEnd) (Then s.Abort BlockEnd) (replies 1 BlockEnd)) ≡ None
block_aborts = refl

-- the numbers go on through blocks
counted_through : fault_of (Branch below (replies 200 BlockEnd) (replies 54 BlockEnd) (replies 2 BlockEnd)) ≡ Some (TooMany (Statement 0 256))
counted_through = refl

-- ---- committing paths

-- `if a < 1 { .. } else { .. }` so many times, with these two blocks
abbrev branches : ℕ → BlockTree → BlockTree → BlockTree → BlockTree
branches zero a b rest = rest
branches (suc n) a b rest = Branch below a b (branches n a b rest)

-- `keep t[1];` so many times
abbrev keeps : ℕ → BlockTree → BlockTree
keeps zero rest = rest
keeps (suc n) rest = Then (s.Keep (codes "t") (One one)) (keeps n rest)

abbrev inserts : Name → ℕ → BlockTree → BlockTree
inserts table zero rest = rest
inserts table (suc n) rest = Then (s.Insert table (One one) one) (inserts table n rest)

abbrev aborts : BlockTree
aborts = Then s.Abort BlockEnd

paths_32 : fault_of (branches 5 BlockEnd BlockEnd BlockEnd) ≡ None
paths_32 = refl

paths_33 : fault_of (Branch below BlockEnd (branches 5 BlockEnd BlockEnd BlockEnd) BlockEnd) ≡ Some (TooManyPaths (Program 0))
paths_33 = refl

paths_64 : fault_of (branches 6 BlockEnd BlockEnd BlockEnd) ≡ Some (TooManyPaths (Program 0))
paths_64 = refl

-- a route that meets `abort;` is no path
aborting_routes : fault_of (branches 5 BlockEnd BlockEnd (branches 3 aborts BlockEnd BlockEnd)) ≡ None
aborting_routes = refl

accesses_24 : fault_of (keeps 24 BlockEnd) ≡ None
accesses_24 = refl

accesses_25 : fault_of (keeps 25 BlockEnd) ≡ Some (TooMany (Program 0))
accesses_25 = refl

-- accesses are counted path by path
accesses_per_path : fault_of (Branch below (keeps 23 BlockEnd) (keeps 22 BlockEnd) (keeps 1 BlockEnd)) ≡ None
accesses_per_path = refl

accesses_on_one_path : fault_of (Branch below (keeps 22 BlockEnd) (keeps 24 BlockEnd) (keeps 1 BlockEnd)) ≡ Some (TooMany (Program 0))
accesses_on_one_path = refl

accesses_before_abort : fault_of (Branch below (keeps 25 aborts) (keeps 23 BlockEnd) (keeps 1 BlockEnd)) ≡ None
accesses_before_abort = refl

-- without a committing path nothing is counted
no_committing_path : fault_of (keeps 25 aborts) ≡ None
no_committing_path = refl

inserts_into_grow_table : fault_of (inserts (codes "g") 24 BlockEnd) ≡ None
inserts_into_grow_table = refl

inserts_into_plain_table : fault_of (inserts (codes "t") 13 BlockEnd) ≡ Some (TooMany (Program 0))
inserts_into_plain_table = refl

-- paths count before accesses, statements before both, and a program's paths before the next program
paths_before_accesses : fault_of (keeps 25 (branches 6 BlockEnd BlockEnd BlockEnd)) ≡ Some (TooManyPaths (Program 0))
paths_before_accesses = refl

statements_before_paths : fault_of (branches 6 BlockEnd BlockEnd (reply_b BlockEnd)) ≡ Some (UnknownName (Statement 0 6))
statements_before_paths = refl

paths_before_next_program : fault_of_programs (program_of (codes "P") (codes "a" ∷ []) (keeps 25 BlockEnd) ∷ program_of (codes "P") [] BlockEnd ∷ []) ≡ Some (TooMany (Program 0))
paths_before_next_program = refl
