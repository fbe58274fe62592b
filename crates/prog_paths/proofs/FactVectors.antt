-- Worked examples of the facts of questions, told by hand.
use Rattle.std.specs.Prelude.{◌≡◌, [], ◌∷◌, pos, None, Some, true}
use Rattle.std.proofs.Common.{refl, inl, arith}
use Rattle.prog_tree.specs.Number.{least, greatest}
use Rattle.order_facts.specs.declared.steps.Node.{Node}
use Rattle.order_facts.specs.declared.steps.Node.TheVariants.{Mine, MineUnknown, Theirs, Number}
use Rattle.order_facts.specs.declared.steps.Fact.{Fact}
use Rattle.order_facts.specs.Chain.{IsChain, RunsBetween}
use Rattle.prog_check.specs.declared.path.Kind.TheVariants.{Reads, Lacks, Writes, Adds}
use Rattle.prog_check.specs.declared.path.Term.TheVariants.{Param, Literal, Unknown}
use Rattle.prog_check.specs.declared.path.Access.{Access}
use Rattle.prog_check.proofs.PathVectors.{at_one, at_two}
use Rattle.prog_paths.specs.Facts.{question_facts}

abbrev fact : Node → Node → Fact
fact lo hi = record { lo = lo; hi = hi }

-- a key of each side: both are equal
one_key : question_facts (at_one Lacks 0 (Param 0) 0) (at_one Adds 0 (Param 1) 0) ≡ fact (Mine 0) (Theirs 1) ∷ fact (Theirs 1) (Mine 0) ∷ []
one_key = refl

-- an unknown is a node of its side
computed_key : question_facts (at_one Reads 0 (Unknown 0) 0) (at_one Writes 0 (Param 1) 1) ≡ fact (MineUnknown 0) (Theirs 1) ∷ fact (Theirs 1) (MineUnknown 0) ∷ []
computed_key = refl

-- count t[a..5] against put t[b]: b is from a to 5
abbrev up_to_five : Access
up_to_five = record { kind = Reads; table = 0; first = record { low = Param 0; high = Literal (pos 5) }; second = None; place = 0; sure = true }

range : question_facts up_to_five (at_one Writes 0 (Param 1) 1) ≡ fact (Mine 0) (Theirs 1) ∷ fact (Theirs 1) (Number (pos 5)) ∷ []
range = refl

-- all entries of a day against one of them: the day is the same, and the second column is within all numbers
abbrev entries : Access
entries =
    record { kind = Reads; table = 1; first = record { low = Param 0; high = Param 0 }; second = Some (record { low = Literal least; high = Literal greatest }); place = 0; sure = true }

two_columns : question_facts entries (at_two Adds 1 (Param 0) (Param 1) 1)
    ≡ fact (Mine 0) (Theirs 0) ∷ fact (Theirs 0) (Mine 0) ∷ fact (Number least) (Theirs 1) ∷ fact (Theirs 1) (Number greatest) ∷ []
two_columns = refl

-- a read of t[1] and a write of t[2] never meet: a chain runs from 2 to 1
apart : IsChain (question_facts (at_one Reads 0 (Literal (pos 1)) 0) (at_one Writes 0 (Literal (pos 2)) 0)) (Number (pos 2) ∷ Number (pos 1) ∷ [])
apart = (inl (1, omega arith, refl), tt)

apart_runs : RunsBetween (Number (pos 2)) (Number (pos 1)) (Number (pos 2) ∷ Number (pos 1) ∷ [])
apart_runs = (refl, refl)
