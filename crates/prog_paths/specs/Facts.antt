-- The facts of a question, and the laws on them: assignments meet them just where the two accesses meet.
use Rattle.std.specs.Prelude.{◌≡◌, ◌↔◌, List, [], ◌∷◌, ◌++◌, pos, Option, Some, None}
use Rattle.order_facts.specs.declared.steps.Node.{Node}
use Rattle.order_facts.specs.declared.steps.Node.TheVariants.{Mine, MineUnknown, Theirs, TheirsUnknown, Number}
use Rattle.order_facts.specs.declared.steps.Fact.{Fact}
use Rattle.order_facts.specs.Chain as facts
use Rattle.prog_check.specs.declared.path.Term.{Term}
use Rattle.prog_check.specs.declared.path.Term.TheVariants.{Param, Literal, Unknown}
use Rattle.prog_check.specs.declared.path.Column.{Column}
use Rattle.prog_check.specs.declared.path.Access.{Access}
use Rattle.prog_check.specs.Accesses.{single}
use Rattle.prog_paths.specs.declared.accesses.facts.ColumnFacts.{ColumnFacts}
use Rattle.prog_paths.specs.declared.accesses.facts.ColumnFacts.TheVariants.{OneColumn, TwoColumns}
use Rattle.prog_paths.specs.Meeting.{Assignment, number_under, Meet, MeetsUnder, CanMeet, IsSingle}

-- ---- facts

-- what a fact calls a term of the first access
abbrev pub mine_node : Term → Node
mine_node (Param i) = Mine i
mine_node (Literal k) = Number k
mine_node (Unknown i) = MineUnknown i

-- what a fact calls a term of the second access
abbrev pub their_node : Term → Node
their_node (Param i) = Theirs i
their_node (Literal k) = Number k
their_node (Unknown i) = TheirsUnknown i

-- the second access's value lies between the first's ends
abbrev pub column_facts : Column → Column → List Fact
column_facts mine theirs =
    record { lo = mine_node mine.low; hi = their_node theirs.low }
    ∷ record { lo = their_node theirs.low; hi = mine_node mine.high }
    ∷ []

-- a table of one column has the number 0 for the second
abbrev pub column_or_zero : Option Column → Column
column_or_zero None = single (Literal (pos 0))
column_or_zero (Some column) = column

-- the facts on second columns, of which a table of one column has none
abbrev pub second_facts : Option Column → Option Column → List Fact
second_facts None None = []
second_facts None (Some theirs) = column_facts (column_or_zero None) theirs
second_facts (Some mine) theirs = column_facts mine (column_or_zero theirs)

-- the facts of a question whose second access is a single cell: it lies within the first access, column by column
abbrev pub question_facts : Access → Access → List Fact
question_facts mine theirs = column_facts mine.first theirs.first ++ second_facts mine.second theirs.second

-- the facts that stand in place, two for each column
abbrev pub facts_held : ColumnFacts → List Fact
facts_held (OneColumn facts) = facts
facts_held (TwoColumns facts) = facts

-- ---- the laws

-- the assignments of both sides as one valuation
abbrev pub both : Assignment → Assignment → facts.Valuation
both v w = record { mine = v.parameter; mine_unknown = v.unknown; theirs = w.parameter; theirs_unknown = w.unknown }

-- a pair of assignments makes an access and a single cell of its table meet just where it meets all facts of the two
abbrev pub LawOfMeeting : Type 0
LawOfMeeting =
    (mine theirs : Access) → mine.table ≡ theirs.table → IsSingle theirs
    → (v w : Assignment) → facts.Meets (both v w) (question_facts mine theirs) ↔ Meet v mine w theirs

-- an access and a single cell of its table can meet just where the facts of their question are consistent
abbrev pub LawOfConsistency : Type 0
LawOfConsistency =
    (mine theirs : Access) → mine.table ≡ theirs.table → IsSingle theirs
    → facts.IsConsistent (question_facts mine theirs) ↔ CanMeet mine theirs

-- the facts put a term of the first access and one of the second at most each other
abbrev pub EntailsEqual : Access → Access → Term → Term → Type 0
EntailsEqual mine theirs s t =
    facts.ForcesEqual (question_facts mine theirs) (mine_node s) (their_node t)

-- the two terms are equal under each pair of assignments under which the accesses meet
abbrev pub AreEqualWhereTheyMeet : Access → Access → Term → Term → Type 0
AreEqualWhereTheyMeet mine theirs s t =
    (v w : Assignment) → MeetsUnder v w mine theirs → number_under v s ≡ number_under w t

-- the facts put two terms at most each other just where the two are equal wherever the accesses meet
abbrev pub LawOfEqualTerms : Type 0
LawOfEqualTerms =
    (mine theirs : Access) → mine.table ≡ theirs.table → IsSingle theirs
    → (s t : Term) → EntailsEqual mine theirs s t ↔ AreEqualWhereTheyMeet mine theirs s t
