-- Worked examples, proved by computation.
use Rattle.std.proofs.Common.{◌≡◌, refl}
use Rattle.std.specs.Prelude.{ℤ, pos, List, [], ◌∷◌, length, Some, None}
use Rattle.prog_tree.specs.declared.cell.Cell.{Cell}
use Rattle.prog_tree.specs.ChangeSet.{ChangeSet, no_changes}
use Rattle.prog_tree.specs.Table.{TableState}
use Rattle.version_store.specs.Clash.{clash_of}
use Rattle.version_store.specs.Commits.{state_at}
use Rattle.version_store.specs.Reading.{value_at, last_number}
use Rattle.version_store.specs.StandsFor.{no_chain, chain_of, trimmed}
use Rattle.version_store.specs.Trimming.{touches_above, within, beyond}
use Rattle.version_store.specs.Versions.{retained, reclaimed, versions_of}

-- the cells t[1] and t[2]
abbrev t1 : Cell
t1 = record { table = 0; first = pos 1; second = pos 0 }

abbrev t2 : Cell
t2 = record { table = 0; first = pos 2; second = pos 0 }

abbrev puts : Cell → ℤ → ChangeSet
puts c v = record { cells = (c, Some v) ∷ []; kept = [] }

abbrev removes : Cell → ChangeSet
removes c = record { cells = (c, None) ∷ []; kept = [] }

abbrev keeps : Cell → ChangeSet
keeps c = record { cells = []; kept = c ∷ [] }

-- ---- t[1] = 0, then three commits that put 1, 2 and 3, one that changes nothing, and one that removes it

abbrev opening : TableState
opening = (t1, pos 0) ∷ []

abbrev three : List ChangeSet
three = puts t1 (pos 1) ∷ puts t1 (pos 2) ∷ puts t1 (pos 3) ∷ []

abbrev five : List ChangeSet
five = puts t1 (pos 1) ∷ puts t1 (pos 2) ∷ puts t1 (pos 3) ∷ no_changes ∷ removes t1 ∷ []

pub four_versions : length (versions_of opening three) ≡ 4
four_versions = refl

pub five_versions : length (versions_of opening five) ≡ 5
five_versions = refl

pub all_retained : length (retained opening three 0) ≡ 4
all_retained = refl

pub first_vacuum : reclaimed opening three 0 1 ≡ 1
first_vacuum = refl

pub second_vacuum : reclaimed opening five 1 4 ≡ 2
second_vacuum = refl

pub last_vacuum : reclaimed opening five 4 5 ≡ 2
last_vacuum = refl

pub none_retained : retained opening five 5 ≡ []
none_retained = refl

pub state_before : state_at opening five 0 ≡ (t1, pos 0) ∷ []
state_before = refl

pub state_of_two : state_at opening five 2 ≡ (t1, pos 2) ∷ []
state_of_two = refl

pub state_of_all : state_at opening five 5 ≡ []
state_of_all = refl

pub read_of_four : value_at 4 (chain_of opening five t1) ≡ Some (pos 3)
read_of_four = refl

-- a removal is no return to the opening row
pub read_of_removed : value_at 5 (chain_of opening five t1) ≡ None
read_of_removed = refl

-- ---- the same row without the commit that changes nothing: t[1] = 0, three puts, then a removal

abbrev four : List ChangeSet
four = puts t1 (pos 1) ∷ puts t1 (pos 2) ∷ puts t1 (pos 3) ∷ removes t1 ∷ []

pub two_more : reclaimed opening three 1 3 ≡ 2
two_more = refl

pub one_left : length (retained opening three 3) ≡ 1
one_left = refl

pub removal_and_row : reclaimed opening four 3 4 ≡ 2
removal_and_row = refl

pub nothing_left : length (retained opening four 4) ≡ 0
nothing_left = refl

-- ---- what a vacuum leaves of a chain

pub trimmed_at_none : trimmed 0 (chain_of opening three t1) ≡ chain_of opening three t1
trimmed_at_none = refl

pub trimmed_at_one : trimmed 1 (chain_of opening three t1) ≡ record { versions = (1, Some (pos 1)) ∷ (2, Some (pos 2)) ∷ (3, Some (pos 3)) ∷ []; marks = [] }
trimmed_at_one = refl

pub trimmed_at_three : trimmed 3 (chain_of opening three t1) ≡ record { versions = (3, Some (pos 3)) ∷ []; marks = [] }
trimmed_at_three = refl

pub trimmed_at_removal : trimmed 4 (chain_of opening four t1) ≡ no_chain
trimmed_at_removal = refl

-- above the floor a removal stays
pub removal_above : trimmed 3 (chain_of opening four t1) ≡ record { versions = (3, Some (pos 3)) ∷ (4, None) ∷ []; marks = [] }
removal_above = refl

pub read_after : value_at 3 (trimmed 3 (chain_of opening four t1)) ≡ Some (pos 3)
read_after = refl

pub mark_above : trimmed 0 (chain_of [] (keeps t1 ∷ []) t1) ≡ record { versions = []; marks = 1 ∷ [] }
mark_above = refl

pub mark_goes : trimmed 1 (chain_of [] (keeps t1 ∷ []) t1) ≡ no_chain
mark_goes = refl

-- ---- the touches by which a vacuum finds its cells

pub touches : touches_above 1 1 (puts t1 (pos 1) ∷ keeps t2 ∷ removes t1 ∷ []) ≡ (2, t2) ∷ (3, t1) ∷ []
touches = refl

pub touches_within : within 2 ((2, t2) ∷ (3, t1) ∷ []) ≡ t2 ∷ []
touches_within = refl

pub touches_beyond : beyond 2 ((2, t2) ∷ (3, t1) ∷ []) ≡ (3, t1) ∷ []
touches_beyond = refl

-- ---- marks of keep are not counted

pub kept_alone : length (versions_of [] (keeps t1 ∷ [])) ≡ 0
kept_alone = refl

pub kept_reclaims_nothing : reclaimed [] (keeps t1 ∷ []) 0 1 ≡ 0
kept_reclaims_nothing = refl

pub kept_clashes : clash_of (keeps t1 ∷ []) 0 (keeps t1) ≡ Some (t1, 1)
kept_clashes = refl

pub kept_before : clash_of (keeps t1 ∷ []) 1 (keeps t1) ≡ None
kept_before = refl

-- ---- the least cell, and the greatest number

abbrev commits : List ChangeSet
commits = puts t2 (pos 1) ∷ puts t1 (pos 1) ∷ keeps t1 ∷ removes t2 ∷ []

-- t[1] is kept, and t[2] changed
abbrev both : ChangeSet
both = record { cells = (t2, Some (pos 9)) ∷ []; kept = t1 ∷ [] }

pub least_cell : clash_of commits 0 both ≡ Some (t1, 3)
least_cell = refl

pub other_cell : clash_of commits 3 both ≡ Some (t2, 4)
other_cell = refl

pub no_cell : clash_of commits 4 both ≡ None
no_cell = refl

pub last_of_kept : last_number (chain_of [] commits t1) ≡ 3
last_of_kept = refl
