-- What chains of a question's facts show: that its accesses never meet, or that two cells are one wherever they do.
use Rattle.std.specs.Prelude.{◌≡◌, ℕ, ℤ, ◌<ℤ◌, List, [], ◌∷◌, Option, Some, None, slice_get}
use Rattle.order_facts.specs.declared.steps.Node.{Node}
use Rattle.order_facts.specs.declared.steps.Node.TheVariants.{Number}
use Rattle.order_facts.specs.declared.steps.Fact.{Fact}
use Rattle.order_facts.specs.Chain.{IsChain, RunsBetween, ForcesEqual}
use Rattle.prog_check.specs.declared.path.Term.{Term}
use Rattle.prog_check.specs.declared.path.Column.{Column}
use Rattle.prog_check.specs.declared.path.Access.{Access}
use Rattle.prog_paths.specs.Meeting.{MayCover}
use Rattle.prog_paths.specs.Facts.{mine_node, their_node, column_or_zero}
use Rattle.prog_paths.specs.StaticGraph.{IsUpToPair}

-- ---- apart

-- a chain of the facts runs from a number to a smaller one
pub record Falls (facts : List Fact) (chain : List Node) : Type 0 where
  pub greater : ℤ
  pub smaller : ℤ
  pub falls : smaller <ℤ greater
  pub is_chain : IsChain facts chain
  pub runs : RunsBetween (Number greater) (Number smaller) chain

-- ---- one cell

-- a chain of the facts runs from one node to another
abbrev pub Runs : List Fact → Node → Node → List Node → Type 0
Runs facts from to chain = IsChain facts chain × RunsBetween from to chain

-- the terms of the second columns of two cells, where their table has one
abbrev pub second_terms : Option Column → Option Column → List (Term × Term)
second_terms None None = []
second_terms None (Some theirs) = ((column_or_zero None).low, theirs.low) ∷ []
second_terms (Some mine) theirs = (mine.low, (column_or_zero theirs).low) ∷ []

-- the terms that two cells have in each key column
abbrev pub key_pairs : Access → Access → List (Term × Term)
key_pairs mine theirs = (mine.first.low, theirs.first.low) ∷ second_terms mine.second theirs.second

-- for each pair of terms a chain runs from mine to theirs, and the next one back
abbrev pub ShowEqual : List Fact → List (Term × Term) → List (List Node) → Type 0
ShowEqual facts [] [] = Unit {0}
ShowEqual facts (p ∷ ps) (there ∷ back ∷ chains) =
    Runs facts (mine_node p.0) (their_node p.1) there × Runs facts (their_node p.1) (mine_node p.0) back
    × ShowEqual facts ps chains
ShowEqual facts _ _ = ⊥

-- the facts put each pair of terms at most each other
abbrev pub AllEqual : List Fact → List (Term × Term) → Type 0
AllEqual facts [] = Unit {0}
AllEqual facts (p ∷ ps) =
    ForcesEqual facts (mine_node p.0) (their_node p.1) × AllEqual facts ps

-- both accesses change or keep, and the facts put them at one cell
pub record CoversBy (facts : List Fact) (mine theirs : Access) : Type 0 where
  pub mine_covers : MayCover mine
  pub theirs_covers : MayCover theirs
  pub table : mine.table ≡ theirs.table
  pub equal : AllEqual facts (key_pairs mine theirs)

-- access `m` of one list and access `t` of another cover
pub record CoversAt (facts : List Fact) (xs ys : List Access) (m t : ℕ) : Type 0 where
  pub mine : Access
  pub theirs : Access
  pub at_mine : slice_get xs m ≡ Some mine
  pub at_theirs : slice_get ys t ≡ Some theirs
  pub covers : CoversBy facts mine theirs

-- they do, and no pair before them
pub record CoversFirst (facts : List Fact) (xs ys : List Access) (m t : ℕ) : Type 0 where
  pub covers : CoversAt facts xs ys m t
  pub least : (i j : ℕ) → CoversAt facts xs ys i j → IsUpToPair m t i j
