-- What is left of a run.
use Rattle.std.specs.Prelude.{ℕ, ◌+◌, pos, ◌*◌, List, [], ◌∷◌, ◌++◌, length, drop, fold, slice_get, Option, Some, None, option_map, option_and_then}
use Rattle.prog_tree.specs.declared.table.TableDecl.{TableDecl}
use Rattle.prog_tree.specs.declared.progress.Progress.{Progress}
use Rattle.prog_tree.specs.Syntax.{Name, Literal, OneRange, ListingTree, BlockTree, BlockEnd, Then, Branch, Each}
use Rattle.prog_tree.specs.Table.{TableState}
use Rattle.prog_tree.specs.Steps.{closed}
use Rattle.prog_tree.specs.Evaluation.{Flow, GoesOn, and_then, Turn, run_turns, run_block}

-- what is left of an `each` behind the turn that is being made
pub record TurnsTree : Type 0 where
  pub key : Name
  pub value : Name
  pub body : BlockTree
  pub left : List Turn

-- the head of an `each` with these names; its table and its range don't matter to turns
abbrev pub named : (key value : Name) → ListingTree
named key value = record { key = key; value = value; table = []; range = OneRange (Literal (pos 0)) (Literal (pos 0)) }

abbrev pub head_of : TurnsTree → ListingTree
head_of t = named t.key t.value

-- an open block: what is left of it, how many names were bound before it, and for the body of an `each` the turns
-- behind
pub record OpenTree : Type 0 where
  pub rest : BlockTree
  pub scope : ℕ
  pub turns : Option TurnsTree

-- the innermost open block, and those round it, the outermost first
pub record CursorTree : Type 0 where
  pub here : OpenTree
  pub outer : List OpenTree

-- the turns that are left, if it is the body of an `each`
abbrev pub finish_turns : List TableDecl → TableState → Option TurnsTree → Progress → Flow
finish_turns tables m None p = GoesOn p
finish_turns tables m (Some t) p = run_turns (head_of t) (run_block tables m t.body) t.left p

-- the rest of a block, its further turns, and then what comes after it
abbrev pub finish_block : List TableDecl → TableState → (Progress → Flow) → OpenTree → Progress → Flow
finish_block tables m after b p =
    and_then (run_block tables m b.rest p) (λ q.
    and_then (finish_turns tables m b.turns (closed b.scope q)) after)

-- the rest of all open blocks, the outermost first in the list
abbrev pub finish_all : List TableDecl → TableState → List OpenTree → Progress → Flow
finish_all tables m = fold (finish_block tables m) GoesOn

-- all that is left to run
abbrev pub todo : List TableDecl → TableState → CursorTree → Progress → Flow
todo tables m c = finish_block tables m (finish_all tables m c.outer) c.here

-- how many steps a block has at most; those of an `each` are counted once its rows are listed
abbrev pub weight : BlockTree → ℕ
weight BlockEnd = 1
weight (Then statement rest) = weight rest + 1
weight (Branch test a b rest) = weight a + weight b + weight rest + 1
weight (Each l body rest) = weight rest + 1

-- how many steps turns have at most
abbrev pub turns_weight : Option TurnsTree → ℕ
turns_weight None = 0
turns_weight (Some t) = length t.left * (weight t.body + 1)

abbrev pub open_weight : OpenTree → ℕ
open_weight b = weight b.rest + turns_weight b.turns

-- how many steps open blocks have at most
abbrev pub weight_of_all : List OpenTree → ℕ
weight_of_all = fold (λ n b. n + open_weight b) 0

-- how many steps are left at most
abbrev pub weight_left : CursorTree → ℕ
weight_left c = weight_of_all c.outer + open_weight c.here

-- inside a block, with what comes after it
abbrev pub inside : OpenTree → BlockTree → CursorTree → CursorTree
inside block rest c = record { here = block; outer = c.outer ++ record c.here { rest = rest } ∷ [] }

-- before the first turn of an `each` whose rows are listed
abbrev pub listed : TurnsTree → ℕ → BlockTree → CursorTree → CursorTree
listed turns scope rest c = inside (record { rest = BlockEnd; scope = scope; turns = Some turns }) rest c

-- the next turn of a block that is the body of an `each`, with the head of the `each`
abbrev pub next_turn : OpenTree → Option (ListingTree × Turn)
next_turn b = option_and_then (λ t. option_map (λ turn. (head_of t, turn)) (slice_get t.left 0)) b.turns

-- in the next of its turns, before which so many names are bound
abbrev pub in_turn : ℕ → OpenTree → OpenTree
in_turn scope b = by_turns b.turns
  where
    by_turns : Option TurnsTree → OpenTree
    by_turns (Some t) = record { rest = t.body; scope = scope; turns = Some (record t { left = drop 1 t.left }) }
    by_turns None = b

-- with another rest of the innermost block
abbrev pub with_rest : BlockTree → CursorTree → CursorTree
with_rest rest c = record { here = record c.here { rest = rest }; outer = c.outer }
