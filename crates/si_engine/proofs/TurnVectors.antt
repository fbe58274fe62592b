-- A worked example: two instances that each list a row which a turn of the other writes are a lawful history with a cycle.
-- So the writes of their turns make vulnerable edges, and their set has a dangerous structure.
use Rattle.std.proofs.Common.{◌≡◌, ℕ, ◌<◌, ◌≤◌, true, false, length, [], ◌∷◌, refl, arith}
use Rattle.std.specs.Prelude.{ℤ, pos, codes}
use Rattle.std.proofs.lemmas.Int.{ints}
use Rattle.std.proofs.lemmas.List.Elements.{All-from_recursion}
use Rattle.prog_tree.specs.declared.table.Arity.TheVariants as arity
use Rattle.prog_tree.specs.Literals.{HasI64Literals}
use Rattle.prog_tree.specs.Number.{IsI64}
use Rattle.prog_tree.specs.Syntax.{Name, ExprTree, Literal, Named, Plus, Minus, One, OneRange, BlockEnd, Then, Each, ProgramTree, DraftTree}
use Rattle.prog_tree.specs.Syntax as s
use Rattle.prog_tree.specs.Table.{TableState, IsI64Row}
use Rattle.prog_check.specs.Paths.{paths_of}
use Rattle.prog_check.specs.Sound.{IsSound}
use Rattle.prog_check.proofs.SoundLemmas.{soundness}
use Rattle.prog_paths.specs.StaticGraph.{IsVulnerable, IsDangerous}
use Rattle.history_book.specs.Dependencies.{depends, read_write}
use Rattle.history_book.specs.History.{eval_of}
use Rattle.serial_orders.specs.Orders.{IsCycle}
use Rattle.si_engine.specs.Robustness.{HasCommitted, AreConcurrent, IsHistory, FollowsNode}
use Rattle.si_engine.proofs.CycleLaws.{law_of_cycles}
use Rattle.si_engine.proofs.SkewVectors.{instance_of, skew, first_cell, second_cell, called_plain, lawful_skew, both_ways, IsReady, ChangesTo}
use Rattle.si_engine.proofs.VulnerableLaws.{law_of_vulnerable_edges}

-- each k, x in t[from..from] { put t[to] = x; }
abbrev turns : Name → ℤ → ExprTree → ProgramTree
turns name from to = record {
  name = name;
  params = [];
  body =
      Each (record { key = codes "k"; value = codes "x"; table = codes "t"; range = OneRange (Literal from) (Literal from) })
      (Then (s.Put (codes "t") (One to) (Named (codes "x"))) BlockEnd) BlockEnd;
}

-- Left lists t[1..1] and writes t[k + 1], Right lists t[2..2] and writes t[k - 1]
abbrev left : ProgramTree
left = turns (codes "Left") (pos 1) (Plus (Named (codes "k")) (Literal (pos 1)))

abbrev right : ProgramTree
right = turns (codes "Right") (pos 2) (Minus (Named (codes "k")) (Literal (pos 1)))

abbrev both : DraftTree
both = record { tables = record { name = codes "t"; arity = arity.One; grow = false } ∷ []; programs = left ∷ right ∷ [] }

abbrev rows : TableState
rows = (first_cell, pos 5) ∷ (second_cell, pos 7) ∷ []

small : (n : ℕ) → n ≤ 9 → IsI64 (pos n)
small n h = (omega (arith, ints), omega (arith, ints))

-- the row of a key
row_i64 : (key value : ℕ) → key ≤ 9 → value ≤ 9 → IsI64Row (record { table = 0; first = pos key; second = pos 0 }, pos value)
row_i64 key value k v = ((small key k, small 0 (omega arith)), small value v)

left_i64 : HasI64Literals left
left_i64 =
    All-from_recursion IsI64 (pos 1 ∷ pos 1 ∷ pos 1 ∷ [])
    (small 1 (omega arith), (small 1 (omega arith), (small 1 (omega arith), tt)))

right_i64 : HasI64Literals right
right_i64 =
    All-from_recursion IsI64 (pos 2 ∷ pos 2 ∷ pos 1 ∷ [])
    (small 2 (omega arith), (small 2 (omega arith), (small 1 (omega arith), tt)))

sound : IsSound both
sound = soundness both refl (left_i64, (right_i64, tt))

left_writes : ChangesTo both rows (instance_of 0) second_cell (pos 5)
unfolding eval_of
left_writes = refl

right_writes : ChangesTo both rows (instance_of 1) first_cell (pos 7)
unfolding eval_of
right_writes = refl

left_ready : IsReady both rows (instance_of 0)
unfolding eval_of
left_ready = refl

right_ready : IsReady both rows (instance_of 1)
unfolding eval_of
right_ready = refl

is_history : IsHistory both rows skew
is_history = record {
  sound = sound;
  opening_rows = All-from_recursion IsI64Row rows (row_i64 1 5 (omega arith) (omega arith), (row_i64 2 7 (omega arith) (omega arith), tt));
  lawful =
      lawful_skew both rows (pos 5) (pos 7) (called_plain both 0 left refl refl) (called_plain both 1 right refl refl)
      left_ready right_ready left_writes right_writes;
}

-- ---- the write of the second one's turn

missed : read_write both rows skew 1 2 ≡ true
unfolding eval_of
missed = refl

committed : (i : ℕ) → 0 < i → i ≤ 2 → HasCommitted skew i
committed i low high = let two : length skew ≡ 2 = refl in (omega (arith, low), omega (arith, high, two))

concurrent : AreConcurrent skew 1 2
concurrent = (omega arith, omega arith)

-- the row that the first lists, a turn of the second writes: a vulnerable edge of the nodes that they follow
pub is_vulnerable : (mine : FollowsNode both rows skew 1) (theirs : FollowsNode both rows skew 2) →
    IsVulnerable (paths_of both) mine.node theirs.node
is_vulnerable mine theirs =
    law_of_vulnerable_edges both rows skew is_history 1 2 (committed 1 (omega arith) (omega arith))
    (committed 2 (omega arith) (omega arith)) (λ e. absurd (omega (arith, e))) concurrent missed mine theirs

is_cycle : IsCycle (depends both rows skew) (1 ∷ 2 ∷ [])
unfolding eval_of
is_cycle = both_ways both rows refl refl

pub is_dangerous : IsDangerous (paths_of both)
is_dangerous = law_of_cycles both rows skew is_history (1 ∷ 2 ∷ []) is_cycle
