-- A worked example: two instances that each read what the other writes are a lawful history with a cycle, and so their
-- set has a dangerous structure.
use Rattle.std.proofs.Common.{◌≡◌, ℕ, zero, suc, ◌<◌, ◌≤◌, Bool, true, false, ◌||◌, length, List, [], ◌∷◌, refl, sym, subst, ap, ◌∙◌, arith}
use Rattle.std.specs.Prelude.{ℤ, pos, codes, Option, Some, None, is_some, slice_get, if◌then◌else◌}
use Rattle.std.proofs.lemmas.Option.{slice_get_within}
use Rattle.std.proofs.lemmas.Int.{ints}
use Rattle.std.proofs.lemmas.List.Elements.{All-from_recursion}
use Rattle.prog_tree.specs.declared.cell.Cell.{Cell}
use Rattle.prog_tree.specs.declared.deed.End.TheVariants.{Ready}
use Rattle.prog_tree.specs.declared.table.Arity.TheVariants as arity
use Rattle.prog_tree.specs.ChangeSet.{ChangeSet, touches_cell}
use Rattle.prog_tree.specs.Literals.{HasI64Literals}
use Rattle.prog_tree.specs.Number.{IsI64}
use Rattle.prog_tree.specs.Syntax.{Name, Literal, Named, One, BlockEnd, Then, ProgramTree, DraftTree}
use Rattle.prog_tree.specs.Syntax as s
use Rattle.prog_tree.specs.Table.{is_same_cell, TableState, IsI64Row}
use Rattle.prog_tree.proofs.TableStates.{cell_is}
use Rattle.prog_check.specs.Paths.{paths_of}
use Rattle.prog_check.specs.Sound.{IsSound}
use Rattle.prog_check.proofs.SoundLemmas.{soundness}
use Rattle.prog_paths.specs.StaticGraph.{IsDangerous}
use Rattle.history_book.specs.Dependencies.{depends}
use Rattle.history_book.specs.History.{Instance, eval_of, nth_instance, evaluation, IsCalled, IsLawful}
use Rattle.serial_orders.specs.Orders.{IsCycle}
use Rattle.si_engine.specs.Robustness.{IsHistory}
use Rattle.si_engine.proofs.CycleLaws.{law_of_cycles}

-- a program that copies the row of one key to another
abbrev pub copies : Name → ℤ → ℤ → ProgramTree
copies name from to = record {
  name = name;
  params = [];
  body =
      Then (s.Get (codes "x") (codes "t") (One (Literal from)) (Literal (pos 0)))
      (Then (s.Put (codes "t") (One (Literal to)) (Named (codes "x"))) BlockEnd);
}

abbrev pub pair : DraftTree
pair = record {
  tables = record { name = codes "t"; arity = arity.One; grow = false } ∷ [];
  programs = copies (codes "Left") (pos 1) (pos 2) ∷ copies (codes "Right") (pos 2) (pos 1) ∷ [];
}

abbrev pub instance_of : ℕ → Instance
instance_of program = record { program = program; args = []; start = 0 }

-- one of each, and neither sees the other
abbrev pub skew : List Instance
skew = instance_of 0 ∷ instance_of 1 ∷ []

small : (n : ℕ) → n ≤ 2 → IsI64 (pos n)
small n h = (omega (arith, ints), omega (arith, ints))

-- the numbers of a program are small
copies_i64 : (name : Name) (from to : ℕ) → from ≤ 2 → to ≤ 2 → HasI64Literals (copies name (pos from) (pos to))
copies_i64 name from to f t =
    All-from_recursion IsI64 (pos from ∷ pos 0 ∷ pos to ∷ []) (small from f, (small 0 (omega arith), (small to t, tt)))

sound : IsSound pair
sound = soundness pair refl (
  copies_i64 (codes "Left") 1 2 (omega arith) (omega arith),
  (copies_i64 (codes "Right") 2 1 (omega arith) (omega arith), tt),
)

-- what holds of both instances holds of each
pub of_both : (P : Instance → ℕ → Type 0) → P (instance_of 0) 1 → P (instance_of 1) 2 →
    (j : ℕ) (b : Instance) → nth_instance skew j ≡ Some b → P b j
of_both P first second zero b found = absurd (cc)
of_both P first second (suc zero) b found = let same : instance_of 0 ≡ b = cc in subst (λ x. P x 1) same first
of_both P first second (suc (suc zero)) b found =
    let same : instance_of 1 ≡ b = cc in subst (λ x. P x 2) same second
of_both P first second (suc (suc (suc n))) b found =
    let inside : suc (suc n) < 2 = slice_get_within skew (suc (suc n)) b found in
    absurd (omega arith)

-- the cells that they change
abbrev pub first_cell : Cell
first_cell = record { table = 0; first = pos 1; second = pos 0 }

abbrev pub second_cell : Cell
second_cell = record { table = 0; first = pos 2; second = pos 0 }

-- the one cell that is changed
pub alone : (cell c : Cell) (w : Option ℤ) → touches_cell (record { cells = (cell, w) ∷ []; kept = [] }) c ≡ true → c ≡ cell
alone cell c w h = cell_is c cell (go (is_same_cell c cell) h)
  where
    go : (b : Bool) → (is_some (if b then Some w else None) || false) ≡ true → b ≡ true
    go true k = refl
    go false k = absurd (cc)

-- a program without parameters is called rightly without arguments
pub called_plain : (set : DraftTree) (n : ℕ) (p : ProgramTree) → slice_get set.programs n ≡ Some p → length p.params ≡ 0 →
    IsCalled set (instance_of n)
called_plain set n p at none = (p, at, none, All-from_recursion IsI64 [] tt)

-- one instance of each of two programs of a set
module _ (set : DraftTree) (rows : TableState) where
  abbrev pub did : Instance → ChangeSet
  did b = (evaluation set rows skew b).changes

  abbrev pub IsReady : Instance → Type 0
  IsReady b = (evaluation set rows skew b).ending ≡ Ready

  -- the instance changes one cell alone
  abbrev pub ChangesTo : Instance → Cell → ℤ → Type 0
  ChangesTo b cell value = did b ≡ record { cells = (cell, Some value) ∷ []; kept = [] }

  abbrev Touched : Instance → Cell → Type 0
  Touched b c = touches_cell (did b) c ≡ true

  -- no cell is changed by both
  tell_apart : (v w : ℤ) → ChangesTo (instance_of 0) second_cell v → ChangesTo (instance_of 1) first_cell w
      → (c : Cell) → Touched (instance_of 0) c → Touched (instance_of 1) c → ⊥
  tell_apart v w left_writes right_writes c left right = differ (ap (λ (x : Cell). x.first) (sym two ∙ one))
    where
      one : c ≡ first_cell
      one = alone first_cell c (Some w) (ap (λ (x : ChangeSet). touches_cell x c) (sym right_writes) ∙ right)

      two : c ≡ second_cell
      two = alone second_cell c (Some v) (ap (λ (x : ChangeSet). touches_cell x c) (sym left_writes) ∙ left)

      differ : pos 2 ≡ pos 1 → ⊥
      differ e = cc

  apart : (c : Cell) → (Touched (instance_of 0) c → Touched (instance_of 1) c → ⊥)
      → (i : ℕ) (a : Instance) → nth_instance skew i ≡ Some a
      → (j : ℕ) (b : Instance) → nth_instance skew j ≡ Some b → i < j → Touched a c → Touched b c → ⊥
  apart c never =
      of_both Apart (of_both (Behind (instance_of 0) 1) (λ l m t. omega (arith, l)) (λ l m t. never m t))
      (of_both (Behind (instance_of 1) 2) (λ l m t. omega (arith, l)) (λ l m t. omega (arith, l)))
    where
      Behind : Instance → ℕ → Instance → ℕ → Type 0
      Behind a i b j = i < j → Touched a c → Touched b c → ⊥

      Apart : Instance → ℕ → Type 0
      Apart a i = (j : ℕ) (b : Instance) → nth_instance skew j ≡ Some b → Behind a i b j

  -- they are a lawful history where both are ready, and each changes another cell alone
  pub lawful_skew : (v w : ℤ) → IsCalled set (instance_of 0) → IsCalled set (instance_of 1)
      → IsReady (instance_of 0) → IsReady (instance_of 1)
      → ChangesTo (instance_of 0) second_cell v → ChangesTo (instance_of 1) first_cell w → IsLawful set rows skew
  lawful_skew v w left_called right_called left_ready right_ready left_writes right_writes = record {
    called = of_both (λ b j. IsCalled set b) left_called right_called;
    starts = of_both (λ b j. b.start < j) (omega arith) (omega arith);
    ready = of_both (λ b j. (evaluation set rows skew b).ending ≡ Ready) left_ready right_ready;
    apart = λ i j a b c at_i at_j unseen before mine theirs.
        apart c (tell_apart v w left_writes right_writes c) i a at_i j b at_j before mine theirs;
  }

  -- each stands before the other
  pub both_ways : depends set rows skew 1 2 ≡ true → depends set rows skew 2 1 ≡ true
      → IsCycle (depends set rows skew) (1 ∷ 2 ∷ [])
  both_ways forth back = record {
    first = 1;
    rest = 2 ∷ [];
    is = refl;
    leads = (forth, back);
    least = All-from_recursion (λ n. 1 < n) (2 ∷ []) (omega arith, tt);
    once = (refl, tt);
  }

left_writes : ChangesTo pair [] (instance_of 0) second_cell (pos 0)
unfolding eval_of
left_writes = refl

right_writes : ChangesTo pair [] (instance_of 1) first_cell (pos 0)
unfolding eval_of
right_writes = refl

left_ready : IsReady pair [] (instance_of 0)
unfolding eval_of
left_ready = refl

right_ready : IsReady pair [] (instance_of 1)
unfolding eval_of
right_ready = refl

is_history : IsHistory pair [] skew
is_history = record {
  sound = sound;
  opening_rows = All-from_recursion IsI64Row [] tt;
  lawful =
      lawful_skew pair [] (pos 0) (pos 0) (called_plain pair 0 (copies (codes "Left") (pos 1) (pos 2)) refl refl)
      (called_plain pair 1 (copies (codes "Right") (pos 2) (pos 1)) refl refl) left_ready right_ready left_writes right_writes;
}

is_cycle : IsCycle (depends pair [] skew) (1 ∷ 2 ∷ [])
unfolding eval_of
is_cycle = both_ways pair [] refl refl

pub is_dangerous : IsDangerous (paths_of pair)
is_dangerous = law_of_cycles pair [] skew is_history (1 ∷ 2 ∷ []) is_cycle
