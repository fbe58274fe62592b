use Rattle.std.proofs.Common.{◌≡◌, ◌≤◌, length, take, vec_len, vec_capacity}
use Rattle.std.specs.List.{AllZip}
use Rattle.std.specs.Prelude.{All}
use Rattle.conflict_pairs.specs.Interning.{IsServed}
use Rattle.conflict_pairs.proofs.interning.intern_all.Given as goal

-- each key so far has the number of a value that serves it, and each other key has room for one
abbrev pub invariant-loop-key : goal.invariant-loop-key
invariant-loop-key g l = record {
  sound : All (g.I.Interner.is_sound l.interner) l.values.items;
  served : AllZip (IsServed (g.I.Interner.serves l.interner) l.values.items) (take l.key-index l.keys) l.numbers.items;
  one_each : vec_len l.numbers ≡ l.key-index;
  room : length l.keys ≤ vec_capacity l.numbers;
}
