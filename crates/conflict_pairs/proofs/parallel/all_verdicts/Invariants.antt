use Rattle.std.proofs.Common.{◌≡◌, ◌++◌, length}
use Rattle.conflict_pairs.specs.Sharing.{verdicts_in, numbers_in}
use Rattle.conflict_pairs.proofs.parallel.all_verdicts.Given as goal

-- the verdicts and the numbers so far, with those of the parts that are left
abbrev pub invariant-loop-part : goal.invariant-loop-part
invariant-loop-part l = record {
  verdicts : l.values.items ++ verdicts_in l.part-iterator.rest.items ≡ verdicts_in l.fn.parts.items;
  numbers : l.numbers.items ++ numbers_in (length l.values.items) l.part-iterator.rest.items ≡ numbers_in 0 l.fn.parts.items;
}
