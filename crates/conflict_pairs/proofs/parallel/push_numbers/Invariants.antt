use Rattle.std.proofs.Common.{◌≡◌, ◌+◌, ◌++◌, map, take}
use Rattle.conflict_pairs.proofs.parallel.push_numbers.Given as goal

-- the numbers that were there, and those of the part so far
abbrev pub invariant-loop-number : goal.invariant-loop-number
invariant-loop-number l = l.numbers.items ≡ l.fn.numbers.items ++ map (λ n. l.before + n) (take l.number-index l.of_part)
