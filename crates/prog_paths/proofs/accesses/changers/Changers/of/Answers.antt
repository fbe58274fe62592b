use Rattle.std.proofs.Common.{◌≡◌, rules}
use Rattle.std.proofs.lemmas.Fn.{always_returns_same}
use Rattle.std.proofs.lemmas.List.Sorted.{IsNonDecreasingBy-from_sort_by_key}
use Rattle.prog_paths.specs.declared.accesses.places.Placed.{Placed}
use Rattle.prog_paths.proofs.Changing.{changers_sorted}
use Rattle.prog_paths.proofs.accesses.changers.Changers.of.Goals as goal

pub invariant_of-result : goal.invariant_of-result
invariant_of-result c = IsNonDecreasingBy-from_sort_by_key (λ (p : Placed). p.access.table) c.sort_by_key.new.self.items c.in_ok-sort_by_key.ensures.sorted (λ a r f k. search rules)

pub returns : goal.returns
returns c = λ table.
    changers_sorted table c.args.places.now c.in_ok-changers.changers.items c.sort_by_key.new.self.items c.in_ok-changers.ensures
    (c.sort_by_key.ensures.stable (λ (p : Placed). p.access.table) (always_returns_same _ (λ a r. r ≡ a.0.now.access.table) _ (λ a r f k. search rules)))
