use Rattle.std.proofs.Common.{ℕ, ◌+◌, ◌++◌, List, map, take_all, append-nil, sym, ap, ◌∙◌, arith}
use Rattle.conflict_pairs.proofs.Taking.{mapped-more}
use Rattle.conflict_pairs.proofs.parallel.push_numbers.Goals as goal

pub loop-number-init : goal.loop-number-init
loop-number-init c = sym (append-nil c.args.numbers.now.items)

pub loop-number-preserved : goal.loop-number-preserved
loop-number-preserved c =
    mapped-more (λ n. c.args.before + n) c.args.numbers.now.items c.loop-number.numbers.items c.push.new.self.items c.args.of_part.now c.loop-number.number-index _ c.in_ok-behind.behind (omega arith) c.in_ok-behind.ensures c.in_ok-push.ensures.items c.loop-number.invariant

pub returns : goal.returns
returns c =
    c.loop-number.invariant
    ∙ ap (λ (l : List ℕ). c.args.numbers.now.items ++ map (λ n. c.args.before + n) l) (take_all c.loop-number.number-index c.args.of_part.now (omega arith))
