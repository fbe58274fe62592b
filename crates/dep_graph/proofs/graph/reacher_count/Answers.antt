use Rattle.std.proofs.Common.{◌≡◌, true, subst, sym, ◌∙◌, arith}
use Rattle.std.proofs.lemmas.Bool.{false≢true}
use Rattle.dep_graph.specs.Counting.{IsCountOf, none}
use Rattle.order_facts.specs.Square.{entry}
use Rattle.dep_graph.proofs.Counts.{IsCountOf-counted, IsCountOf-passed}
use Rattle.dep_graph.proofs.graph.reacher_count.Goals as goal
use Rattle.dep_graph.proofs.graph.reacher_count.Goals.{then-get, else-get}

pub loop-from-init : goal.loop-from-init
loop-from-init c = record { counted = none; within = omega arith }

pub loop-from-preserved : goal.loop-from-preserved
loop-from-preserved c = elim c.if-get.branch [
  | then-get w ↦ rw w.count-is (record {
    counted = IsCountOf-counted _ c.loop-from.from c.loop-from.count (sym (w.if-get.ensures)) c.loop-from.invariant.counted;
    within = omega (arith, c.loop-from.invariant.within);
  })
  | else-get w ↦ rw w.count-is (record {
    counted = IsCountOf-passed _ c.loop-from.from c.loop-from.count (λ e. false≢true (w.if-get.ensures ∙ e)) c.loop-from.invariant.counted;
    within = omega (arith, c.loop-from.invariant.within);
  })
]

pub returns-clause-count : goal.returns-clause-count
returns-clause-count c =
    let s = c.args.matrix.now in
    let all : c.loop-from.from ≡ s.size = omega arith in
    subst (λ n. IsCountOf (λ from. entry s from c.args.to ≡ true) n c.loop-from.count) all c.loop-from.invariant.counted
