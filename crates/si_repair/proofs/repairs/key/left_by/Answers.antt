use Rattle.std.proofs.Common.{ℕ, ◌∙◌, Vec, Global, ap, sym, arith}
use Rattle.std.proofs.lemmas.Bool.{false≢true}
use Rattle.si_repair.proofs.Ranking.{AreLeft-kept, AreLeft-dropped}
use Rattle.si_repair.proofs.repairs.key.left_by.Goals as goal
use Rattle.si_repair.proofs.repairs.key.left_by.Goals.{then-puts_equal+in_ok-push, else-puts_equal}

pub loop-both-preserved : goal.loop-both-preserved
loop-both-preserved c =
    let facts = c.args.closed.now in
    let pairs = c.args.pairs.now in
    let before = c.loop-both.left.items in
    elim c.if-puts_equal.branch [
      | then-puts_equal+in_ok-push w ↦
          AreLeft-kept facts pairs before c.loop-both.both-index _ (omega arith) c.loop-both.invariant c.if-puts_equal.left.items (c.puts_equal.ensures.0 w.if-puts_equal.true)
          (ap (λ (v : Vec (ℕ × ℕ) Global). v.items) w.left-is ∙ w.in_ok-push.ensures.items)
      | else-puts_equal w ↦
          AreLeft-dropped facts pairs before c.loop-both.both-index _ (omega arith) c.loop-both.invariant c.if-puts_equal.left.items (λ put. false≢true (sym w.if-puts_equal.false ∙ c.puts_equal.ensures.1 put))
          (ap (λ (v : Vec (ℕ × ℕ) Global). v.items) w.left-is)
    ]
