use Rattle.std.proofs.lemmas.Bool.{false≢true}
use Rattle.conflict_pairs.proofs.Meaning.{fallen-not_open}
use Rattle.conflict_pairs.proofs.judge.is_left_open_by_facts.Goals as goal
use Rattle.conflict_pairs.proofs.judge.is_left_open_by_facts.Goals.{in-Some, in-None}

pub returns-clause-told : goal.returns-clause-told
returns-clause-told c = elim c.match-number_fall.branch [
  | in-Some w ↦
      let shortest = rw w.in-Some.is at c.number_fall.ensures.some in
      rw w.result-is (λ t. absurd (false≢true t), λ h. absurd (fallen-not_open c.args.xs.now c.args.ys.now c.args.mine.now c.args.theirs.now _ shortest.falls h))
  | in-None w ↦ rw w.result-is w.is_left_open_by_closed.ensures
]
