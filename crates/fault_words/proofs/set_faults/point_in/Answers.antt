use Rattle.fault_words.proofs.set_faults.point_in.Goals as goal

pub returns : goal.returns
returns c = rw c.bytes.ensures at c.point_at.ensures.points
