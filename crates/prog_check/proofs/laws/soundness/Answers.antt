use Rattle.prog_check.proofs.SoundLemmas.{soundness}
use Rattle.prog_check.proofs.laws.soundness.Goals as goal

pub returns : goal.returns
returns c = soundness
