use Rattle.prog_text.proofs.Flaws.{flaws_exactly}
use Rattle.prog_text.proofs.laws.flaws_are_the_first.Goals as goal

pub returns : goal.returns
returns c = flaws_exactly
