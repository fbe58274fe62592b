use Rattle.si_repair.proofs.Obstacles.{in_body-sure}
use Rattle.si_repair.proofs.repairs.obstacles.is_in_body.Goals as goal

pub returns : goal.returns
returns c = in_body-sure c.args.access.now.sure
