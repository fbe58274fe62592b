use Rattle.std.proofs.Common.{◌∙◌, sym}
use Rattle.si_repair.specs.Obstacles.{IsRangeIn}
use Rattle.si_repair.proofs.Obstacles.{hindered-some}
use Rattle.si_repair.proofs.repairs.obstacles.is_hindered.Goals as goal

pub returns : goal.returns
returns c =
    let found = hindered-some c.args.paths.now (IsRangeIn c.args.ranges.now) c.args.obstacle c.args.questions.now c.first_hindered.result c.first_hindered.ensures in
    (λ yes_some. found.0 (sym c.is_some.ensures ∙ yes_some), λ h. c.is_some.ensures ∙ found.1 h)
