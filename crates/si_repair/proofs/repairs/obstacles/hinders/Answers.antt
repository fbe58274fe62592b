use Rattle.std.proofs.Common.{◌≡◌, ◌↔◌, ◌∙◌, true, sym, subst}
use Rattle.si_repair.specs.declared.repairs.obstacles.Obstacle.{Obstacle}
use Rattle.si_repair.specs.Obstacles.{Hinders, IsRangeIn}
use Rattle.si_repair.proofs.repairs.obstacles.hinders.Goals as goal

pub returns-in-RangeRead : goal.returns-in-RangeRead
returns-in-RangeRead c =
    subst (λ (o : Obstacle). (c.is_range.result ≡ true) ↔ Hinders o (IsRangeIn c.args.ranges.now) c.args.read.now c.args.other.now) (sym c.in-RangeRead.is)
    (λ h. sym c.is_range.ensures ∙ h, λ h. c.is_range.ensures ∙ h)

pub returns-in-UnknownKey : goal.returns-in-UnknownKey
returns-in-UnknownKey c =
    subst (λ (o : Obstacle). (c.has_unknown_key.result ≡ true) ↔ Hinders o (IsRangeIn c.args.ranges.now) c.args.read.now c.args.other.now) (sym c.in-UnknownKey.is) c.has_unknown_key.ensures

pub returns-in-BodyRead : goal.returns-in-BodyRead
returns-in-BodyRead c =
    subst (λ (o : Obstacle). (c.meet_in_body.result ≡ true) ↔ Hinders o (IsRangeIn c.args.ranges.now) c.args.read.now c.args.other.now) (sym c.in-BodyRead.is) c.meet_in_body.ensures
