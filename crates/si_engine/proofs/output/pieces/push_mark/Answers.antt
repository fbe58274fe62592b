use Rattle.std.proofs.Common.{◌∷◌, []}
use Rattle.si_engine.proofs.MarkLaws.{writes_mark}
use Rattle.si_engine.proofs.output.pieces.push_mark.Goals as goal

pub returns : goal.returns
returns c = writes_mark c.args.text.now c.push.new.self c.push.result _ (c.args.mark ∷ []) c.push.ensures.bytes (c.push.ensures.ascii c.requires)
