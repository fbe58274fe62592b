use Rattle.std.proofs.Common.{arith, ap, ◌∙◌}
use Rattle.robust_cert.specs.Accepted.{body_size}
use Rattle.si_repair.proofs.Fitting.{body-small}
use Rattle.si_repair.proofs.certificate.bodies_of.Goals as goal

pub as_u32-requires : goal.as_u32-requires
as_u32-requires c = body-small c.args.paths.now c.loop-path.path-index _ c.body_size.result c.requires (omega arith) (c.body_size.ensures ∙ ap body_size c.path-item.is)
