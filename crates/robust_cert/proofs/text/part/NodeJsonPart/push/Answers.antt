use Rattle.robust_cert.proofs.Fitting.{on_ok_anyway}
use Rattle.robust_cert.proofs.text.part.NodeJsonPart.push.Goals as goal

pub returns-clause-fits : goal.returns-clause-fits
returns-clause-fits c = on_ok_anyway c.push_node.result c.requires
