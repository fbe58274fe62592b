use Rattle.std.proofs.Common.{◌∙◌}
use Rattle.robust_cert.proofs.Shared.{reason_any}
use Rattle.analysis_words.proofs.entry_counts.reason_of.Goals as goal

pub returns : goal.returns
returns c = c.index-reasons-told.is ∙ reason_any c.args.reasons.now c.args.told.now.reason c.index-reasons-told.result c.requires
