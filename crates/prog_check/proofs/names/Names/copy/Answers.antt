use Rattle.std.proofs.Common.{◌∙◌}
use Rattle.std.specs.Prelude.{string_bytes}
use Rattle.prog_check.proofs.NameLemmas.{copied}
use Rattle.prog_check.proofs.names.Names.copy.Goals as goal

pub returns : goal.returns
returns c = copied string_bytes c.self.inside.texts.keys _ c.in_ok-clone.ensures.cases ∙ c.self.view_is
