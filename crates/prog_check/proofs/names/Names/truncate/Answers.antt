use Rattle.std.proofs.Common.{sym}
use Rattle.std.specs.Prelude.{string_bytes}
use Rattle.std.proofs.lemmas.List.{take-map}
use Rattle.prog_check.proofs.names.Names.truncate.Goals as goal

pub returns : goal.returns
returns c = rw (c.truncate.ensures.keys, ← c.self.view_is) (sym (take-map string_bytes c.args.len c.self.inside.texts.keys))
