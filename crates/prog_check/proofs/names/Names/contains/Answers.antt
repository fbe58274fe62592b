use Rattle.std.proofs.Common.{sym}
use Rattle.std.specs.Prelude.{string_bytes}
use Rattle.prog_tree.specs.Value.{same_name}
use Rattle.prog_check.proofs.NameLemmas.{list_any-map}
use Rattle.prog_check.proofs.names.Names.contains.Goals as goal

pub returns : goal.returns
returns c = rw (c.contains.ensures, c.as_str.ensures, ← c.self.view_is) (sym (list_any-map (same_name c.args.name.now) string_bytes c.self.inside.texts.keys))
