use Rattle.std.proofs.Common.{sym}
use Rattle.std.specs.Prelude.{string_bytes}
use Rattle.prog_tree.specs.Value.{same_name}
use Rattle.prog_check.proofs.NameLemmas.{position-map}
use Rattle.prog_check.proofs.names.Names.number.Goals as goal

pub returns-then-are_few : goal.returns-then-are_few
returns-then-are_few c = rw (c.first_place.ensures, c.as_slice.ensures.keys, ← c.self.view_is) (sym (position-map (same_name c.args.name.now) string_bytes c.self.inside.texts.keys))

pub returns : goal.returns
returns c = rw (c.get_index_of.ensures.index, ← c.self.view_is) (sym (position-map (same_name c.args.name.now) string_bytes c.self.inside.texts.keys))
