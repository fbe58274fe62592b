use Rattle.std.proofs.Common.{List, length, ap, sym, ◌∙◌}
use Rattle.std.specs.Prelude.{Bool}
use Rattle.order_facts.proofs.WordRows.{set_size}
use Rattle.order_facts.proofs.node_set.NodeSet.size.Goals as goal

pub returns : goal.returns
returns c = sym (set_size c.self.inside.size c.self.inside.words.items) ∙ ap (λ (l : List Bool). length l) c.self.view_is
