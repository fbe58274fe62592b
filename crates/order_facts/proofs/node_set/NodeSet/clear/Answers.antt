use Rattle.std.proofs.Common.{◌∙◌, ℕ, List, length, ap, subst, sym}
use Rattle.std.specs.Prelude.{Bool}
use Rattle.order_facts.specs.Sets.{IsEmptySet}
use Rattle.order_facts.specs.Words.{set_of}
use Rattle.order_facts.proofs.WordRows.{empty_set, set_size}
use Rattle.order_facts.proofs.node_set.NodeSet.clear.Goals as goal

pub returns : goal.returns
returns c =
    let s = c.self.inside in
    let words = c.fill.new.self.items in
    let same = sym (set_size s.size s.words.items) ∙ ap (λ (l : List Bool). length l) c.self.view_is in
    subst (λ (n : ℕ). IsEmptySet (set_of s.size words) n) same (empty_set s.size _ words (c.fill.ensures.items (λ y e. e)))
