use Rattle.std.proofs.Common.{◌/◌, ◌∙◌, List, length, ap, sym, arith}
use Rattle.std.specs.Prelude.{Bool}
use Rattle.std.proofs.lemmas.List.{get_or_read}
use Rattle.order_facts.proofs.WordRows.{in_row, node_inserted, set_size}
use Rattle.order_facts.proofs.node_set.NodeSet.insert.Goals as goal

pub index_mut-requires : goal.index_mut-requires
index_mut-requires c =
    let s = c.self.inside in
    let same = sym (set_size s.size s.words.items) ∙ ap (λ (l : List Bool). length l) c.self.view_is in
    omega (arith, in_row s.size (length s.words.items) c.args.node c.self.invariant (omega (arith, same, c.requires)), s.words.ok.0)

pub returns : goal.returns
returns c =
    let s = c.self.inside in
    let words = s.words.items in
    let node = c.args.node in
    let same = sym (set_size s.size words) ∙ ap (λ (l : List Bool). length l) c.self.view_is in
    let inside = in_row s.size (length words) node c.self.invariant (omega (arith, same, c.requires)) in
    node_inserted s.size words c.args.self.now node c.index_mut.result.now c.self.view_is c.self.invariant c.requires (get_or_read words (node / 64) c.index_mut.result.now inside c.index_mut.ensures.value 0)
