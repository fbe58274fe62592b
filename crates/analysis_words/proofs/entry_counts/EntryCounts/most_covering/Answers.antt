use Rattle.std.proofs.Common.{◌<◌, ◌≤◌, ◌≡◌, ◌∙◌, length, get_or, slice_get, sym, ap, arith}
use Rattle.analysis_words.specs.Counts.{count_at}
use Rattle.analysis_words.proofs.Counts.{none-yet, row-read, all-counts}
use Rattle.analysis_words.proofs.entry_counts.EntryCounts.most_covering.Goals as goal

pub loop-node-init : goal.loop-node-init
loop-node-init c = none-yet (count_at c.args.self.now.covers.items)

pub loop-node-preserved : goal.loop-node-preserved
loop-node-preserved c =
    let counts = c.args.self.now.covers.items in
    let node = c.loop-node.node in
    let row = c.of_node-item.result in
    let same = c.deref-of_node-items.ensures.value in
    let long = ap length same in
    let lt : node < length counts = omega (arith, c.loop-node-test.true, long) in
    let is : row ≡ get_or counts node row = c.of_node-item.is ∙ ap (λ l. get_or l node row) same in
    c.most_of_node-most.ensures (count_at counts) (λ a. row-read counts node row lt is a ∙ ap (λ l. slice_get l a) (sym c.deref.ensures.value)) c.loop-node.invariant

pub returns : goal.returns
returns c =
    let counts = c.args.self.now.covers.items in
    let long = ap length c.deref-of_node-items.ensures.value in
    let le : length counts ≤ c.loop-node.node = omega (arith, c.loop-node-test.false, long) in
    all-counts counts c.loop-node.node c.loop-node.most le c.loop-node.invariant
