use Rattle.std.proofs.Common.{◌≡◌, [], ◌∷◌, length, ap, ◌∙◌}
use Rattle.std.proofs.lemmas.Result.{IfOk-weaker}
use Rattle.order_facts.specs.Chain.{HasContradiction}
use Rattle.prog_check.specs.declared.path.Column.{Column}
use Rattle.prog_paths.specs.Facts.{mine_node, their_node}
use Rattle.conflict_pairs.specs.Search.{FoundWithin}
use Rattle.conflict_pairs.proofs.Falling.{lower_nodes, upper_nodes, found_for}
use Rattle.conflict_pairs.proofs.apart.shortest_fall.Goals as goal

pub returns-clause-all : goal.returns-clause-all
returns-clause-all c =
    let mine = c.args.mine.now in
    let theirs = c.args.theirs.now in
    let my_low = c.mine_node-2.ensures ∙ ap (λ (col : Column). mine_node col.low) c.column_or_zero-my_second.ensures in
    let my_high = c.mine_node-4.ensures ∙ ap (λ (col : Column). mine_node col.high) c.column_or_zero-my_second.ensures in
    let their_low = c.their_node-second.ensures ∙ ap (λ (col : Column). their_node col.low) c.column_or_zero.ensures in
    let lowers : c.mine_node.result ∷ c.their_node-first.result ∷ c.mine_node-2.result ∷ c.their_node-second.result ∷ [] ≡ lower_nodes mine theirs =
    (λ i. c.mine_node.ensures i ∷ c.their_node-first.ensures i ∷ my_low i ∷ their_low i ∷ []) in
    let uppers : c.their_node-first.result ∷ c.mine_node-3.result ∷ c.their_node-second.result ∷ c.mine_node-4.result ∷ [] ≡ upper_nodes mine theirs =
    (λ i. c.their_node-first.ensures i ∷ c.mine_node-3.ensures i ∷ their_low i ∷ my_high i ∷ []) in
    IfOk-weaker c.falling_between.result _ (λ found. (h : HasContradiction c.args.closed.now) → FoundWithin found (length h.chain))
    (λ found all h. found_for mine theirs c.args.closed.now _ _ _ c.requires lowers uppers all h) c.falling_between.ensures.all
