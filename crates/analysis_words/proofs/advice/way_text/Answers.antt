use Rattle.std.proofs.Common.{arith, ap, ◌∙◌, ◌++◌, string_bytes}
use Rattle.analysis_words.specs.Nodes.{seen}
use Rattle.analysis_words.proofs.AlongWay.{one_further, way_at_end}
use Rattle.analysis_words.proofs.advice.way_text.Goals as goal

pub loop-node-preserved : goal.loop-node-preserved
loop-node-preserved c =
    let text = string_bytes c.loop-node.text in
    one_further (seen c.args.shown) c.loop-node.last c.args.nodes.now c.loop-node.node-index _
    _ text (string_bytes c.push_str.new.self) c.loop-node-test.true
    (c.in_ok-push_str.ensures.bytes ∙ ap (λ l. text ++ l) (c.deref.ensures ∙ c.in_ok-step.ensures))
    c.loop-node.invariant

pub returns : goal.returns
returns c =
    way_at_end (seen c.args.shown) c.loop-node.last c.args.nodes.now c.loop-node.node-index _
    (string_bytes c.loop-node.text) (omega (arith, c.loop-node-test.false)) c.loop-node.invariant
