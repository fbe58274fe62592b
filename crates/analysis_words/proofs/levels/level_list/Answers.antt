use Rattle.std.proofs.Common.{◌∙◌}
use Rattle.text_places.specs.Listing.{with_listed}
use Rattle.analysis_words.specs.Nodes.{seen}
use Rattle.analysis_words.specs.Saying.{level_text}
use Rattle.analysis_words.proofs.Listing.{listed_more}
use Rattle.analysis_words.proofs.levels.level_list.Goals as goal

pub loop-node-preserved : goal.loop-node-preserved
loop-node-preserved c =
    let told = c.deref.ensures ∙ c.in_ok-level.ensures in
    c.in_ok-push_listed.ensures
    ∙ (λ i. with_listed (c.loop-node.invariant i) (told i))
    ∙ listed_more (level_text (seen c.args.shown) c.args.certificate.now) c.args.nodes.now c.loop-node.node-index _ c.loop-node-test.true
