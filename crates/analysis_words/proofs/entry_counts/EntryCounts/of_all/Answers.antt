use Rattle.std.proofs.Common.{◌++◌, ◌∷◌, [], List, refl, sym, ap, ◌∙◌, subst, take, take_all, arith}
use Rattle.std.proofs.lemmas.List.{take_more}
use Rattle.analysis_words.specs.declared.entry_counts.EntryCounts.{EntryCounts}
use Rattle.analysis_words.specs.Counts.{IsSumOf}
use Rattle.analysis_words.proofs.Counting.{sum-more}
use Rattle.analysis_words.proofs.entry_counts.EntryCounts.of_all.Goals as goal

pub loop-part-init : goal.loop-part-init
loop-part-init c = record { apart = refl; covers = c.in_ok-no_covers.ensures }

pub loop-part-preserved : goal.loop-part-preserved
loop-part-preserved c =
    let nodes = c.args.nodes.now in
    let parts = c.args.parts.now in
    let k = c.loop-part.part-index in
    let part = c.part-item.result in
    let one = take_more parts k part c.loop-part-test.true in
    subst (λ (l : List EntryCounts). IsSumOf nodes l c.add.new.self) (ap (λ (p : EntryCounts). take k parts ++ p ∷ []) c.part-item.is ∙ sym one)
    (sum-more nodes (take k parts) part c.loop-part.counts c.add.new.self c.loop-part.invariant c.in_ok-add.ensures.apart c.in_ok-add.ensures.covers)

pub returns : goal.returns
returns c =
    subst (λ (l : List EntryCounts). IsSumOf c.args.nodes.now l c.loop-part.counts) (take_all c.loop-part.part-index c.args.parts.now (omega arith)) c.loop-part.invariant
