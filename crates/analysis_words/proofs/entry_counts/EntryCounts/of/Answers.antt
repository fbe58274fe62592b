use Rattle.std.proofs.Common.{List, sym, subst}
use Rattle.std.proofs.lemmas.Result.{IfOk-weaker}
use Rattle.robust_cert.specs.Sharing.{Entry}
use Rattle.analysis_words.specs.declared.entry_counts.EntryCounts.{EntryCounts}
use Rattle.analysis_words.specs.Counts.{AreCountsInParts, IsSumOf}
use Rattle.analysis_words.proofs.Counting.{sum-is}
use Rattle.analysis_words.proofs.entry_counts.EntryCounts.of.Goals as goal

pub returns : goal.returns
returns g c =
    let nodes = c.args.nodes.now in
    let parts = c.in_ok-parts.parts in
    let are = subst (λ (l : List Entry). AreCountsInParts nodes l parts) (sym c.parts.ensures.entries) c.in_ok-parts.ensures in
    IfOk-weaker c.of_all.result _ _
    (λ counts sum. sum-is nodes c.args.entries.now parts counts are (subst (λ (l : List EntryCounts). IsSumOf nodes l counts) c.deref.ensures.value sum)) c.of_all.ensures
