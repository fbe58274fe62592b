use Rattle.std.proofs.Common.{◌↔◌, List, length, refl, subst, ap, arith}
use Rattle.std.specs.Prelude.{IsTrue}
use Rattle.std.proofs.lemmas.Bool.{both_ways}
use Rattle.prog_check.specs.declared.path.Path.{Path}
use Rattle.si_repair.specs.Planning.{BeginsIn, ClosesBehind, AddsTriples}
use Rattle.si_repair.proofs.Searching.{nodes-below, closes-from_begins, begins-from_closes}
use Rattle.si_repair.proofs.Closings.{behind-pushed, behind-passed}
use Rattle.si_repair.proofs.plans.closing.push_behind.Goals as goal
use Rattle.si_repair.proofs.plans.closing.push_behind.Goals.{then-begins_in+in_ok-push, else-begins_in}

pub begins_in-requires-clause-firsts : goal.begins_in-requires-clause-firsts
begins_in-requires-clause-firsts c = nodes-below c.args.nodes.now.paths c.args.pair.from c.of-firsts.result.now (length c.args.graph.now) (ap length c.requires.graph) c.of-firsts.ensures

pub begins_in-requires-clause-seconds : goal.begins_in-requires-clause-seconds
begins_in-requires-clause-seconds c = nodes-below c.args.nodes.now.paths c.args.pair.to c.of-seconds.result.now (length c.args.graph.now) (ap length c.requires.graph) c.of-seconds.ensures

pub begins_in-requires-clause-thirds : goal.begins_in-requires-clause-thirds
begins_in-requires-clause-thirds c = nodes-below c.args.nodes.now.paths c.loop-third.third c.of-thirds.result.now (length c.args.graph.now) (ap length c.requires.graph) c.of-thirds.ensures

pub loop-third-preserved : goal.loop-third-preserved
loop-third-preserved c =
    let nodes = c.args.nodes.now.paths in
    let pair = c.args.pair in
    let third = c.loop-third.third in
    let old = c.args.triples.now.items in
    let triples = c.loop-third.triples.items in
    let xs = c.of-firsts.result.now in
    let ys = c.of-seconds.result.now in
    let zs = c.of-thirds.result.now in
    let firsts = c.of-firsts.ensures in
    let seconds = c.of-seconds.ensures in
    let thirds = c.of-thirds.ensures in
    let begins = subst (λ (l : List Path). IsTrue c.begins_in.result ↔ BeginsIn l xs ys zs) c.requires.graph c.begins_in.ensures in
    elim c.if-begins_in.branch [
      | then-begins_in+in_ok-push w ↦ rw (w.triples-is, w.in_ok-push.ensures.items) (behind-pushed nodes pair third old triples c.loop-third.invariant (record { first = pair.from; second = pair.to; third = third }) refl refl refl (closes-from_begins nodes pair.from pair.to third xs ys zs firsts seconds thirds (begins.0 w.if-begins_in.true)))
      | else-begins_in w ↦ rw w.triples-is (behind-passed nodes pair third old triples c.loop-third.invariant (λ h. both_ways c.begins_in.result w.if-begins_in.false (begins.1 (begins-from_closes nodes pair.from pair.to third xs ys zs firsts seconds thirds h))))
    ]

pub returns : goal.returns
returns c = subst (λ n. AddsTriples c.args.triples.now.items c.loop-third.triples.items (ClosesBehind c.args.nodes.now.paths c.args.pair n)) (omega arith) c.loop-third.invariant
