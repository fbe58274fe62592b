use Rattle.std.proofs.Common.{◌++◌, ◌∙◌, ap, append_assoc, subst, sym}
use Rattle.prog_tree.specs.Tree.{draft_tree}
use Rattle.run_words.specs.JobSpots.{IsSpot}
use Rattle.run_words.specs.LostJobs.{TellsJob}
use Rattle.run_words.specs.declared.job_spots.Spot.{Spot}
use Rattle.text_places.proofs.EachTold.{TellsEach-more}
use Rattle.run_words.proofs.LostLines.{last_spot}
use Rattle.run_words.proofs.lost_jobs.push_jobs.Goals as goal

pub loop-index-preserved : goal.loop-index-preserved
loop-index-preserved c =
    let before = c.loop-index.invariant in
    let line = c.deref-in-loop-index.result.now in
    let said = rw (← c.deref.ensures) at c.in_ok-sentence.ensures in
    let told = rw (← c.deref-in-loop-index.ensures) at c.in_ok-line.ensures in (
      before.0 ++ line,
      TellsEach-more (TellsJob (draft_tree c.args.set.now) c.args.told) c.args.numbers.now c.loop-index.index 0 before.0 line c.loop-index-test.true before.1 (_, said, told),
      c.in_ok-push_str.ensures.bytes ∙ ap (λ out. out ++ line) before.2 ∙ append_assoc _ before.0 line,
      subst (λ (spot : Spot). IsSpot c.args.told.part.bytes.now spot) (sym c.unwrap_or-last.ensures)
          (last_spot c.args.told.part.bytes.now c.spot_of-spot.result c.loop-index.last c.spot_of-spot.ensures.spot before.3),
    )
