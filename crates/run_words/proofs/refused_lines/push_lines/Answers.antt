use Rattle.std.proofs.Common.{◌++◌, ◌∙◌, ap, append_assoc}
use Rattle.run_words.specs.ToldLines.{TellsLine}
use Rattle.text_places.proofs.EachTold.{TellsEach-more}
use Rattle.run_words.proofs.refused_lines.push_lines.Goals as goal

pub loop-refused-preserved : goal.loop-refused-preserved
loop-refused-preserved c =
    let before = c.loop-refused.invariant in
    let line = c.deref.result.now in
    let told = rw (← c.deref.ensures) at c.in_ok-words.ensures in (
      before.0 ++ line,
      TellsEach-more (TellsLine c.args.part) c.args.told.now c.loop-refused.refused-index _ before.0 line
          c.loop-refused-test.true before.1 told,
      c.in_ok-push_str.ensures.bytes ∙ ap (λ out. out ++ line) before.2 ∙ append_assoc _ before.0 line,
    )
