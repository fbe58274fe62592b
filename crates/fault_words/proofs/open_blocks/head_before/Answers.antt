use Rattle.std.proofs.Common.{◌∙◌, sym}
use Rattle.fault_words.specs.Blocks.{begins_head}
use Rattle.fault_words.proofs.LastBefore.{passes_at, fails_at}
use Rattle.fault_words.proofs.open_blocks.head_before.Goals as goal

pub returns-then-begins_head : goal.returns-then-begins_head
returns-then-begins_head c =
    sym (c.loop-place.invariant ∙ passes_at (begins_head c.args.plain.now) c.loop-place.place c.loop-place-test.true
    (sym c.begins_head.ensures ∙ c.if-begins_head.true))

pub loop-place-preserved : goal.loop-place-preserved
loop-place-preserved c =
    c.loop-place.invariant ∙ fails_at (begins_head c.args.plain.now) c.loop-place.place c.loop-place-test.true
    (sym c.begins_head.ensures ∙ c.if-begins_head.false)
