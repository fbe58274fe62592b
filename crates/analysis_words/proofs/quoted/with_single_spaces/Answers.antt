use Rattle.std.proofs.Common.{arith}
use Rattle.analysis_words.specs.Quoting.{with_single_spaces}
use Rattle.analysis_words.proofs.Spacing.{byte_further, line_at_end}
use Rattle.analysis_words.proofs.quoted.with_single_spaces.Goals as goal

pub loop-byte-preserved : goal.loop-byte-preserved
loop-byte-preserved c =
    byte_further c.loop-byte.gap c.is_ascii_whitespace-gap.result c.args.bytes.now c.loop-byte.byte-index _
    (with_single_spaces c.args.bytes.now) c.loop-byte.line.items c.push_spaced.new.line.items c.loop-byte-test.true
    c.in_ok-push_spaced.ensures c.is_ascii_whitespace-gap.ensures.value c.loop-byte.invariant

pub returns : goal.returns
returns c =
    line_at_end c.loop-byte.gap c.args.bytes.now c.loop-byte.byte-index (with_single_spaces c.args.bytes.now) c.loop-byte.line.items
    (omega (arith, c.loop-byte-test.false)) c.loop-byte.invariant
