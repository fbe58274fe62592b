use Rattle.std.proofs.Common.{◌∙◌, sym}
use Rattle.analysis_words.proofs.Spacing.{by_blank, by_other}
use Rattle.analysis_words.proofs.quoted.push_spaced.Goals as goal

pub returns-then-is_ascii_whitespace : goal.returns-then-is_ascii_whitespace
returns-then-is_ascii_whitespace c =
    by_blank _ c.args.gap c.args.byte (sym c.is_ascii_whitespace.ensures.value ∙ c.if-is_ascii_whitespace.true)

pub returns : goal.returns
returns c =
    by_other _ _ _ c.args.gap c.args.byte (sym c.is_ascii_whitespace.ensures.value ∙ c.if-is_ascii_whitespace.false)
    c.in_ok-push_gap.ensures c.in_ok-push.ensures.items
