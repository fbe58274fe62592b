use Rattle.std.proofs.Common.{sym, ◌∙◌}
use Rattle.si_repair.proofs.Fitting.{numbered-none, numbered-one}
use Rattle.si_repair.proofs.entries.push_told.Goals as goal

pub returns-then-is_exposed-clause-added : goal.returns-then-is_exposed-clause-added
returns-then-is_exposed-clause-added c =
    numbered-none c.args.asked c.args.verdict.now c.args.number c.args.told.now.items (sym c.is_exposed.ensures ∙ c.if-is_exposed.true)

pub returns-clause-added : goal.returns-clause-added
returns-clause-added c =
    c.push_reserved.ensures.items
    ∙ numbered-one c.args.asked c.args.verdict.now c.args.number c.args.told.now.items c.told_question-question.result c.told_question-question.ensures (sym c.is_exposed.ensures ∙ c.if-is_exposed.false)
