use Rattle.std.proofs.Common.{◌≤◌, ℕ, length, subst}
use Rattle.robust_cert.specs.Telling.{question_with}
use Rattle.robust_cert.proofs.Cursor.{behind-more, stops-here, none-past}
use Rattle.robust_cert.proofs.checking.telling.cursor_at.Goals as goal

pub loop-at-preserved : goal.loop-at-preserved
loop-at-preserved c =
    behind-more c.args.entries.now c.loop-at.at (question_with c.args.question) c.loop-at.invariant c.question.result c.question.ensures
    (question_with c.from.result) c.from.ensures (c.is_before.ensures.0 c.if-is_before.true)

pub returns-else-is_before-clause-stops : goal.returns-else-is_before-clause-stops
returns-else-is_before-clause-stops c =
    stops-here c.args.entries.now c.loop-at.at (question_with c.args.question) c.loop-at.invariant c.question.result c.question.ensures
    (question_with c.from.result) c.from.ensures c.is_before.result c.is_before.ensures c.if-is_before.false

pub returns-after-loop-at-clause-stops : goal.returns-after-loop-at-clause-stops
returns-after-loop-at-clause-stops c e is before =
    let past : length c.args.entries.now ≤ c.loop-at.at = subst (λ (n : ℕ). n ≤ c.loop-at.at) c.len.ensures c.loop-at-test.false in
    none-past c.args.entries.now c.loop-at.at past e is
