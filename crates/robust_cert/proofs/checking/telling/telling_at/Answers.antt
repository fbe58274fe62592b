use Rattle.std.proofs.Common.{◌≡◌, ◌<◌, ◌≤◌, ℕ, true, false, length, sym, ap, subst, ◌∙◌}
use Rattle.prog_paths.specs.StaticGraph.{QuestionNumbers}
use Rattle.robust_cert.specs.Accepted.{numbers_told}
use Rattle.robust_cert.specs.Telling.{question_with, is_same}
use Rattle.robust_cert.proofs.Cursor.{reason-tells, other-tells, none-tells}
use Rattle.robust_cert.proofs.checking.telling.telling_at.Goals as goal
use Rattle.robust_cert.proofs.checking.telling.telling_at.Goals.{else-at-len-via-then-at-len+else-is_same, else-at-len-via-else-at-len}

pub returns-then-is_same-clause-telling : goal.returns-then-is_same-clause-telling
returns-then-is_same-clause-telling c =
    let at = c.cursor_at-at.result in
    let q = question_with c.args.question in
    let inside : at < length c.args.entries.now = subst (λ (n : ℕ). at < n) c.len.ensures c.if-at-len.true in
    let same : is_same (numbers_told c.question.result) q ≡ true = ap (λ (p : QuestionNumbers). is_same p q) (sym c.from.ensures) ∙ sym c.is_same.ensures ∙ c.if-is_same.true in
    c.told_by.ensures
    ∙ reason-tells c.args.entries.now at q c.cursor_at-at.ensures.passed c.question.result c.question.ensures c.reason.result.now inside c.reason.ensures same

pub returns-else-at-len-clause-telling : goal.returns-else-at-len-clause-telling
returns-else-at-len-clause-telling c =
    let es = c.args.entries.now in
    let at = c.cursor_at-at.result in
    let q = question_with c.args.question in
    elim c.else-at-len.branch [
      | else-at-len-via-then-at-len+else-is_same w ↦
          let other : is_same (numbers_told w.question.result) q ≡ false = ap (λ (p : QuestionNumbers). is_same p q) (sym w.from.ensures) ∙ sym w.is_same.ensures ∙ w.if-is_same.false in
          other-tells es at q c.cursor_at-at.ensures.passed w.question.result w.question.ensures c.requires.rising c.cursor_at-at.ensures.stops other
      | else-at-len-via-else-at-len w ↦
          let past : length es ≤ at = subst (λ (n : ℕ). n ≤ at) c.len.ensures w.if-at-len.false in
          none-tells es at q c.cursor_at-at.ensures.passed c.requires.rising past
    ]
