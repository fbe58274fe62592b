use Rattle.std.proofs.Common.{◌<◌, arith}
use Rattle.robust_cert.specs.Telling.{question_with}
use Rattle.robust_cert.proofs.Firsts.{behind-last}
use Rattle.robust_cert.proofs.checking.entry_check.is_behind_last.Goals as goal

pub returns : goal.returns
returns c e at =
    let later : 0 < c.args.k = omega (arith, c.if-k-eq0.false) in
    behind-last c.args.entries.now c.args.k c.requires later c.question.result c.question-2.result c.question.ensures c.question-2.ensures
    (question_with c.from-last.result) (question_with c.from-this.result) c.from-last.ensures c.from-this.ensures c.is_before.result c.is_before.ensures e at
