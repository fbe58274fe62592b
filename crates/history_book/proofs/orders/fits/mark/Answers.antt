use Rattle.std.proofs.Common.{◌-◌, true, length, ap, ◌∙◌, arith}
use Rattle.std.specs.Prelude.{slice_set}
use Rattle.history_book.proofs.OnceLaws.{marked, unmarked}
use Rattle.history_book.proofs.orders.fits.mark.Goals as goal

pub returns-then-number-eq0-clause-marked : goal.returns-then-number-eq0-clause-marked
returns-then-number-eq0-clause-marked c = λ numbers before.
    before ∙ unmarked numbers c.args.number 1 (length c.args.marks.now) (λ m low high same. absurd (omega (arith, c.if-number-eq0.true)))

pub returns-then-number-marks-clause-marked : goal.returns-then-number-marks-clause-marked
returns-then-number-marks-clause-marked c = λ numbers before.
    before ∙ unmarked numbers c.args.number 1 (length c.args.marks.now) (λ m low high same. absurd (omega (arith, c.if-number-marks.true)))

pub returns-clause-marked : goal.returns-clause-marked
returns-clause-marked c = λ numbers before.
    let n = length c.args.marks.now in
    ap (λ marks. slice_set marks (c.args.number - 1) true) before ∙ marked numbers c.args.number 1 n (c.args.number - 1) (omega (arith, c.if-number-marks.false)) (omega (arith, c.if-number-eq0.false))
