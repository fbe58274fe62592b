use Rattle.std.proofs.lemmas.Result.{err_from_is_err_and}
use Rattle.prog_text.proofs.BlockSteps.{test_fails, first_fails}
use Rattle.prog_text.proofs.reading.blocks.Body.begin_branch.Goals as goal

pub returns-in_err-test : goal.returns-in_err-test
returns-in_err-test c =
    let p = err_from_is_err_and c.from_residual.result c.from_residual.ensures.1 in
    rw (p.1, p.2) (test_fails c.in_err-test.field-0.0 _ _ _ c.in_err-test.ensures)

pub returns-in_err-expect : goal.returns-in_err-expect
returns-in_err-expect c =
    let p = err_from_is_err_and c.from_residual-in_err-expect.result c.from_residual-in_err-expect.ensures.1 in
    rw (p.1, p.2) (first_fails c.in_err-expect.field-0.0 _ _ _ _ _ c.in_ok-test.ensures.0 c.in_err-expect.ensures)
