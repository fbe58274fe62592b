use Rattle.std.proofs.lemmas.Result.{err_from_is_err_and}
use Rattle.prog_text.proofs.BlockSteps.{second_fails}
use Rattle.prog_text.proofs.reading.blocks.Body.end_first.Goals as goal

pub returns-in_err-expect : goal.returns-in_err-expect
returns-in_err-expect c =
    let p = err_from_is_err_and c.from_residual.result c.from_residual.ensures.1 in
    rw (p.1, p.2) (second_fails c.in_err-expect.field-0.0 _ _ _ _ _ _ c.if-eat.ensures.0 c.in_err-expect.ensures)
