use Rattle.std.proofs.lemmas.Result.{err_from_is_err_and}
use Rattle.prog_text.proofs.BlockSteps.{block_fails}
use Rattle.prog_text.proofs.reading.blocks.block.Goals as goal

pub returns-in_err-expect : goal.returns-in_err-expect
returns-in_err-expect c =
    let p = err_from_is_err_and c.from_residual.result c.from_residual.ensures.1 in
    rw (p.1, p.2) (block_fails c.in_err-expect.field-0.0 c.args.cursor.now.tokens.now c.in_err-expect.ensures)
