use Rattle.std.proofs.lemmas.Result.{err_from_is_err_and}
use Rattle.prog_text.proofs.BlockSteps.{listing_fails, turns_fail}
use Rattle.prog_text.proofs.reading.blocks.Body.begin_each.Goals as goal

pub returns-in_err-listing : goal.returns-in_err-listing
returns-in_err-listing c =
    let p = err_from_is_err_and c.from_residual.result c.from_residual.ensures.1 in
    rw (p.1, p.2) (listing_fails c.in_err-listing.field-0.0 _ _ _ c.in_err-listing.ensures)

pub returns-in_err-expect : goal.returns-in_err-expect
returns-in_err-expect c =
    let p = err_from_is_err_and c.from_residual-in_err-expect.result c.from_residual-in_err-expect.ensures.1 in
    rw (p.1, p.2) (turns_fail c.in_err-expect.field-0.0 _ _ _ _ _ c.in_ok-listing.ensures.0 c.in_err-expect.ensures)
