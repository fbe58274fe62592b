use Rattle.std.proofs.Common.{◌∙◌, sym}
use Rattle.prog_text.proofs.Reserved.{begun_by_sign}
use Rattle.prog_text.proofs.lexing.words.beginning_of.Goals as goal

pub returns-in_err-lookup : goal.returns-in_err-lookup
returns-in_err-lookup c = c.from_residual.ensures ∙ begun_by_sign c.args.word.now _ (sym c.in_err-lookup.was ∙ c.lookup.ensures)

pub returns : goal.returns
returns c = c.begun_by.ensures ∙ begun_by_sign c.args.word.now _ (sym c.in_ok-lookup.was ∙ c.lookup.ensures)
