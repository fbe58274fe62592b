use Rattle.std.proofs.Common.{ap, sym, ◌∙◌, []}
use Rattle.prog_text.specs.Lexing.{kinds}
use Rattle.prog_text.specs.Reading.{set_at}
use Rattle.prog_text.proofs.Refusals.{set_found}
use Rattle.prog_text.proofs.parsing.read_set.Goals as goal

pub returns-in-Ok-clause-found : goal.returns-in-Ok-clause-found
returns-in-Ok-clause-found c = set_found (kinds c.args.placed.now) [] _ (ap set_at (sym c.tokens.ensures) ∙ c.in-Ok.ensures)
