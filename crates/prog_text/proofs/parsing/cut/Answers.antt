use Rattle.std.proofs.Common.{◌≡◌, subst, arith}
use Rattle.prog_text.specs.Cut.{IsFirstFlaw}
use Rattle.prog_text.proofs.Converse.{tokens_exactly}
use Rattle.prog_text.proofs.Flaws.{flaws_exactly}
use Rattle.prog_text.proofs.parsing.cut.Goals as goal

pub returns-in-Err-At-clause-refused : goal.returns-in-Err-At-clause-refused
returns-in-Err-At-clause-refused c =
    let bytes = c.args.text.now in
    let found = (flaws_exactly bytes c.in-Err-At.flaw c.in-Err-At.left).0 (rw c.in-Err-At.field-0-is at c.in-Err-At.ensures) in
    let place : found.0 ≡ c.saturating_sub.result = omega (arith, found.2, c.saturating_sub.ensures) in
    c.flaw_fault.ensures bytes (c.requires, subst (IsFirstFlaw bytes c.in-Err-At.flaw) place found.1)

pub returns-in-Ok-clause-cut : goal.returns-in-Ok-clause-cut
returns-in-Ok-clause-cut c = record { short = c.requires; cut = (tokens_exactly c.args.text.now c.in-Ok.placed).0 c.in-Ok.ensures }
