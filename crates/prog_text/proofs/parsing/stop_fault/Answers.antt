use Rattle.std.proofs.Common.{◌-◌, length, Err, refl, ap, ◌∙◌, arith}
use Rattle.prog_text.specs.Answer.{place_of}
use Rattle.prog_text.specs.Lexing.{kinds}
use Rattle.prog_text.specs.Reading.{Unexpected}
use Rattle.prog_text.proofs.Refusals.{set_misfit, set_unfinished, stop_within, kinds_length}
use Rattle.prog_text.proofs.parsing.stop_fault.Goals as goal

pub returns-then-left-eq0 : goal.returns-then-left-eq0
returns-then-left-eq0 c =
    (c.args.placed.now, c.requires.shallow, set_unfinished (kinds c.args.placed.now) (c.requires.stops ∙ ap (λ left. Err (Unexpected left)) c.if-left-eq0.true), refl)

pub overflow_sub-index : goal.overflow_sub-index
overflow_sub-index c = omega (arith, ap length c.tokens.ensures, stop_within (kinds c.args.placed.now) c.args.left c.requires.stops)

pub place_of-requires : goal.place_of-requires
place_of-requires c =
    omega (arith, ap length c.tokens.ensures, kinds_length c.args.placed.now, stop_within (kinds c.args.placed.now) c.args.left c.requires.stops, c.if-left-eq0.false)

pub returns : goal.returns
returns c = (
  c.args.placed.now,
  length (kinds c.args.placed.now) - c.args.left,
  c.requires.shallow,
  set_misfit (kinds c.args.placed.now) c.args.left c.if-left-eq0.false c.requires.stops,
  c.place_of.ensures ∙ ap (λ ts. place_of c.args.text.now c.args.placed.now (length ts - c.args.left)) c.tokens.ensures,
)
