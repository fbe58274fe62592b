use Rattle.std.proofs.Common.{ap, sym, ◌∙◌}
use Rattle.std.proofs.lemmas.Result.{err_from_is_err_and}
use Rattle.prog_tree.specs.Tree.{draft_tree}
use Rattle.prog_text.specs.declared.fault.TextFault.TheVariants.{TooDeep}
use Rattle.prog_text.specs.Answer.{IsShallow}
use Rattle.prog_text.specs.Limits.{too_deep}
use Rattle.prog_text.proofs.Refusals.{refusal_excluded, only_draft, accepted_if, too_deep_within}
use Rattle.prog_text.proofs.parsing.parse.Goals as goal

pub returns-in_err-placed-clause-only : goal.returns-in_err-placed-clause-only
returns-in_err-placed-clause-only c =
    let p = err_from_is_err_and c.from_residual.result c.from_residual.ensures.1 in
    rw (p.1, p.2) (λ d h. refusal_excluded c.args.text.now c.in_err-placed.field-0.0 d c.in_err-placed.ensures.refused h)

pub place_of-place-requires : goal.place_of-place-requires
place_of-place-requires c =
    too_deep_within c.in_ok-placed.placed c.in-Some.index (ap too_deep (sym c.tokens.ensures) ∙ sym c.in-Some.ensures)

pub returns-in-Some-clause-only : goal.returns-in-Some-clause-only
returns-in-Some-clause-only c = λ d h.
    let deep = ap too_deep (sym c.tokens.ensures) ∙ sym c.in-Some.ensures in
    refusal_excluded c.args.text.now (TooDeep c.place_of-place.result) d (c.in_ok-placed.placed, c.in-Some.index, c.in_ok-placed.ensures.cut, deep, c.place_of-place.ensures) h

pub returns-clause-only : goal.returns-clause-only
returns-clause-only c =
    let shallow : IsShallow c.args.text.now c.in_ok-placed.placed = record {
      tokens = c.in_ok-placed.ensures.cut;
      shallow = ap too_deep (sym c.tokens.ensures) ∙ sym c.in_default.ensures;
    } in
    only_draft c.args.text.now draft_tree c.read_set.result (accepted_if c.args.text.now c.in_ok-placed.placed draft_tree c.read_set.result shallow c.read_set.ensures.found) c.read_set.ensures.refused
