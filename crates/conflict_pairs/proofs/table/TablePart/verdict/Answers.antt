use Rattle.std.proofs.Common.{◌≡◌, ◌<◌, List, length, sym, subst, ◌∙◌}
use Rattle.std.specs.Prelude.{Some, slice_get}
use Rattle.std.proofs.lemmas.Option.{get_or_from_slice_get}
use Rattle.conflict_pairs.specs.declared.verdicts.Verdict.{Verdict}
use Rattle.conflict_pairs.specs.Table.{Table}
use Rattle.conflict_pairs.proofs.table.TablePart.verdict.Goals as goal

pub bounds-verdicts-verdict_number : goal.bounds-verdicts-verdict_number
bounds-verdicts-verdict_number c =
    let number = c.verdict_number.result in
    subst (λ (l : List Verdict). number < length l) (sym c.verdicts-verdicts.ensures.verdicts)
    (subst (λ (t : Table). number < length t.verdicts) (sym c.self.view_is) c.verdict_number.ensures.within)

pub returns : goal.returns
returns c e at =
    let number = c.verdict_number.result in
    let verdicts = c.verdicts-verdicts.result.now in
    c.index-verdicts-verdict_number.is
    ∙ get_or_from_slice_get verdicts number e.verdict c.index-verdicts-verdict_number.result
    (subst (λ (l : List Verdict). slice_get l number ≡ Some e.verdict) (sym c.verdicts-verdicts.ensures.verdicts)
    (subst (λ (t : Table). slice_get t.verdicts number ≡ Some e.verdict) (sym c.self.view_is) (c.verdict_number.ensures.verdict e at)))
