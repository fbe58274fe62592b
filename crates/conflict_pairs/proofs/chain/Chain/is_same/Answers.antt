use Rattle.std.proofs.Common.{rules, sym, ◌∙◌}
use Rattle.std.proofs.lemmas.Slice.Eq.{slice_eq-Decides}
use Rattle.conflict_pairs.proofs.chain.Chain.is_same.Goals as goal

pub returns : goal.returns
returns c =
    let d = slice_eq-Decides (λ a b. search rules) _ _ _ c.eq.ensures in
    (λ yes. sym c.as_slice.ensures.nodes ∙ d.0 yes, λ same. d.1 (c.as_slice.ensures.nodes ∙ same))
