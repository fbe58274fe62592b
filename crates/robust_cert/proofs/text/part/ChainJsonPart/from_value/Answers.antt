use Rattle.std.proofs.Common.{sym, ap, subst, ◌∙◌}
use Rattle.std.specs.Prelude.{All}
use Rattle.std.proofs.lemmas.Option.{MatchOption-at_some}
use Rattle.robust_cert.specs.Ranges.{IsOfSmall, ChainFits}
use Rattle.robust_cert.specs.Json.{chain_data}
use Rattle.robust_cert.proofs.Fitting.{all_small}
use Rattle.robust_cert.proofs.text.part.ChainJsonPart.from_value.Goals as goal

pub unreachable-requires : goal.unreachable-requires
unreachable-requires c =
    c.in-None.ensures.none (subst (All IsOfSmall) (sym c.into_vec.ensures) (all_small c.in_ok-nodes.nodes c.in_ok-nodes.ensures.ok.0))

pub returns-clause-ok : goal.returns-clause-ok
returns-clause-ok c =
    let made = MatchOption-at_some _ _ c.in-Some.chain c.in-Some.is c.from_vec.ensures.some in
    let same = made ∙ c.into_vec.ensures in
    (subst ChainFits (sym same) c.in_ok-nodes.ensures.ok.0, c.in_ok-nodes.ensures.ok.1 ∙ ap chain_data (sym same))
