use Rattle.std.proofs.Common.{sym, subst, ◌∙◌}
use Rattle.conflict_pairs.specs.declared.verdicts.Verdict.{Verdict}
use Rattle.conflict_pairs.specs.Alike.{IsJudgedAt}
use Rattle.conflict_pairs.proofs.Likeness.{exposed-alike}
use Rattle.conflict_pairs.proofs.sharing.is_shared.Goals as goal

pub returns-then-is_exposed-2 : goal.returns-then-is_exposed-2
returns-then-is_exposed-2 c told =
    exposed-alike c.args.paths.now c.args.question.now c.args.other.now c.args.found.now c.args.kept.now (sym c.is_exposed.ensures ∙ c.if-is_exposed.true) (sym c.is_exposed-then-is_exposed.ensures ∙ c.if-is_exposed-2.true)
    (c.are_alike_sides.ensures told) c.requires.found c.requires.kept

pub returns : goal.returns
returns c told = subst (λ (v : Verdict). IsJudgedAt c.args.paths.now c.args.question.now v) (c.is_same.ensures told) c.requires.found
