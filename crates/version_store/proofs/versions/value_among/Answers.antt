use Rattle.std.proofs.Common.{◌∙◌, ap}
use Rattle.std.specs.Prelude.{ℕ, ℤ, Option}
use Rattle.version_store.proofs.ChainLaws.{read_none, read_last}
use Rattle.version_store.proofs.versions.value_among.Goals as goal

pub returns-then-count-eq0 : goal.returns-then-count-eq0
returns-then-count-eq0 c = λ rises.
    read_none c.args.number c.args.versions.now _ (c.count_within-count.ensures.cut rises) c.if-count-eq0.true

pub returns : goal.returns
returns c = λ rises.
    ap (λ (v : ℕ × Option ℤ). v.1) (c.version.view_is ∙ c.index-versions-count.is)
    ∙ read_last c.args.number c.args.versions.now _ _ (c.count_within-count.ensures.cut rises) c.if-count-eq0.false c.count_within-count.ensures.bound
