use Rattle.std.proofs.Common.{◌∙◌, ◌≤◌, ℕ, subst, sym, arith}
use Rattle.std.specs.Prelude.{ℤ, Option}
use Rattle.version_store.proofs.StretchLaws.{stretch_none, stretch_last, within_cut, above_cut}
use Rattle.version_store.proofs.stretch.stretch_among.Goals as goal

pub returns-then-count-eq0-clause-holds : goal.returns-then-count-eq0-clause-holds
returns-then-count-eq0-clause-holds c = λ rises n inside.
    stretch_none n c.args.versions.now _ rises c.count_within-count.ensures.bound c.if-count-eq0.true
    (λ d within. c.till_at-till.ensures.place d n inside.1 within)

pub returns-clause-holds : goal.returns-clause-holds
returns-clause-holds c = λ rises n inside.
    stretch_last n c.args.versions.now _ _ _ rises c.count_within-count.ensures.bound c.if-count-eq0.false
    (c.version.view_is ∙ c.index-versions-count.is) inside.0 (λ d within. c.till_at-till.ensures.place d n inside.1 within)

pub returns-then-count-eq0-clause-start : goal.returns-then-count-eq0-clause-start
returns-then-count-eq0-clause-start c = λ rises below.
    let vs = c.args.versions.now in
    let count = c.count_within-count.result in
    let number = c.args.number in
    (omega arith, c.till_at-till.ensures.least number below (λ d within. above_cut number vs count d (c.count_within-count.ensures.cut rises) within))

pub returns-clause-start : goal.returns-clause-start
returns-clause-start c = λ rises below.
    let vs = c.args.versions.now in
    let count = c.count_within-count.result in
    let number = c.args.number in
    let cut = c.count_within-count.ensures.cut rises in (
      subst (λ (v : ℕ × Option ℤ). v.0 ≤ number) (sym (c.version.view_is ∙ c.index-versions-count.is)) (within_cut number vs count _ cut c.if-count-eq0.false),
      c.till_at-till.ensures.least number below (λ d within. above_cut number vs count d cut within),
    )
