use Rattle.std.proofs.Common.{sym, ◌∙◌}
use Rattle.std.proofs.lemmas.Bool.{false≢true}
use Rattle.conflict_pairs.proofs.Meaning.{open-met, open-where_none}
use Rattle.conflict_pairs.proofs.judge.is_left_open_by_closed.Goals as goal

pub returns-then-not-consistent : goal.returns-then-not-consistent
returns-then-not-consistent c =
    (λ t. absurd (false≢true t), λ h. absurd (false≢true (sym c.if-not-consistent.true ∙ c.consistent.ensures.consistent.1 (open-met c.args.xs.now c.args.ys.now c.args.mine.now c.args.theirs.now c.in_ok-closed.closed c.in_ok-closed.ensures h))))

pub returns : goal.returns
returns c =
    let met = c.consistent.ensures.consistent.0 c.if-not-consistent.false in
    open-where_none c.args.xs.now c.args.ys.now c.args.mine.now c.args.theirs.now c.in_ok-closed.closed c.in_ok-closed.ensures met c.cover.result c.is_none.result c.cover.ensures.some c.cover.ensures.none c.is_none.ensures
