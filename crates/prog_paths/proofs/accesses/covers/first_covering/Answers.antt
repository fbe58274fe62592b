use Rattle.std.proofs.lemmas.Bool.{both_ways}
use Rattle.prog_paths.proofs.accesses.covers.first_covering.Goals as goal

pub returns-then-not-may_cover-clause-none : goal.returns-then-not-may_cover-clause-none
returns-then-not-may_cover-clause-none c =
    λ j of_theirs at covers. both_ways c.may_cover.result c.if-not-may_cover.true (c.may_cover.ensures.1 covers.mine_covers)
