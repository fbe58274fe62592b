use Rattle.std.proofs.lemmas.Option.{IfSome_then}
use Rattle.prog_paths.specs.Facts.{column_facts, second_facts}
use Rattle.conflict_pairs.proofs.Falling.{FallsAtOnce-left, FallsAtOnce-right, none_fall}
use Rattle.conflict_pairs.proofs.Trimming.{FallsShortest-at_once}
use Rattle.conflict_pairs.proofs.apart.number_fall.Goals as goal

pub returns-in-Some-clause-some : goal.returns-in-Some-clause-some
returns-in-Some-clause-some c =
    let mine = c.args.mine.now in
    let theirs = c.args.theirs.now in
    FallsShortest-at_once _ c.in-Some.chain (FallsAtOnce-left (column_facts mine.first theirs.first) (second_facts mine.second theirs.second) c.in-Some.chain c.in-Some.ensures.some)

pub returns-in-None-clause-some : goal.returns-in-None-clause-some
returns-in-None-clause-some c =
    let mine = c.args.mine.now in
    let theirs = c.args.theirs.now in
    IfSome_then c.second_fall.result c.second_fall.ensures.some
    (λ chain p. FallsShortest-at_once _ chain (FallsAtOnce-right (column_facts mine.first theirs.first) (second_facts mine.second theirs.second) chain p))

pub returns-in-None-clause-none : goal.returns-in-None-clause-none
returns-in-None-clause-none c =
    let mine = c.args.mine.now in
    let theirs = c.args.theirs.now in
    none_fall c.second_fall.result (column_facts mine.first theirs.first) (second_facts mine.second theirs.second) c.in-None.ensures.none c.second_fall.ensures.none
