use Rattle.std.proofs.Common.{◌+◌, List, length, take, get_or, sym, subst, arith}
use Rattle.std.proofs.lemmas.List.{take_all}
use Rattle.prog_tree.specs.Tree.{draft_tree}
use Rattle.repair_laws.specs.declared.plan.Pair.{Pair}
use Rattle.si_repair.specs.declared.repairs.promotion.CoverablePair.{CoverablePair}
use Rattle.si_repair.specs.Promotion.{pairs_of, IsRefusedWith}
use Rattle.si_repair.proofs.Promotion.{coverable_firsts, coverable_at, promoted_at_once, refused_at, sound_with_none}
use Rattle.si_repair.proofs.repairs.promotion.first_stop.Goals as goal

pub most_that_fit-requires-clause-stands : goal.most_that_fit-requires-clause-stands
most_that_fit-requires-clause-stands c = (c.requires.paths, c.requires.coverable.1)

pub most_that_fit-requires-clause-none : goal.most_that_fit-requires-clause-none
most_that_fit-requires-clause-none c = sound_with_none (draft_tree c.args.set.now) c.requires.sound

pub most_that_fit-requires-clause-all : goal.most_that_fit-requires-clause-all
most_that_fit-requires-clause-all c =
    let coverable = c.args.coverable.now in
    subst (λ (l : List CoverablePair). IsRefusedWith (draft_tree c.args.set.now) (pairs_of l)) (sym (take_all (length coverable) coverable (omega arith))) c.requires.large

pub returns : goal.returns
returns c =
    let draft = draft_tree c.args.set.now in
    let plan = c.args.pairs.now in
    let coverable = c.args.coverable.now in
    let n = c.in_ok-fitting.fitting in
    let within = c.in_ok-fitting.ensures.within in
    let made = c.in_ok-fitting.ensures.fits in
    let before = coverable_firsts draft plan coverable n c.requires.coverable (omega (arith, within)) in
    let passed = promoted_at_once draft plan n (take n coverable) made.0 before made.1 made.2 in
    let firsts = coverable_firsts draft plan coverable (n + 1) c.requires.coverable (omega (arith, within)) in
    refused_at draft plan n (get_or coverable n c.index-coverable-fitting.result).pair (take (n + 1) coverable) c.requires.sound
    (coverable_at draft plan coverable n c.index-coverable-fitting.result c.requires.coverable (omega (arith, within)))
    firsts passed (subst (λ (l : List Pair). IsRefusedWith draft l) firsts.0 c.in_ok-fitting.ensures.refused)
