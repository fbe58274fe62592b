use Rattle.std.proofs.Common.{◌+◌, List, length, take, get_or, refl, sym, subst, arith}
use Rattle.std.proofs.lemmas.List.{take_all}
use Rattle.prog_tree.specs.Syntax.{DraftTree}
use Rattle.prog_tree.specs.Tree.{draft_tree}
use Rattle.prog_check.specs.Sound.{IsSound}
use Rattle.repair_laws.specs.declared.plan.NewTable.{NewTable}
use Rattle.repair_laws.specs.Materialised.{materialised_by}
use Rattle.si_repair.specs.Checking.{IsRefused}
use Rattle.si_repair.proofs.NewTables.{small_first, met_firsts, few_met, met_at, nothing_made, refused_at}
use Rattle.si_repair.proofs.repairs.materialise.first_stop.Goals as goal

pub most_that_fit-requires-clause-stands : goal.most_that_fit-requires-clause-stands
most_that_fit-requires-clause-stands c = c.requires.met.keys

pub most_that_fit-requires-clause-none : goal.most_that_fit-requires-clause-none
most_that_fit-requires-clause-none c = subst (λ (d : DraftTree). IsSound d) (sym (nothing_made (draft_tree c.args.set.now))) c.requires.sound

pub most_that_fit-requires-clause-all : goal.most_that_fit-requires-clause-all
most_that_fit-requires-clause-all c =
    let made = c.args.made.now in
    subst (λ (l : List NewTable). IsRefused (materialised_by (draft_tree c.args.set.now) l)) (sym (take_all (length made) made (omega arith))) c.requires.large

pub returns : goal.returns
returns c =
    let draft = draft_tree c.args.set.now in
    let plan = c.args.pairs.now in
    let made = c.args.made.now in
    let n = c.in_ok-fitting.fitting in
    let within = c.in_ok-fitting.ensures.within in
    let few = few_met draft plan made c.requires.met in
    let before = met_firsts draft plan made n c.requires.met (omega (arith, within)) in
    let small = small_first draft plan n (take n made) before c.in_ok-fitting.ensures.fits (omega (arith, within, few)) in
    let own = (take (n + 1) made) in
    refused_at draft plan n (get_or made n c.index-made-fitting.result).pair (materialised_by draft own) c.requires.sound
    (met_at draft plan made n c.index-made-fitting.result c.requires.met (omega (arith, within)))
    (own, met_firsts draft plan made (n + 1) c.requires.met (omega (arith, within)), refl) small c.in_ok-fitting.ensures.refused
