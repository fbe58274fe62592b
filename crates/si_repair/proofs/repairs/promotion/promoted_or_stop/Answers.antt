use Rattle.std.proofs.Common.{◌<◌, All, List, Option, length, subst, sym, take}
use Rattle.prog_tree.specs.Tree.{draft_tree}
use Rattle.repair_laws.specs.Promoted.{IsPromoted}
use Rattle.si_repair.specs.declared.repairs.fault.RepairFault.{RepairFault}
use Rattle.si_repair.specs.declared.repairs.promotion.CoverablePair.{CoverablePair}
use Rattle.si_repair.specs.Promotion.{pairs_of, AreCoverable, AreGathered, HasCoverableReads, IsRefusedWith}
use Rattle.si_repair.proofs.Promotion.{gathered_firsts, gathered_stopped, promoted_safe, some_coverable, stops_none, wholly_promoted}
use Rattle.si_repair.proofs.repairs.promotion.promoted_or_stop.Goals as goal

pub with_keeps-requires-clause-coverable : goal.with_keeps-requires-clause-coverable
with_keeps-requires-clause-coverable c =
    let draft = draft_tree c.args.set.now in
    let all = c.args.gathered in
    subst (λ (l : List CoverablePair). All (HasCoverableReads draft) l) (sym c.deref.ensures.value) (gathered_firsts draft c.args.pairs.now all.coverable.items all.fault c.requires.gathered).1

pub first_stop-requires-clause-coverable : goal.first_stop-requires-clause-coverable
first_stop-requires-clause-coverable c =
    let draft = draft_tree c.args.set.now in
    let all = c.args.gathered in
    subst (λ (l : List CoverablePair). AreCoverable draft (take (length l) c.args.pairs.now) l) (sym c.deref-in_default.ensures.value)
    (gathered_firsts draft c.args.pairs.now all.coverable.items all.fault c.requires.gathered)

pub first_stop-requires-clause-some : goal.first_stop-requires-clause-some
first_stop-requires-clause-some c =
    let draft = draft_tree c.args.set.now in
    let all = c.args.gathered in
    let items = all.coverable.items in
    let refused = subst (λ (l : List CoverablePair). IsRefusedWith draft (pairs_of l)) c.deref.ensures.value (rw c.in_default.is at c.in_ok-promoted.ensures.refused) in
    subst (λ (l : List CoverablePair). 0 < length l) (sym c.deref-in_default.ensures.value)
    (some_coverable draft (take (length items) c.args.pairs.now) items c.requires.sound (gathered_firsts draft c.args.pairs.now items all.fault c.requires.gathered) refused)

pub first_stop-requires-clause-large : goal.first_stop-requires-clause-large
first_stop-requires-clause-large c =
    let draft = draft_tree c.args.set.now in
    let refused = subst (λ (l : List CoverablePair). IsRefusedWith draft (pairs_of l)) c.deref.ensures.value (rw c.in_default.is at c.in_ok-promoted.ensures.refused) in
    subst (λ (l : List CoverablePair). IsRefusedWith draft (pairs_of l)) (sym c.deref-in_default.ensures.value) refused

pub returns-in-Some-fault-clause-refused : goal.returns-in-Some-fault-clause-refused
returns-in-Some-fault-clause-refused c =
    let draft = draft_tree c.args.set.now in
    let items = c.args.gathered.coverable.items in
    let made = subst (λ (l : List CoverablePair). IsPromoted draft (pairs_of l) (draft_tree c.in-Some.promoted)) c.deref.ensures.value (rw c.in-Some.is at c.in_ok-promoted.ensures.made) in
    let sound = rw c.in-Some.is at c.in_ok-promoted.ensures.sound in
    gathered_stopped draft c.args.pairs.now items (draft_tree c.in-Some.promoted) c.in-Some-fault.fault
    (subst (λ (o : Option RepairFault). AreGathered draft c.args.pairs.now items o) c.in-Some-fault.is c.requires.gathered) made sound

pub returns-clause-repaired : goal.returns-clause-repaired
returns-clause-repaired c =
    let draft = draft_tree c.args.set.now in
    let pairs = c.args.pairs.now in
    let items = c.args.gathered.coverable.items in
    let repaired = draft_tree c.in-Some.promoted in
    let whole = subst (λ (o : Option RepairFault). AreGathered draft pairs items o) c.in_default-fault.is c.requires.gathered in
    let made = subst (λ (l : List CoverablePair). IsPromoted draft (pairs_of l) repaired) c.deref.ensures.value (rw c.in-Some.is at c.in_ok-promoted.ensures.made) in
    let sound = rw c.in-Some.is at c.in_ok-promoted.ensures.sound in
    record {
      made = wholly_promoted draft pairs items repaired whole made;
      safe = promoted_safe draft pairs items repaired c.requires.sound whole made;
      goes = stops_none draft pairs items repaired whole made sound;
    }
