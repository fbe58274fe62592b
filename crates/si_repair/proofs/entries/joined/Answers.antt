use Rattle.std.proofs.Common.{◌++◌, List, [], refl, ap, sym, subst, arith}
use Rattle.std.proofs.lemmas.List.{nil_from_length}
use Rattle.std.proofs.lemmas.List.Elements.{All-head, All-tail}
use Rattle.std.specs.Prelude.{All}
use Rattle.prog_paths.specs.declared.accesses.places.Placed.{Placed}
use Rattle.prog_paths.specs.Questions.{asked_among}
use Rattle.conflict_pairs.proofs.Entries.{nothing-left}
use Rattle.conflict_pairs.proofs.Parts.{joined-more}
use Rattle.robust_cert.specs.declared.entries.Told.{Told}
use Rattle.si_repair.specs.declared.entries.ToldPart.{ToldPart}
use Rattle.si_repair.specs.Certificates.{IsToldOf}
use Rattle.si_repair.specs.Telling.{IsPartTold, firsts_in}
use Rattle.si_repair.proofs.Telling.{told-more, told-none}
use Rattle.si_repair.proofs.entries.joined.Goals as goal

pub loop-part-init : goal.loop-part-init
loop-part-init c paths rs places all =
    let given = c.into_iter-part-iterator.ensures.into_iter_gives.0 in (
      [],
      ap firsts_in given,
      subst (All (IsPartTold paths rs places)) (sym given) all,
      subst (λ (l : List Told). IsToldOf paths rs [] l) (sym c.in_ok-told.ensures.items) (told-none paths rs),
    )

pub loop-part-preserved : goal.loop-part-preserved
loop-part-preserved c paths rs places all =
    let before = c.loop-part.invariant paths rs places all in
    let part = c.in-Some.part in
    let first = c.in-Some.ensures.steps.0 in
    let left = subst (All (IsPartTold paths rs places)) first before.2 in
    let head = All-head (IsPartTold paths rs places) part c.next.new.self.rest.items left in
    let own = rw c.in_ok-of_part.was at head in (
      before.0 ++ part.firsts.now,
      joined-more (λ (p : ToldPart). p.firsts.now) before.0 (before.0 ++ part.firsts.now) _ c.next.new.self.rest.items c.loop-part.part-iterator.rest.items part first refl before.1,
      All-tail (IsPartTold paths rs places) part c.next.new.self.rest.items left,
      subst (λ (l : List Told). IsToldOf paths rs (asked_among (before.0 ++ part.firsts.now) places) l) (sym c.in_ok-append.ensures.items)
          (told-more paths rs places before.0 part.firsts.now c.loop-part.told.items c.in_ok-of_part.of_part.items before.3 own),
    )

pub returns : goal.returns
returns c paths rs places all =
    let end = c.loop-part.invariant paths rs places all in
    let left = c.loop-part.part-iterator.rest.items in
    let whole = nothing-left firsts_in end.0 _ left refl (nil_from_length left (omega (arith, c.in-None.ensures.steps.0))) end.1 in
    subst (λ (l : List Placed). IsToldOf paths rs (asked_among l places) c.loop-part.told.items) whole end.3
