use Rattle.std.proofs.Common.{List, ℕ, subst, ◌∙◌, arith}
use Rattle.prog_paths.specs.declared.accesses.places.Placed.{Placed}
use Rattle.prog_paths.specs.Places.{all_from}
use Rattle.conflict_pairs.specs.Classes.{AreNumbered}
use Rattle.conflict_pairs.proofs.OneClass.{each_has_class, AreAccessClasses-from}
use Rattle.conflict_pairs.proofs.classes.classes_of.Goals as goal

pub numbers_of-requires : goal.numbers_of-requires
numbers_of-requires c =
    rw (c.deref.ensures.value, c.deref-2.ensures.value) (each_has_class c.args.paths.now c.in_ok-covers.covers.items c.in_ok-places.places.items c.in_ok-covers.ensures c.in_ok-places.ensures)

pub returns : goal.returns
returns c =
    let paths = c.args.paths.now in
    let covers = c.in_ok-covers.covers.items in
    let numbers = c.in_ok-numbers.numbers.items in
    let numbered : AreNumbered covers (all_from 0 paths) numbers =
    subst (λ (l : List Placed). AreNumbered covers l numbers) (c.deref-2.ensures.value ∙ c.in_ok-places.ensures)
    (subst (λ (l : List ℕ). AreNumbered l c.deref-2.result.now numbers) c.deref.ensures.value c.in_ok-numbers.ensures.numbered) in
    record {
      places_are = c.in_ok-places.ensures;
      few = omega (arith, c.if-len-gt-MAX_PLACES.false, c.len.ensures);
      starts_are = c.in_ok-starts.ensures;
      classed = AreAccessClasses-from paths covers numbers c.in_ok-covers.ensures numbered;
      firsts = rw c.deref-3.ensures.value at c.in_ok-firsts.ensures.firsts;
      lasts = rw c.deref-4.ensures.value at c.in_ok-lasts.ensures;
      nodes = rw (c.deref-5.ensures.value, c.deref-6.ensures.value) at c.in_ok-nodes.ensures;
    }
