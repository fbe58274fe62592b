use Rattle.std.proofs.Common.{◌≡◌, ℕ, ◌<◌, ◌+◌, List, Vec, Global, length, get_or, sym, subst, ◌∙◌, arith}
use Rattle.std.proofs.lemmas.List.{get_or_read}
use Rattle.prog_paths.specs.declared.accesses.places.Placed.{Placed}
use Rattle.conflict_pairs.specs.Classes.{class_at}
use Rattle.conflict_pairs.proofs.ClassRows.{AreLastsSoFar, lasts-skip, lasts-push}
use Rattle.conflict_pairs.proofs.Paired.{place-any}
use Rattle.conflict_pairs.proofs.class_pairs.last_places.Goals as goal
use Rattle.conflict_pairs.proofs.class_pairs.last_places.Goals.{then-number_at-n+in_ok-push, else-number_at-n}

pub loop-n-preserved : goal.loop-n-preserved
loop-n-preserved c =
    let k = c.args.classes.now in
    let n = c.loop-n.n in
    let old = c.loop-n.places.items in
    let inside : n < length k.places.items = omega (arith, c.loop-n-test.true, c.deref-place-items.ensures.len) in
    let numbered : n < length k.numbers.items = omega (arith, inside, c.requires.one_each) in
    let read = get_or_read k.numbers.items n c.index.result.now numbered c.index.ensures 0 in
    let last_is : c.number_at.result ≡ get_or k.lasts.items (class_at k n) 0 = c.number_at.ensures ∙ (λ i. get_or (c.deref.ensures.value i) (read i) 0) in
    elim c.if-number_at-n.branch [
      | then-number_at-n+in_ok-push w ↦
          subst (λ (v : Vec Placed Global). AreLastsSoFar k v.items (n + 1)) (sym w.places-is)
          (let added = rw c.deref-place-items.ensures.value at w.in_ok-push.ensures.items in
          lasts-push k old n c.loop-n.invariant w.push.new.self.items _ inside (place-any k.places.items n _ inside) added)
      | else-number_at-n w ↦
          subst (λ (v : Vec Placed Global). AreLastsSoFar k v.items (n + 1)) (sym w.places-is)
          (lasts-skip k old n c.loop-n.invariant (λ e. w.if-number_at-n.false (last_is ∙ e)))
    ]

pub returns : goal.returns
returns c =
    let k = c.args.classes.now in
    record {
      there = c.loop-n.invariant.there;
      whole = λ m inside last. c.loop-n.invariant.whole m (omega (arith, inside, c.loop-n-test.false, c.deref-place-items.ensures.len)) inside last;
    }
