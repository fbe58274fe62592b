use Rattle.std.proofs.Common.{◌≡◌, ◌↔◌, ℕ, ◌<◌, ◌⊎◌, List, Contains, length, get_or, refl, subst, ◌∙◌, arith}
use Rattle.std.proofs.lemmas.List.{length-set}
use Rattle.conflict_pairs.specs.Classes.{nodes_at}
use Rattle.conflict_pairs.specs.Pairing.{place_at}
use Rattle.conflict_pairs.proofs.KnownClasses.{nodes-none, nodes-read, nodes-more}
use Rattle.conflict_pairs.proofs.classes.nodes_of.Goals as goal

pub loop-n-init : goal.loop-n-init
loop-n-init c = record {
  size = c.in_ok-nodes.ensures.size;
  so_far = nodes-none c.args.places.now c.args.numbers.now c.in_ok-nodes.nodes.items c.in_ok-nodes.ensures.empty;
}

pub loop-n-preserved : goal.loop-n-preserved
loop-n-preserved c =
    let places = c.args.places.now in
    let numbers = c.args.numbers.now in
    let k = c.loop-n.n in
    let old = c.loop-n.nodes.items in
    let new = c.push_node.new.nodes in
    let class = get_or numbers k 0 in
    let inside : k < length places = omega (arith, c.loop-n-test.true) in
    let below : class < c.args.count = c.requires.within k 0 (omega (arith, inside, c.requires.one_each)) in
    let there : class < length old = omega (arith, below, c.loop-n.invariant.size) in
    let read = nodes-read old class c.index_mut.result.now _ there c.index_mut.ensures.value in
    let adds : (x : ℕ) → Contains new.items x ↔ (Contains (nodes_at old class) x ⊎ (x ≡ (place_at places k).node)) =
    subst (λ (l : List ℕ). (x : ℕ) → Contains new.items x ↔ (Contains l x ⊎ (x ≡ (place_at places k).node))) read c.in_ok-push_node.ensures in
    record {
      size = length-set old class new ∙ c.loop-n.invariant.size;
      so_far = nodes-more places numbers old _ k class new inside refl there refl adds c.loop-n.invariant.so_far;
    }

pub returns : goal.returns
returns c =
    let places = c.args.places.now in
    record {
      has = λ n lt. c.loop-n.invariant.so_far.has n (omega (arith, lt, c.loop-n-test.false));
      only = c.loop-n.invariant.so_far.only;
    }
