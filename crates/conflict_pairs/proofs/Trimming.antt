-- A chain that falls is no shorter than one whose ends are ends of facts.
use Rattle.std.proofs.Common.{◌≡◌, ℕ, suc, ◌≤◌, ℤ, ◌≤ℤ◌, ◌<ℤ◌, List, [], ◌∷◌, length, ◌⊎◌, inl, inr, refl, sym, subst, ap, ◌∙◌, Contains, arith}
use Rattle.std.specs.Prelude.{Option, Some, IfSome}
use Rattle.std.proofs.lemmas.Int.{ints}
use Rattle.prog_tree.specs.Number.{least, greatest, IsI64}
use Rattle.order_facts.specs.declared.steps.Node.{Node}
use Rattle.order_facts.specs.declared.steps.Node.TheVariants.{Mine, MineUnknown, Theirs, TheirsUnknown, Number}
use Rattle.order_facts.specs.declared.steps.Fact.{Fact}
use Rattle.order_facts.specs.Chain.{ceiling_of, IsPlainStep, IsStep, IsChainFrom, HasContradiction, last_of}
use Rattle.order_facts.proofs.Reach.{floor-ceiling}
use Rattle.prog_paths.specs.Shown.{Falls}
use Rattle.conflict_pairs.specs.Verdicts.{FallsShortest}
use Rattle.conflict_pairs.specs.Search.{FallsAtOnce, FoundWithin}

abbrev number_in : Node → ℤ → ℤ
number_in (Number k) other = k
number_in _ other = other

same_number : (j k : ℤ) → Number j ≡ Number k → j ≡ k
same_number j k e = ap (λ (n : Node). number_in n j) e

-- ---- the end

-- a chain of at most so many steps leads from a node to a number of at most s, the last step by a given fact
record Ended (facts : List Fact) (a : Node) (s : ℤ) (count : ℕ) : Type 0 where
  rest : List Node
  chain : IsChainFrom facts a rest
  end : ℤ
  end_is : last_of a rest ≡ Number end
  low : end ≤ℤ s
  last : Fact
  given : Contains facts last
  last_is : last.hi ≡ Number end
  few : length rest ≤ count

module _ (facts : List Fact) (s : ℤ) (below : s <ℤ greatest) where
  end_here : (a b : Node) (count : ℕ) → Contains facts (record { lo = a; hi = b }) → ceiling_of b ≤ℤ s → Ended facts a s (suc count)
  end_here a (Number k) count f h = record { rest = Number k ∷ []; chain = (inl f, tt); end = k; end_is = refl; low = h; last = record { lo = a; hi = Number k }; given = f; last_is = refl; few = omega arith }
  end_here a (Mine i) count f h = absurd (omega (arith, ints, h, below))
  end_here a (MineUnknown i) count f h = absurd (omega (arith, ints, h, below))
  end_here a (Theirs i) count f h = absurd (omega (arith, ints, h, below))
  end_here a (TheirsUnknown i) count f h = absurd (omega (arith, ints, h, below))

  ended : (rest : List Node) (a : Node) → IsChainFrom facts a rest → last_of a rest ≡ Number s → (ceiling_of a ≤ℤ s) ⊎ Ended facts a s (length rest)
  ended [] a c e = inl (subst (λ (n : Node). ceiling_of n ≤ℤ s) (sym e) (omega (arith, ints)))
  ended (b ∷ rest) a c e = go c.0 (ended rest b c.1 e)
    where
      go : IsStep facts a b → (ceiling_of b ≤ℤ s) ⊎ Ended facts b s (length rest) → (ceiling_of a ≤ℤ s) ⊎ Ended facts a s (suc (length rest))
      go step (inr w) = let few = w.few in inr (record { rest = b ∷ w.rest; chain = (step, w.chain); end = w.end; end_is = w.end_is; low = w.low; last = w.last; given = w.given; last_is = w.last_is; few = omega (arith, few) })
      go (inl f) (inl h) = inr (end_here a b (length rest) f h)
      go (inr p) (inl h) = let m = floor-ceiling b in inl (omega (arith, ints, p, m, h))

-- ---- the beginning

-- a contradiction with a chain of at most so many nodes
abbrev pub IsWithin : List Fact → ℕ → Type 0
IsWithin facts count = (h : HasContradiction facts) × (length h.chain ≤ count)

module _ (facts : List Fact) (s : ℤ) (above : least ≤ℤ s) (end : ℤ) (low : end ≤ℤ s) (last : Fact) (given : Contains facts last) (last_is : last.hi ≡ Number end) where
  begun : (rest : List Node) (g : ℤ) → s <ℤ g → IsChainFrom facts (Number g) rest → last_of (Number g) rest ≡ Number end → IsWithin facts (suc (length rest))
  begun [] g falls c e = let same = same_number g end e in absurd (omega (arith, ints, same, falls, low))
  begun (b ∷ rest) g falls c e = go (begun rest) c.0
    where
      skip : ((k : ℤ) → s <ℤ k → IsChainFrom facts (Number k) rest → last_of (Number k) rest ≡ Number end → IsWithin facts (suc (length rest)))
          → (d : Node) → IsPlainStep (Number g) d → IsChainFrom facts d rest → last_of d rest ≡ Number end → IsWithin facts (suc (suc (length rest)))
      skip shorter (Number k) p on to = let w = shorter k (omega (arith, ints, p, falls)) on to in let few = w.1 in (w.0, omega (arith, few))
      skip shorter (Mine i) p on to = absurd (omega (arith, ints, p, falls, above))
      skip shorter (MineUnknown i) p on to = absurd (omega (arith, ints, p, falls, above))
      skip shorter (Theirs i) p on to = absurd (omega (arith, ints, p, falls, above))
      skip shorter (TheirsUnknown i) p on to = absurd (omega (arith, ints, p, falls, above))

      go : ((k : ℤ) → s <ℤ k → IsChainFrom facts (Number k) rest → last_of (Number k) rest ≡ Number end → IsWithin facts (suc (length rest)))
          → IsStep facts (Number g) b → IsWithin facts (suc (suc (length rest)))
      go shorter (inl f) = (
        record {
          greater = g;
          smaller = end;
          falls = omega (arith, ints, low, falls);
          first = record { lo = Number g; hi = b };
          first_given = f;
          first_is = refl;
          last = last;
          last_given = given;
          last_is = last_is;
          chain = Number g ∷ b ∷ rest;
          chain_is = c;
          chain_runs = (refl, e);
        },
        omega arith,
      )
      go shorter (inr p) = skip shorter b p c.1 e

-- ---- both

pub trimmed : (facts : List Fact) (chain : List Node) → (h : Falls facts chain) → IsI64 h.greater → IsI64 h.smaller → IsWithin facts (length chain)
trimmed facts [] h g s = absurd h.is_chain
trimmed facts (a ∷ rest) h g s = go (ended facts h.smaller below rest (Number h.greater) from to)
  where
    below : h.smaller <ℤ greatest
    below = let top = g.1 in let falls = h.falls in omega (arith, ints, top, falls)

    from : IsChainFrom facts (Number h.greater) rest
    from = subst (λ (n : Node). IsChainFrom facts n rest) h.runs.0 h.is_chain

    to : last_of (Number h.greater) rest ≡ Number h.smaller
    to = subst (λ (n : Node). last_of n rest ≡ Number h.smaller) h.runs.0 h.runs.1

    go : (h.greater ≤ℤ h.smaller) ⊎ Ended facts (Number h.greater) h.smaller (length rest) → IsWithin facts (suc (length rest))
    go (inl l) = let falls = h.falls in absurd (omega (arith, ints, l, falls))
    go (inr w) =
        let few = w.few in
        let k = begun facts h.smaller s.0 w.end w.low w.last w.given w.last_is w.rest h.greater h.falls w.chain w.end_is in
        let within = k.1 in
        (k.0, omega (arith, few, within))

pub FallsShortest-found : (facts : List Fact) (found : Option (List Node)) (chain : List Node) → found ≡ Some chain → IfSome found (λ c. Falls facts c) → ((h : HasContradiction facts) → FoundWithin found (length h.chain)) → FallsShortest facts chain
FallsShortest-found facts found chain is some within = record {
  falls = subst (λ (o : Option (List Node)). IfSome o (λ c. Falls facts c)) is some;
  fewest = λ other k g s.
      let w = trimmed facts other k g s in
      let own = subst (λ (o : Option (List Node)). FoundWithin o (length w.0.chain)) is (within w.0) in
      let few = w.1 in
      omega (arith, own, few);
}

-- ---- at once

-- a chain that falls has two nodes or more
two_or_more : (facts : List Fact) (chain : List Node) → Falls facts chain → 2 ≤ length chain
two_or_more facts [] h = absurd h.is_chain
two_or_more facts (a ∷ []) h =
    let same = same_number h.greater h.smaller (sym h.runs.0 ∙ h.runs.1) in
    let falls = h.falls in
    absurd (omega (arith, ints, same, falls))
two_or_more facts (a ∷ b ∷ rest) h = omega arith

pub FallsShortest-at_once : (facts : List Fact) (chain : List Node) → FallsAtOnce facts chain → FallsShortest facts chain
FallsShortest-at_once facts chain h = record {
  falls = h.falls;
  fewest = λ other k g s. let two = h.two in let more = two_or_more facts other k in omega (arith, two, more);
}
