-- Chains that fall, of a fact alone and among more facts.
use Rattle.std.proofs.Common.{◌≡◌, ℕ, ◌+◌, ◌⊎◌, get_or, List, [], ◌∷◌, ◌++◌, length, map, inl, inr, refl, sym, subst, ap, Contains}
use Rattle.std.specs.Prelude.{Option, Some, None, slice_get, All, IfSome, IfNone}
use Rattle.std.proofs.lemmas.Option.{get_or_from_slice_get}
use Rattle.std.proofs.lemmas.List.Elements.{All-append}
use Rattle.prog_tree.proofs.Elements.{IsMember, member_from_contains, contains_from_member, member_left, member_right}
use Rattle.order_facts.specs.declared.steps.Node.{Node}
use Rattle.order_facts.specs.declared.steps.Fact.{Fact}
use Rattle.order_facts.specs.declared.steps.Node.TheVariants.{Number}
use Rattle.order_facts.specs.Chain.{IsStep, IsChainFrom, IsChain, RunsBetween, HasContradiction}
use Rattle.prog_check.specs.declared.path.Column.{Column}
use Rattle.prog_check.specs.declared.path.Access.{Access}
use Rattle.prog_paths.specs.Facts.{mine_node, their_node, column_facts, column_or_zero, second_facts, question_facts}
use Rattle.conflict_pairs.specs.Verdicts.{IsFall}
use Rattle.prog_paths.specs.Shown.{Falls}
use Rattle.conflict_pairs.specs.Search.{FallsBetween, FallsAtOnce, FoundWithin}

-- ---- among more facts

abbrev Includes : List Fact → List Fact → Type 0
Includes more facts = (f : Fact) → IsMember f facts → IsMember f more

IsStep-more : (facts more : List Fact) → Includes more facts → (a b : Node) → IsStep facts a b → IsStep more a b
IsStep-more facts more h a b (inl c) = inl (contains_from_member more _ (h _ (member_from_contains facts _ c)))
IsStep-more facts more h a b (inr p) = inr p

IsChainFrom-more : (facts more : List Fact) → Includes more facts → (a : Node) (rest : List Node) → IsChainFrom facts a rest → IsChainFrom more a rest
IsChainFrom-more facts more h a [] c = tt
IsChainFrom-more facts more h a (b ∷ rest) c = (IsStep-more facts more h a b c.0, IsChainFrom-more facts more h b rest c.1)

IsChain-more : (facts more : List Fact) → Includes more facts → (chain : List Node) → IsChain facts chain → IsChain more chain
IsChain-more facts more h [] c = c
IsChain-more facts more h (a ∷ rest) c = IsChainFrom-more facts more h a rest c

Falls-more : (facts more : List Fact) → Includes more facts → (chain : List Node) → Falls facts chain → Falls more chain
Falls-more facts more h chain f = record { greater = f.greater; smaller = f.smaller; falls = f.falls; is_chain = IsChain-more facts more h chain f.is_chain; runs = f.runs }

pub FallsAtOnce-left : (fs gs : List Fact) (chain : List Node) → FallsAtOnce fs chain → FallsAtOnce (fs ++ gs) chain
FallsAtOnce-left fs gs chain h = record { falls = Falls-more fs (fs ++ gs) (λ f i. member_left f fs gs i) chain h.falls; two = h.two }

pub FallsAtOnce-right : (fs gs : List Fact) (chain : List Node) → FallsAtOnce gs chain → FallsAtOnce (fs ++ gs) chain
FallsAtOnce-right fs gs chain h = record { falls = Falls-more gs (fs ++ gs) (λ f i. member_right f fs gs i) chain h.falls; two = h.two }

-- ---- of a fact alone

pub Falls-fact : (facts : List Fact) (from to : Node) → IsMember {A = Fact} (record { lo = from; hi = to }) facts → IsFall from to → Falls facts (from ∷ to ∷ [])
Falls-fact facts from to i f = record {
  greater = f.greater;
  smaller = f.smaller;
  falls = f.falls;
  is_chain = (inl (contains_from_member facts _ i), tt);
  runs = (f.from_is, f.to_is);
}

pub FallsAtOnce-two : (facts : List Fact) (from to : Node) (chain : List Node) → IsMember {A = Fact} (record { lo = from; hi = to }) facts → IsFall from to × (chain ≡ from ∷ to ∷ []) → FallsAtOnce facts chain
FallsAtOnce-two facts from to chain i h = subst (λ (c : List Node). FallsAtOnce facts c) (sym h.1) (record { falls = Falls-fact facts from to i h.0; two = refl })

-- ---- the nodes of a question's facts

-- a node is among those at one end of the facts, a missing second column taken as zero
abbrev EndAt : (Fact → Node) → Column → Column → Option Column → Option Column → Node → Type 0
EndAt end m t m2 t2 node = (i : ℕ) × (slice_get (map end (column_facts m t ++ column_facts (column_or_zero m2) (column_or_zero t2))) i ≡ Some node)

end_at : (end : Fact → Node) (m t : Column) (m2 t2 : Option Column) (f : Fact) → IsMember f (column_facts m t ++ second_facts m2 t2) → EndAt end m t m2 t2 (end f)
end_at end m t m2 t2 f (inl e) = (0, ap (λ (g : Fact). Some (end g)) e)
end_at end m t m2 t2 f (inr (inl e)) = (1, ap (λ (g : Fact). Some (end g)) e)
end_at end m t None None f (inr (inr i)) = absurd i
end_at end m t None (Some d) f (inr (inr (inl e))) = (2, ap (λ (g : Fact). Some (end g)) e)
end_at end m t None (Some d) f (inr (inr (inr (inl e)))) = (3, ap (λ (g : Fact). Some (end g)) e)
end_at end m t None (Some d) f (inr (inr (inr (inr i)))) = absurd i
end_at end m t (Some c) d f (inr (inr (inl e))) = (2, ap (λ (g : Fact). Some (end g)) e)
end_at end m t (Some c) d f (inr (inr (inr (inl e)))) = (3, ap (λ (g : Fact). Some (end g)) e)
end_at end m t (Some c) d f (inr (inr (inr (inr i)))) = absurd i

-- the lower nodes of a question's facts
abbrev pub lower_nodes : Access → Access → List Node
lower_nodes mine theirs =
    mine_node mine.first.low ∷ their_node theirs.first.low
    ∷ mine_node (column_or_zero mine.second).low ∷ their_node (column_or_zero theirs.second).low ∷ []

-- the upper nodes of a question's facts
abbrev pub upper_nodes : Access → Access → List Node
upper_nodes mine theirs =
    their_node theirs.first.low ∷ mine_node mine.first.high
    ∷ their_node (column_or_zero theirs.second).low ∷ mine_node (column_or_zero mine.second).high ∷ []

pub lower-place : (mine theirs : Access) (f : Fact) → Contains (question_facts mine theirs) f → (i : ℕ) × (slice_get (lower_nodes mine theirs) i ≡ Some f.lo)
lower-place mine theirs f c = end_at (λ g. g.lo) mine.first theirs.first mine.second theirs.second f (member_from_contains (question_facts mine theirs) f c)

pub upper-place : (mine theirs : Access) (f : Fact) → Contains (question_facts mine theirs) f → (i : ℕ) × (slice_get (upper_nodes mine theirs) i ≡ Some f.hi)
upper-place mine theirs f c = end_at (λ g. g.hi) mine.first theirs.first mine.second theirs.second f (member_from_contains (question_facts mine theirs) f c)

-- a contradiction is a chain between two of these nodes that fall
pub FallsBetween-contradiction : (facts : List Fact) → (h : HasContradiction facts) → FallsBetween facts h.first.lo h.last.hi
FallsBetween-contradiction facts h = record {
  fall = record { greater = h.greater; smaller = h.smaller; from_is = h.first_is; to_is = h.last_is; falls = h.falls };
  chain = h.chain;
  runs = (h.chain_is, subst (λ (n : Node). RunsBetween n h.last.hi h.chain) (sym h.first_is) (subst (λ (n : Node). RunsBetween (Number h.greater) n h.chain) (sym h.last_is) h.chain_runs));
}

-- where a chain is found between two of these nodes with as few nodes as any, so it is for each contradiction
pub found_for : (mine theirs : Access) (facts : List Fact) (starts ends : List Node) (found : Option (List Node)) → facts ≡ question_facts mine theirs → starts ≡ lower_nodes mine theirs → ends ≡ upper_nodes mine theirs
    → ((i k : ℕ) (from to : Node) → slice_get starts i ≡ Some from → slice_get ends k ≡ Some to → (h : FallsBetween facts from to) → FoundWithin found (length h.chain))
    → (h : HasContradiction facts) → FoundWithin found (length h.chain)
unfolding FallsBetween-contradiction
found_for mine theirs facts starts ends found same lowers uppers all h =
    let low = lower-place mine theirs h.first (subst (λ (fs : List Fact). Contains fs h.first) same h.first_given) in
    let high = upper-place mine theirs h.last (subst (λ (fs : List Fact). Contains fs h.last) same h.last_given) in
    all low.0 high.0 h.first.lo h.last.hi
    (subst (λ (ns : List Node). slice_get ns low.0 ≡ Some h.first.lo) (sym lowers) low.1)
    (subst (λ (ns : List Node). slice_get ns high.0 ≡ Some h.last.hi) (sym uppers) high.1)
    (FallsBetween-contradiction facts h)

-- ---- the shorter of two chains

pub IfSome-either : {A : Type 0} (P : A → Type 0) (result one other : Option A) → (result ≡ one) ⊎ (result ≡ other) → IfSome one P → IfSome other P → IfSome result P
IfSome-either P result one other (inl e) h k = subst (λ (o : Option _). IfSome o P) (sym e) h
IfSome-either P result one other (inr e) h k = subst (λ (o : Option _). IfSome o P) (sym e) k

pub own_end : (facts : List Fact) (from : Node) (ends : List Node) (n : ℕ) (d : Node) (found : Option (List Node)) → ((h : FallsBetween facts from (get_or ends n d)) → FoundWithin found (length h.chain))
    → (to : Node) → slice_get ends n ≡ Some to → (h : FallsBetween facts from to) → FoundWithin found (length h.chain)
own_end facts from ends n d found all to at = subst (λ (t : Node). (h : FallsBetween facts from t) → FoundWithin found (length h.chain)) (get_or_from_slice_get ends n to d at) all

pub own_start : (facts : List Fact) (starts ends : List Node) (n : ℕ) (d : Node) (found : Option (List Node))
    → ((k : ℕ) (to : Node) → slice_get ends k ≡ Some to → (h : FallsBetween facts (get_or starts n d) to) → FoundWithin found (length h.chain))
    → (from : Node) → slice_get starts n ≡ Some from → (k : ℕ) (to : Node) → slice_get ends k ≡ Some to → (h : FallsBetween facts from to) → FoundWithin found (length h.chain)
own_start facts starts ends n d found all from at =
    subst (λ (t : Node). (k : ℕ) (to : Node) → slice_get ends k ≡ Some to → (h : FallsBetween facts t to) → FoundWithin found (length h.chain)) (get_or_from_slice_get starts n from d at) all

-- where none of some facts and none of others is of two numbers that fall, none of both is
pub none_fall : (result : Option (List Node)) (fs gs : List Fact) → All (λ f. IsFall f.lo f.hi → ⊥) fs → IfNone result (All (λ f. IsFall f.lo f.hi → ⊥) gs) → IfNone result (All (λ f. IsFall f.lo f.hi → ⊥) (fs ++ gs))
none_fall None fs gs h k = All-append (λ f. IsFall f.lo f.hi → ⊥) fs gs h k
none_fall (Some chain) fs gs h k = tt
