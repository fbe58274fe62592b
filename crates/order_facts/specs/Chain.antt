-- What facts say about order, and what a chain of them is.
use Rattle.std.specs.Prelude.{◌≡◌, ℕ, List, [], ◌∷◌, ℤ, ◌≤ℤ◌, ◌<ℤ◌, Contains, All, ◌⊎◌}
use Rattle.prog_tree.specs.Number.{least, greatest, IsI64}
use Rattle.order_facts.specs.declared.steps.Node.{Node}
use Rattle.order_facts.specs.declared.steps.Node.TheVariants.{Mine, MineUnknown, Theirs, TheirsUnknown, Number}
use Rattle.order_facts.specs.declared.steps.Fact.{Fact}

-- ---- entailment

-- a number for each parameter and each unknown of both sides
pub record Valuation : Type 0 where
  pub mine : ℕ → ℤ
  pub mine_unknown : ℕ → ℤ
  pub theirs : ℕ → ℤ
  pub theirs_unknown : ℕ → ℤ

-- each of a valuation's numbers is an i64
pub record IsValuationOfI64 (v : Valuation) : Type 0 where
  pub mine : (i : ℕ) → IsI64 (v.mine i)
  pub mine_unknown : (i : ℕ) → IsI64 (v.mine_unknown i)
  pub theirs : (i : ℕ) → IsI64 (v.theirs i)
  pub theirs_unknown : (i : ℕ) → IsI64 (v.theirs_unknown i)

-- what a node is under a valuation
abbrev pub value_under : Valuation → Node → ℤ
value_under v (Mine i) = v.mine i
value_under v (MineUnknown i) = v.mine_unknown i
value_under v (Theirs i) = v.theirs i
value_under v (TheirsUnknown i) = v.theirs_unknown i
value_under v (Number k) = k

-- a valuation meets a list of facts: each fact's lower node is at most its upper one
abbrev pub Meets : Valuation → List Fact → Type 0
Meets v facts = All (λ f. value_under v f.lo ≤ℤ value_under v f.hi) facts

-- every valuation of i64 that meets all facts gives `x` at most what it gives `y`
abbrev pub Entails : List Fact → Node → Node → Type 0
Entails facts x y = (v : Valuation) → IsValuationOfI64 v → Meets v facts → value_under v x ≤ℤ value_under v y

-- and `y` at most what it gives `x`
abbrev pub ForcesEqual : List Fact → Node → Node → Type 0
ForcesEqual facts x y = Entails facts x y × Entails facts y x

-- some valuation of i64 meets all facts
abbrev pub IsConsistent : List Fact → Type 0
IsConsistent facts = (v : Valuation) × IsValuationOfI64 v × Meets v facts

-- ---- chains

-- the least number that a node can be
abbrev pub floor_of : Node → ℤ
floor_of (Number k) = k
floor_of _ = least

-- the greatest number that a node can be
abbrev pub ceiling_of : Node → ℤ
ceiling_of (Number k) = k
ceiling_of _ = greatest

-- `a` is at most `b`, whatever they are: two numbers in order, the least i64 first or the greatest second
abbrev pub IsPlainStep : Node → Node → Type 0
IsPlainStep a b = ceiling_of a ≤ℤ floor_of b

-- `b` may stand behind `a` in a chain: the pair is a given fact, or in order whatever the two are
abbrev pub IsStep : List Fact → Node → Node → Type 0
IsStep facts a b = Contains facts (record { lo = a; hi = b }) ⊎ IsPlainStep a b

-- each node is a step from the one before, and the first is a step from `a`
abbrev pub IsChainFrom : List Fact → Node → List Node → Type 0
IsChainFrom facts a [] = Unit {0}
IsChainFrom facts a (b ∷ rest) = IsStep facts a b × IsChainFrom facts b rest

-- a list of nodes that isn't empty, each a step from the one before
abbrev pub IsChain : List Fact → List Node → Type 0
IsChain facts [] = ⊥
IsChain facts (a ∷ rest) = IsChainFrom facts a rest

-- the last node of a list that begins with `a`
abbrev pub last_of : Node → List Node → Node
last_of a [] = a
last_of a (b ∷ rest) = last_of b rest

-- the chain's first node is `x` and its last is `y`
abbrev pub RunsBetween : Node → Node → List Node → Type 0
RunsBetween x y [] = ⊥
RunsBetween x y (a ∷ rest) = (a ≡ x) × (last_of a rest ≡ y)

-- of two steps in a row one at least is by a given fact: else the node between them could be left out
abbrev pub IsTight : List Node → Type 0
IsTight (a ∷ b ∷ c ∷ rest) = ¬ (IsPlainStep a b × IsPlainStep b c) × IsTight (b ∷ c ∷ rest)
IsTight _ = Unit {0}

-- a chain runs from a number of the facts to a smaller number of them: one is a fact's lower node, the other a fact's
-- upper one
pub record HasContradiction (facts : List Fact) : Type 0 where
  pub greater : ℤ
  pub smaller : ℤ
  pub falls : smaller <ℤ greater
  pub first : Fact
  pub first_given : Contains facts first
  pub first_is : first.lo ≡ Number greater
  pub last : Fact
  pub last_given : Contains facts last
  pub last_is : last.hi ≡ Number smaller
  pub chain : List Node
  pub chain_is : IsChain facts chain
  pub chain_runs : RunsBetween (Number greater) (Number smaller) chain
