-- The sample of some facts: for each node the number nearest to 0 between the bounds that they force.
use Rattle.std.specs.Prelude.{◌≡◌, ◌≤◌, List, [], ◌∷◌, ℤ, pos, ◌≤ℤ◌, if◌then◌else◌, Any, unsigned_abs}
use Rattle.order_facts.specs.declared.steps.Node.{Node}
use Rattle.order_facts.specs.declared.steps.Node.TheVariants.{Mine, MineUnknown, Theirs, TheirsUnknown, Number}
use Rattle.order_facts.specs.declared.steps.Fact.{Fact}
use Rattle.order_facts.specs.declared.sample.Choice.{Choice}
use Rattle.order_facts.specs.Chain.{Entails, Valuation}
use Rattle.order_facts.specs.Reaches.{is_same_unknown}

-- the number of the first choice of the node, or 0
abbrev pub chosen : List Choice → Node → ℤ
chosen [] node = pos 0
chosen (c ∷ rest) node = if is_same_unknown c.node node then c.number else chosen rest node

-- what a sample gives a node: a number itself, and another node its choice
abbrev pub sample_number : List Choice → Node → ℤ
sample_number choices (Number k) = k
sample_number choices node = chosen choices node

-- a sample as a valuation
abbrev pub valuation_of : List Choice → Valuation
valuation_of choices =
    record { mine = λ i. sample_number choices (Mine i); mine_unknown = λ i. sample_number choices (MineUnknown i); theirs = λ i. sample_number choices (Theirs i); theirs_unknown = λ i. sample_number choices (TheirsUnknown i) }

-- the greatest number that the facts force below the node
pub record IsForcedBelow (facts : List Fact) (node : Node) (low : ℤ) : Type 0 where
  pub forced : Entails facts (Number low) node
  pub greatest : (k : ℤ) → Entails facts (Number k) node → k ≤ℤ low

-- the least number that the facts force above the node
pub record IsForcedAbove (facts : List Fact) (node : Node) (high : ℤ) : Type 0 where
  pub forced : Entails facts node (Number high)
  pub least : (k : ℤ) → Entails facts node (Number k) → high ≤ℤ k

-- the number nearest to 0 from `low` to `high`
pub record IsNearest (low high z : ℤ) : Type 0 where
  pub at_least : low ≤ℤ z
  pub at_most : z ≤ℤ high
  pub nearest : (w : ℤ) → low ≤ℤ w → w ≤ℤ high → unsigned_abs z ≤ unsigned_abs w

-- the number nearest to 0 between the bounds that the facts force on the node
pub record IsSampled (facts : List Fact) (node : Node) (z : ℤ) : Type 0 where
  pub low : ℤ
  pub high : ℤ
  pub below : IsForcedBelow facts node low
  pub above : IsForcedAbove facts node high
  pub between : IsNearest low high z

-- the node is a number, or has a choice
abbrev pub HasChoice : List Choice → Node → Type 0
HasChoice choices (Number k) = Unit {0}
HasChoice choices node = Any (λ c. c.node ≡ node) choices
