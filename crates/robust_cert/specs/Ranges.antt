-- The ranges that the numbers of a certificate's text have.
use Rattle.std.specs.Prelude.{ℕ, ◌<◌, ◌^◌, List, All, FitsSigned}
use Rattle.std.specs.Int.{w64}
use Rattle.order_facts.specs.declared.steps.Node.{Node}
use Rattle.order_facts.specs.declared.steps.Node.TheVariants.{Mine, MineUnknown, Theirs, TheirsUnknown, Number}

-- a number that a u32 can be
abbrev pub IsSmall : ℕ → Type 0
IsSmall n = n < 2 ^ 32

-- a parameter or an unknown has a small number
abbrev pub IsOfSmall : Node → Type 0
IsOfSmall (Mine i) = IsSmall i
IsOfSmall (MineUnknown i) = IsSmall i
IsOfSmall (Theirs i) = IsSmall i
IsOfSmall (TheirsUnknown i) = IsSmall i
IsOfSmall (Number k) = Unit {0}

-- and a number is of i64
abbrev pub NodeFits : Node → Type 0
NodeFits (Mine i) = IsSmall i
NodeFits (MineUnknown i) = IsSmall i
NodeFits (Theirs i) = IsSmall i
NodeFits (TheirsUnknown i) = IsSmall i
NodeFits (Number k) = FitsSigned w64 k

abbrev pub ChainFits : List Node → Type 0
ChainFits = All NodeFits
