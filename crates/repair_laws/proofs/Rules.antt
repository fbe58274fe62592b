-- Rules of a check that are kept, or whose faults are of one sort.
use Rattle.std.proofs.Common.{◌≡◌, Bool, true, false, ◌⊎◌, inl, inr, List, [], ◌∷◌, ◌++◌}
use Rattle.std.specs.Prelude.{IfSome, Option, Some, None, if◌then◌else◌}
use Rattle.prog_check.specs.declared.fault.CheckFault.{CheckFault}
use Rattle.prog_check.specs.Faults.{Rule, first_broken, ◌or_else◌}

-- each rule is kept, or its fault is of the sort
abbrev pub AreKept : (P : CheckFault → Type 0) → List Rule → Type 0
AreKept P [] = Unit {0}
AreKept P (rule ∷ rules) = ((rule.0 ≡ false) ⊎ P rule.1) × AreKept P rules

pub kept_append : (P : CheckFault → Type 0) (xs ys : List Rule) → AreKept P xs → AreKept P ys → AreKept P (xs ++ ys)
kept_append P [] ys h k = k
kept_append P (x ∷ xs) ys h k = (h.0, kept_append P xs ys h.1 k)

pub first_kept : (P : CheckFault → Type 0) (rules : List Rule) → AreKept P rules → IfSome (first_broken rules) P
first_kept P [] h = tt
first_kept P (rule ∷ rules) h = go rule.0 h.0 (first_kept P rules h.1)
  where
    go : (b : Bool) → (b ≡ false) ⊎ P rule.1 → IfSome (first_broken rules) P → IfSome (if b then Some rule.1 else first_broken rules) P
    go true (inl e) rest = absurd (cc)
    go true (inr own) rest = own
    go false h rest = rest

pub else_kept : (P : CheckFault → Type 0) (a b : Option CheckFault) → IfSome a P → IfSome b P → IfSome (a or_else b) P
else_kept P None b h k = k
else_kept P (Some fault) b h k = h
