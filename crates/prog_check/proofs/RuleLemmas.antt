-- Laws of rules and first faults.
use Rattle.std.proofs.Common.{◌≡◌, List, [], ◌∷◌, ◌++◌, refl, ap, sym, ◌∙◌, subst, true, false}
use Rattle.std.specs.Prelude.{Option, Some, None, if◌then◌else◌}
use Rattle.prog_check.specs.declared.fault.CheckFault.{CheckFault}
use Rattle.prog_check.specs.declared.fault.CheckFault.TheVariants.{Memory}
use Rattle.prog_check.specs.Faults.{Rule, first_broken, ◌or_else◌}
use Rattle.prog_check.specs.Sets.{IsFirst}

pub first_broken-append : (rules later : List Rule) → first_broken (rules ++ later) ≡ first_broken rules or_else first_broken later
first_broken-append [] later = refl
first_broken-append (rule ∷ rules) later =
    elim rule.0 as (λ b. (if b then Some rule.1 else first_broken (rules ++ later)) ≡ (if b then Some rule.1 else first_broken rules) or_else first_broken later)
    [ true ↦ refl | false ↦ first_broken-append rules later ]

-- a fault of the first part is the first of both
pub IsFirst-or_else : (found : CheckFault) (fault later : Option CheckFault) → IsFirst found fault → IsFirst found (fault or_else later)
IsFirst-or_else Memory fault later h = tt
IsFirst-or_else found fault later h = ap (λ o. o or_else later) h

-- behind rules that hold, the first fault is that of the others
pub first_broken-behind : (rules later : List Rule) → first_broken rules ≡ None → first_broken (rules ++ later) ≡ first_broken later
first_broken-behind rules later none = first_broken-append rules later ∙ ap (λ o. o or_else first_broken later) none

-- a fault among the first rules is the first of all
pub IsFirst-append : (found : CheckFault) (rules later : List Rule) → IsFirst found (first_broken rules) → IsFirst found (first_broken (rules ++ later))
IsFirst-append found rules later h = subst (IsFirst found) (sym (first_broken-append rules later)) (IsFirst-or_else found (first_broken rules) (first_broken later) h)

-- and a fault of the later ones, where the first hold
pub IsFirst-behind : (found : CheckFault) (rules later : List Rule) → first_broken rules ≡ None → IsFirst found (first_broken later) → IsFirst found (first_broken (rules ++ later))
IsFirst-behind found rules later none h = subst (IsFirst found) (sym (first_broken-behind rules later none)) h
