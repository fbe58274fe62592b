-- Laws of bindings.
use Rattle.std.proofs.Common.{◌≡◌, [], ◌∷◌, ◌++◌, refl, ap, ◌∙◌}
use Rattle.std.specs.Prelude.{ℤ, Option, Some, None, if◌then◌else◌}
use Rattle.std.specs.Option.{option_or}
use Rattle.prog_tree.specs.Syntax.{Name}
use Rattle.prog_tree.specs.Value.{Bindings, same_name, value_in}

option_or-assoc : {A : Type 0} (a b c : Option A) → option_or (option_or a b) c ≡ option_or a (option_or b c)
option_or-assoc (Some x) b c = refl
option_or-assoc None b c = refl

option_or-none : {A : Type 0} (o : Option A) → o ≡ option_or o None
option_or-none (Some x) = refl
option_or-none None = refl

-- the value of one binding for a name
abbrev value_by : Name × ℤ → Name → Option ℤ
value_by binding x = if same_name binding.0 x then Some binding.1 else None

-- the newest binding counts before the others
pub value_in_push : (bindings : Bindings) (b : Name × ℤ) (x : Name) → value_in (bindings ++ b ∷ []) x ≡ option_or (if same_name b.0 x then Some b.1 else None) (value_in bindings x)
value_in_push [] b x = option_or-none (value_by b x)
value_in_push (c ∷ bindings) b x =
    ap (λ o. option_or o (value_by c x)) (value_in_push bindings b x) ∙ option_or-assoc (value_by b x) (value_in bindings x) (value_by c x)
