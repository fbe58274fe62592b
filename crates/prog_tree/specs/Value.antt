-- What expressions and tests are worth.
use Rattle.std.specs.Prelude.{ℤ, ◌+ℤ◌, ◌-ℤ◌, ◌*ℤ◌, bytes_eq, int_lt, int_le, Bool, true, false, not, ◌&&◌, ◌||◌, List, [], ◌∷◌, Option, Some, None, if◌then◌else◌}
use Rattle.std.specs.Ordering.{int_eq}
use Rattle.std.specs.Option.{option_or}
use Rattle.prog_tree.specs.Number.{is_i64}
use Rattle.prog_tree.specs.Syntax.{Name, ExprTree, Literal, Named, Plus, Minus, Times, RelationSign, Less, LessEqual, Greater, GreaterEqual, Equal, NotEqual, ComparisonTree, TestTree}

-- names with their values, the newest last
abbrev pub Bindings : Type 0
Bindings = List (Name × ℤ)

abbrev pub same_name : Name → Name → Bool
same_name = bytes_eq

-- the last value of a name
abbrev pub value_in : Bindings → Name → Option ℤ
value_in [] name = None
value_in (binding ∷ bindings) name =
    option_or (value_in bindings name) (if same_name binding.0 name then Some binding.1 else None)

-- a result, or none outside i64
abbrev pub exact : ℤ → Option ℤ
exact z = if is_i64 z then Some z else None

-- what is made of both values, or none; the left one is evaluated first
abbrev pub pair_of : {A B C : Type 0} → (A → B → C) → Option A → Option B → Option C
pair_of f (Some a) (Some b) = Some (f a b)
pair_of f (Some a) None = None
pair_of f None o = None

-- the exact result of both values, or none where one of them or the result is none
abbrev pub both : (ℤ → ℤ → ℤ) → Option ℤ → Option ℤ → Option ℤ
both f (Some x) (Some y) = exact (f x y)
both f (Some x) None = None
both f None o = None

-- the value of an expression, or none where a result lies outside i64
abbrev pub value_of : ExprTree → Bindings → Option ℤ
value_of (Literal n) env = Some n
value_of (Named name) env = value_in env name
value_of (Plus a b) env = both ◌+ℤ◌ (value_of a env) (value_of b env)
value_of (Minus a b) env = both ◌-ℤ◌ (value_of a env) (value_of b env)
value_of (Times a b) env = both ◌*ℤ◌ (value_of a env) (value_of b env)

abbrev pub relates : RelationSign → ℤ → ℤ → Bool
relates Less x y = int_lt x y
relates LessEqual x y = int_le x y
relates Greater x y = int_lt y x
relates GreaterEqual x y = int_le y x
relates Equal x y = int_eq x y
relates NotEqual x y = not (int_eq x y)

-- the other truth value where a comparison is negated
abbrev pub turned : Bool → Bool → Bool
turned true b = not b
turned false b = b

abbrev pub comparison_holds : ComparisonTree → Bindings → Option Bool
comparison_holds c env =
    pair_of (λ x y. turned c.negated (relates c.relation x y)) (value_of c.left env) (value_of c.right env)

-- all comparisons are made, from left to right, also where one of them has settled the answer
abbrev pub all_hold : List ComparisonTree → Bindings → Option Bool
all_hold [] env = Some true
all_hold (c ∷ cs) env = pair_of ◌&&◌ (comparison_holds c env) (all_hold cs env)

abbrev pub holds_of : TestTree → Bindings → Option Bool
holds_of [] env = Some false
holds_of (cs ∷ rest) env = pair_of ◌||◌ (all_hold cs env) (holds_of rest env)
