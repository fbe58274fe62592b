-- The accesses that a statement adds, from its kinds and its columns.
use Rattle.std.specs.Prelude.{ℕ, Bool, List, [], ◌∷◌, Option, Some, None}
use Rattle.prog_check.specs.declared.path.Kind.{Kind}
use Rattle.prog_check.specs.declared.path.Access.{Access}
use Rattle.prog_paths.specs.declared.path.columns.Columns.{Columns}

-- one, or none
abbrev pub option_items : {A : Type 0} → Option A → List A
option_items (Some x) = x ∷ []
option_items None = []

abbrev pub access_with : (table : ℕ) (columns : Columns) (sure : Bool) (place : ℕ) → Kind → Access
access_with table columns sure place kind =
    record { kind = kind; table = table; first = columns.first; second = columns.second; place = place; sure = sure }
