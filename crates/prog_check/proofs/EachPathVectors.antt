-- Worked examples of committing paths with an `each`, computed from the definition.
use Rattle.std.proofs.Common.{◌≡◌, ℕ, List, [], ◌∷◌, refl, true, false}
use Rattle.std.specs.Prelude.{ℤ, Bool, pos, codes, None}
use Rattle.prog_tree.specs.Syntax.{Name, ExprTree, Named, Plus, One, RangeTree, OneRange, ListingTree, BlockTree, BlockEnd, Then, Branch, Each}
use Rattle.prog_tree.specs.Syntax as s
use Rattle.prog_check.specs.declared.path.Kind.{Kind}
use Rattle.prog_check.specs.declared.path.Kind.TheVariants.{Reads, Writes}
use Rattle.prog_check.specs.declared.path.Term.{Term}
use Rattle.prog_check.specs.declared.path.Term.TheVariants.{Literal, Unknown}
use Rattle.prog_check.specs.declared.path.Access.{Access}
use Rattle.prog_check.specs.Paths.{paths_of}
use Rattle.prog_tree.specs.declared.table.Arity.TheVariants as arity
use Rattle.prog_check.proofs.PathVectors.{number, less, path}
use Rattle.prog_check.proofs.Vectors.{table_of, program_of}

abbrev named : List ℕ → ExprTree
named x = Named x

abbrev one_to_three : RangeTree
one_to_three = OneRange (number 1) (number 3)

abbrev rows : (value table : Name) → ListingTree
rows value table = record { key = codes "k"; value = value; table = table; range = one_to_three }

-- an access of a cell in a table of one column, and of the cells from 1 to 3
abbrev at_one : Bool → Kind → ℕ → Term → ℕ → Access
at_one sure kind table term place =
    record { kind = kind; table = table; first = record { low = term; high = term }; second = None; place = place; sure = sure }

abbrev listed : Bool → ℕ → ℕ → Access
listed sure table place =
    record { kind = Reads; table = table; first = record { low = Literal (pos 1); high = Literal (pos 3) }; second = None; place = place; sure = sure }

-- ---- the pay-each set: each k, x in t[1..3] { put t[k] = x + v; }

pub pays :
    paths_of (record {
      tables = table_of (codes "t") arity.One false ∷ [];
      programs = program_of (codes "Pay") (codes "v" ∷ [])
          (Each (rows (codes "x") (codes "t")) (Then (s.Put (codes "t") (One (named (codes "k"))) (Plus (named (codes "x")) (named (codes "v")))) BlockEnd) BlockEnd) ∷ [];
    })
    ≡ path 0 [] (listed true 0 0 ∷ at_one false Writes 0 (Unknown 0) 1 ∷ []) ∷ []
pays = refl

-- ---- a body with a branch, an `abort;` and an `each`, and an `each` in a branch
-- if a < 0 { each k, v in t[1..3] { if v < 0 { put t[k] = 1; abort; } each q, w in t[1..3] { put t[q] = 2; } } }
-- put t[a + a] = 3;

abbrev put_at : ExprTree → ℕ → BlockTree → BlockTree
put_at key value rest = Then (s.Put (codes "t") (One key) (number value)) rest

abbrev inner : BlockTree
inner =
    Branch (less (named (codes "v")) (number 0)) (put_at (named (codes "k")) 1 (Then s.Abort BlockEnd)) BlockEnd
    (Each (record { key = codes "q"; value = codes "w"; table = codes "t"; range = one_to_three }) (put_at (named (codes "q")) 2 BlockEnd) BlockEnd)

abbrev last : BlockTree
last = put_at (Plus (named (codes "a")) (named (codes "a"))) 3 BlockEnd

pub goes_round :
    paths_of (record {
      tables = table_of (codes "t") arity.One false ∷ [];
      programs = program_of (codes "P") (codes "a" ∷ [])
          (Branch (less (named (codes "a")) (number 0)) (Each (rows (codes "v") (codes "t")) inner BlockEnd) BlockEnd last) ∷ [];
    })
    ≡ path 0 (true ∷ []) (listed true 0 1 ∷ at_one false Writes 0 (Unknown 0) 3 ∷ listed false 0 5 ∷ at_one false Writes 0 (Unknown 1) 6 ∷ at_one true Writes 0 (Unknown 2) 7 ∷ [])
    ∷ path 0 (false ∷ []) (at_one true Writes 0 (Unknown 0) 7 ∷ []) ∷ []
goes_round = refl
