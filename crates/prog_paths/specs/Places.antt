-- Where an access stands, all accesses at their places, and which are alike but for that.
use Rattle.std.specs.Prelude.{◌≡◌, ℕ, ◌+◌, ◌==◌, List, [], ◌∷◌, ◌++◌, if◌then◌else◌}
use Rattle.prog_check.specs.declared.path.Access.{Access}
use Rattle.prog_check.specs.declared.path.Path.{Path}
use Rattle.prog_paths.specs.StaticGraph.{IsAccessOf}
use Rattle.prog_paths.specs.declared.accesses.places.Placed.{Placed}

-- the access stands at its place in a list of paths
abbrev pub IsAt : List Path → Placed → Type 0
IsAt paths p = IsAccessOf paths p.node p.number p.access

-- the accesses of a node, numbered from here on
abbrev pub placed_from : ℕ → ℕ → List Access → List Placed
placed_from node number [] = []
placed_from node number (access ∷ rest) =
    record { node = node; number = number; access = access } ∷ placed_from node (number + 1) rest

-- the accesses of all nodes, numbered from here on
abbrev pub all_from : ℕ → List Path → List Placed
all_from node [] = []
all_from node (path ∷ rest) = placed_from node 0 path.accesses ++ all_from (node + 1) rest

-- the accesses of a path, where it is one of a program
abbrev pub accesses_by : ℕ → Path → List Access
accesses_by program path = if path.program == program then path.accesses else []

-- the accesses of the nodes that are paths of a program, numbered from here on
abbrev pub program_from : (program node : ℕ) → List Path → List Placed
program_from program node [] = []
program_from program node (path ∷ rest) =
    placed_from node 0 (accesses_by program path) ++ program_from program (node + 1) rest

-- two accesses are equal but for their places
pub record AreAlike (a b : Access) : Type 0 where
  pub kind : a.kind ≡ b.kind
  pub table : a.table ≡ b.table
  pub first : a.first ≡ b.first
  pub second : a.second ≡ b.second
  pub sure : a.sure ≡ b.sure
