-- Classes of accesses: those that are alike, at nodes with the same covers, may have one number.
use Rattle.std.specs.Prelude.{◌≡◌, ℕ, ◌+◌, ◌<◌, ◌≤◌, ◌^◌, List, [], ◌∷◌, length, Contains, Option, Some, None, slice_get, slice_index_or}
use Rattle.std.specs.declared.alloc.Global.{Global}
use Rattle.std.specs.declared.vec.Vec.{Vec}
use Rattle.prog_check.specs.declared.path.Path.{Path}
use Rattle.prog_paths.specs.declared.accesses.places.Placed.{Placed}
use Rattle.prog_paths.specs.Places.{AreAlike, all_from}
use Rattle.conflict_pairs.specs.declared.classes.AccessClasses.{AccessClasses}
use Rattle.conflict_pairs.specs.Alike.{IsLikeAt}
use Rattle.conflict_pairs.specs.Pairing.{place_at}

-- ---- classes of accesses, made of those of nodes by their covers

-- the node of an access has a class of covers
abbrev pub HasCoverClass : List ℕ → Placed → Type 0
HasCoverClass classes p = p.node < length classes

-- two accesses are alike, at nodes of one class of covers
pub record AreOneClass (classes : List ℕ) (p q : Placed) : Type 0 where
  pub class : slice_index_or classes p.node 0 ≡ slice_index_or classes q.node 0
  pub alike : AreAlike p.access q.access

-- each access has a number, and those with one number are of one class
pub record AreNumbered (classes : List ℕ) (places : List Placed) (numbers : List ℕ) : Type 0 where
  pub one_each : length numbers ≡ length places
  pub same : (i j : ℕ) (p q : Placed) → slice_get places i ≡ Some p → slice_get places j ≡ Some q
      → slice_index_or numbers i 0 ≡ slice_index_or numbers j 0 → AreOneClass classes p q

-- ---- the numbers of accesses among all

-- for each node where its accesses begin among all, counted from here on
abbrev pub starts_from : ℕ → List Path → List ℕ
starts_from start [] = []
starts_from start (path ∷ rest) = start ∷ starts_from (start + length path.accesses) rest

-- the accesses of two numbers among all are alike, as the covers of their nodes
abbrev pub AreLikePlaces : List Path → ℕ → ℕ → Type 0
AreLikePlaces paths m n =
    IsLikeAt paths (place_at (all_from 0 paths) m).node (place_at (all_from 0 paths) m).number
    (place_at (all_from 0 paths) n).node (place_at (all_from 0 paths) n).number

-- each access of the paths has a number, and those with one number are alike, as the covers of their nodes
pub record AreAccessClasses (paths : List Path) (numbers : List ℕ) : Type 0 where
  pub one_each : length numbers ≡ length (all_from 0 paths)
  pub alike : (m n : ℕ) → m < length (all_from 0 paths) → n < length (all_from 0 paths)
      → slice_index_or numbers m 0 ≡ slice_index_or numbers n 0 → AreLikePlaces paths m n

-- ---- what is known of each class

-- under the number of an access's class stands an access of that class, which stands so to this one
pub record HasMark (Stands : ℕ → ℕ → Type 0) (numbers marks : List ℕ) (n : ℕ) : Type 0 where
  pub class_within : slice_index_or numbers n 0 < length marks
  pub within : slice_index_or marks (slice_index_or numbers n 0) 0 < length numbers
  pub stands : Stands n (slice_index_or marks (slice_index_or numbers n 0) 0)
  pub same : slice_index_or numbers (slice_index_or marks (slice_index_or numbers n 0) 0) 0 ≡ slice_index_or numbers n 0

-- each class has its first access
abbrev pub AreFirsts : List ℕ → List ℕ → Type 0
AreFirsts numbers firsts = (n : ℕ) → n < length numbers → HasMark (λ n first. first ≤ n) numbers firsts n

-- and its last
abbrev pub AreLasts : List ℕ → List ℕ → Type 0
AreLasts numbers lasts = (n : ℕ) → n < length numbers → HasMark (λ n last. n ≤ last) numbers lasts n

abbrev pub nodes_in : Option (Vec ℕ Global) → List ℕ
nodes_in None = []
nodes_in (Some nodes) = nodes.items

-- the nodes of a class
abbrev pub nodes_at : List (Vec ℕ Global) → ℕ → List ℕ
nodes_at nodes c = nodes_in (slice_get nodes c)

-- the node has an access of the class, whose number this is
pub record HasAccessOf (places : List Placed) (numbers : List ℕ) (c x : ℕ) : Type 0 where
  pub number : ℕ
  pub within : number < length places
  pub class : slice_index_or numbers number 0 ≡ c
  pub node : (place_at places number).node ≡ x

-- the nodes of each class are those that have an access of it
pub record AreNodes (places : List Placed) (numbers : List ℕ) (nodes : List (Vec ℕ Global)) : Type 0 where
  pub has : (n : ℕ) → n < length places → Contains (nodes_at nodes (slice_index_or numbers n 0)) (place_at places n).node
  pub only : (c x : ℕ) → Contains (nodes_at nodes c) x → HasAccessOf places numbers c x

-- the accesses of the paths and where those of each node begin, their classes, and what is known of each class
pub record AreClassesOf (paths : List Path) (k : AccessClasses) : Type 0 where
  pub places_are : k.places.items ≡ all_from 0 paths
  pub few : length k.places.items ≤ 2 ^ 32
  pub starts_are : k.starts.items ≡ starts_from 0 paths
  pub classed : AreAccessClasses paths k.numbers.items
  pub firsts : AreFirsts k.numbers.items k.firsts.items
  pub lasts : AreLasts k.numbers.items k.lasts.items
  pub nodes : AreNodes k.places.items k.numbers.items k.nodes.items

-- the number of an access's class
abbrev pub class_at : AccessClasses → ℕ → ℕ
class_at k n = slice_index_or k.numbers.items n 0
