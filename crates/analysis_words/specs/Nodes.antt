-- What the nodes of a set and their accesses are called in words.
use Rattle.std.specs.Prelude.{ℕ, ◌≡◌, ◌⊎◌, Bool, true, false, not, List, [], ◌∷◌, ◌++◌, Option, Some, None, codes, slice_get, option_and_then, option_map}
use Rattle.std.specs.Fmt.{decimal}
use Rattle.std.specs.List.{flat_map}
use Rattle.std.specs.Option.{option_map_or}
use Rattle.text_places.specs.Landmarks.{HasNoStatement, IsStatementPlace}
use Rattle.text_places.specs.Places.{line_number}
use Rattle.prog_tree.specs.Syntax.{DraftTree}
use Rattle.prog_tree.specs.Tree.{draft_tree}
use Rattle.prog_tree.specs.declared.program.Draft.{Draft}
use Rattle.prog_check.specs.declared.path.Access.{Access}
use Rattle.prog_check.specs.declared.path.Path.{Path}
use Rattle.prog_check.specs.Paths.{paths_of}
use Rattle.fault_words.specs.Naming.{program_name}
use Rattle.analysis_words.specs.Quoting.{quoted_statement}
use Rattle.analysis_words.specs.declared.shown.Shown.{Shown}

-- a set with its text and its paths, which are the nodes
pub record Sight : Type 0 where
  pub text : List ℕ
  pub set : Draft
  pub paths : List Path

abbrev pub seen : Shown → Sight
seen shown = record { text = shown.text.now; set = shown.set.now; paths = shown.paths.now }

abbrev pub sight_of : (text : List ℕ) → Draft → Sight
sight_of text set = record { text = text; set = set; paths = paths_of (draft_tree set) }

-- where a path takes a branch's first block, and where its second
abbrev pub letter_of : (takes_first : Bool) → List ℕ
letter_of true = codes "t"
letter_of false = codes "e"

-- `:` and a letter for each branch, and nothing where there is none
abbrev pub branches_text : List Bool → List ℕ
branches_text [] = []
branches_text (first ∷ others) = codes ":" ++ (letter_of first ++ flat_map letter_of others)

-- the program's name with a letter for each branch; a number that is no node stands for itself
abbrev pub name_along : DraftTree → (node : ℕ) → Option Path → List ℕ
name_along set node None = codes "node " ++ decimal node
name_along set node (Some path) =
    codes "`" ++ (program_name set path.program ++ (branches_text path.choices ++ codes "`"))

abbrev pub node_name : Sight → (node : ℕ) → List ℕ
node_name sight node = name_along (draft_tree sight.set) node (slice_get sight.paths node)

-- the program of a node
abbrev pub program_of : Sight → (node : ℕ) → Option ℕ
program_of sight node = option_map (λ (path : Path). path.program) (slice_get sight.paths node)

-- the access of a number of a node
abbrev pub access_at : List Path → (node access : ℕ) → Option Access
access_at paths node access =
    option_and_then (λ (path : Path). slice_get path.accesses access) (slice_get paths node)

abbrev pub access_of : Sight → (node access : ℕ) → Option Access
access_of sight = access_at sight.paths

-- what is said of an access that is sure or not: one that is not may be made in many turns, or in none
abbrev pub turns_by : (sure : Bool) → List ℕ
turns_by true = []
turns_by false = codes " in each turn of its `each`"

abbrev pub turns_text : Sight → (node access : ℕ) → List ℕ
turns_text sight node access = option_map_or (λ (a : Access). turns_by a.sure) (access_of sight node access) []

-- an access that is there stands in the body of an `each`
abbrev pub is_in_body : Sight → (node access : ℕ) → Bool
is_in_body sight node access = option_map_or (λ (a : Access). not a.sure) (access_of sight node access) false

-- the statement of this access of a node stands here
pub record IsAccessPlace (sight : Sight) (node access at : ℕ) : Type 0 where
  pub path : Path
  pub of_node : slice_get sight.paths node ≡ Some path
  pub accessed : Access
  pub of_path : slice_get path.accesses access ≡ Some accessed
  pub stands : IsStatementPlace sight.text path.program accessed.place at

-- there is no such node, no such access of it, or no statement of its number in the text
pub data HasNoAccess (sight : Sight) (node access : ℕ) : Type 0 where
  NoNode : slice_get sight.paths node ≡ None → HasNoAccess sight node access
  NoneOfNode : (path : Path) → slice_get sight.paths node ≡ Some path → slice_get path.accesses access ≡ None
      → HasNoAccess sight node access
  NoStatement : (path : Path) → slice_get sight.paths node ≡ Some path
      → (accessed : Access) → slice_get path.accesses access ≡ Some accessed
      → HasNoStatement sight.text path.program accessed.place → HasNoAccess sight node access

-- the words name an access of a node by its node and by the line of its statement, which they show, as
-- `` `price[item] = 7` of `Set` in line 4``
abbrev pub IsAccessText : Sight → (node access : ℕ) → (words : List ℕ) → Type 0
IsAccessText sight node access words =
    ((at : ℕ) × IsAccessPlace sight node access at
    × (words ≡ codes "`" ++ (quoted_statement sight.text at ++ (codes "` of " ++ (node_name sight node
    ++ (codes " in line " ++ decimal (line_number sight.text at)))))))
    ⊎ (HasNoAccess sight node access
    × (words ≡ codes "access " ++ (decimal access ++ (codes " of " ++ (node_name sight node
    ++ codes ", which it has not")))))
