-- What helps against an edge of a dangerous structure.
use Rattle.std.specs.Prelude.{ℕ, ◌≡◌, ◌⊎◌, ◌==◌, ◌||◌, Bool, true, false, if◌then◌else◌, List, [], ◌++◌, Some, codes}
use Rattle.std.specs.Fmt.{decimal}
use Rattle.text_places.specs.Places.{line_number}
use Rattle.prog_tree.specs.Tree.{draft_tree}
use Rattle.prog_check.specs.declared.path.Access.{Access}
use Rattle.prog_paths.specs.declared.accesses.questions.Question.{Question}
use Rattle.repair_laws.specs.Refusals.{HasUnknownKey, IsRangeAt}
use Rattle.analysis_words.specs.Nodes.{access_of, is_in_body, node_name, program_of, HasNoAccess, IsAccessPlace, Sight}
use Rattle.analysis_words.specs.Quoting.{quoted_cells}

-- the look of a question, or what changes what it looks at, stands in the body of an `each`
abbrev pub meets_body : Sight → Question → Bool
meets_body sight q = is_in_body sight q.x q.a || is_in_body sight q.y q.b

-- the key of its look is told by no parameters and numbers
abbrev pub IsUnderUnknownKey : Sight → Question → Type 0
IsUnderUnknownKey sight q = (look : Access) × (access_of sight q.x q.a ≡ Some look) × HasUnknownKey look

-- the statement of its look is a range
abbrev pub LooksAtRange : Sight → Question → Type 0
LooksAtRange sight q =
    (program : ℕ) × (program_of sight q.x ≡ Some program) × (look : Access) × (access_of sight q.x q.a ≡ Some look)
    × IsRangeAt (draft_tree sight.set) program look.place

-- no keep of its own covers what it looks at: the cells of a range, or where one of both stands in a body
abbrev pub TakesSharedCell : Sight → Question → Type 0
TakesSharedCell sight q = LooksAtRange sight q ⊎ (meets_body sight q ≡ true)

-- the two of a question, as those that keep one cell
abbrev pub keepers_text : Sight → Question → List ℕ
keepers_text sight q =
    if q.x == q.y then codes "each run of " ++ (node_name sight q.x ++ codes " has to `keep`")
    else codes "both " ++ (node_name sight q.x ++ (codes " and " ++ (node_name sight q.y ++ codes " `keep`")))

-- the same two, as those that clash
abbrev pub clashing_text : Sight → Question → List ℕ
clashing_text sight q =
    if q.x == q.y then codes "two runs of " ++ (node_name sight q.x ++ codes " clash")
    else node_name sight q.x ++ (codes " clashes with " ++ node_name sight q.y)

abbrev pub outside_text : (in_body : Bool) → List ℕ
outside_text true = codes " outside of any `each`"
outside_text false = []

-- a cell in place of these, which both keep, and surely: so in no body of an `each`, which may have no turn
abbrev pub shared_text : Sight → Question → (cells : List ℕ) → List ℕ
shared_text sight q cells =
    codes "one cell that stands for `" ++ (cells ++ (codes "`, which "
    ++ (keepers_text sight q ++ outside_text (meets_body sight q))))

-- the cell itself, which the first keeps behind its look
abbrev pub keep_text : Sight → Question → (cells : List ℕ) → (line : ℕ) → List ℕ
keep_text sight q cells line =
    codes "`keep " ++ (cells ++ (codes ";` behind line " ++ (decimal line
    ++ (codes ", so that " ++ clashing_text sight q))))

-- the same where its key has to be told by a parameter first
abbrev pub parameter_text : Sight → Question → (cells : List ℕ) → (line : ℕ) → List ℕ
parameter_text sight q cells line =
    codes "the key of `" ++ (cells ++ (codes "` made a parameter, and a `keep` of that cell behind line " ++ (decimal line
    ++ (codes ", so that " ++ clashing_text sight q))))

-- what makes the two of a question clash: the first keeps what it looks at, or both keep one cell
pub data IsHelp (sight : Sight) (q : Question) (help : List ℕ) : Type 0 where
  OfNoLook : HasNoAccess sight q.x q.a → help ≡ codes "a cell that " ++ keepers_text sight q → IsHelp sight q help
  KeptByBoth : (at : ℕ) → IsAccessPlace sight q.x q.a at → TakesSharedCell sight q
      → help ≡ shared_text sight q (quoted_cells sight.text at) → IsHelp sight q help
  KeptByFirst : (at : ℕ) → IsAccessPlace sight q.x q.a at → ¬ TakesSharedCell sight q → ¬ IsUnderUnknownKey sight q
      → help ≡ keep_text sight q (quoted_cells sight.text at) (line_number sight.text at) → IsHelp sight q help
  KeptByParameter : (at : ℕ) → IsAccessPlace sight q.x q.a at → ¬ TakesSharedCell sight q → IsUnderUnknownKey sight q
      → help ≡ parameter_text sight q (quoted_cells sight.text at) (line_number sight.text at) → IsHelp sight q help
