-- What the words of a refusal have to show.
use Rattle.std.specs.Prelude.{ℕ, ◌≡◌, ◌⊎◌, List, [], ◌∷◌, ◌++◌, codes}
use Rattle.text_places.specs.Quotes.{pointed_out}
use Rattle.prog_tree.specs.Tree.{draft_tree}
use Rattle.prog_paths.specs.declared.accesses.questions.Question.{Question}
use Rattle.dep_graph.specs.declared.danger.Danger.{Danger}
use Rattle.dep_graph.specs.declared.danger.Exposure.{Exposure}
use Rattle.repair_laws.specs.declared.plan.Pair.{Pair}
use Rattle.analysis_words.specs.Edges.{change_text, look_text, twin_change_text, twin_look_text, IsRepeated}
use Rattle.analysis_words.specs.Helping.{IsHelp}
use Rattle.analysis_words.specs.Left.{left_text}
use Rattle.analysis_words.specs.Nodes.{node_name, HasNoAccess, IsAccessPlace, Sight}
use Rattle.analysis_words.specs.SharedWords.{other_run}
use Rattle.analysis_words.specs.Ways.{IsWaysText}

-- the words say this sentence of the statement of this access of a node
pub record PointsAtAccess (sight : Sight) (node access : ℕ) (sentence words : List ℕ) : Type 0 where
  pub at : ℕ
  pub stands : IsAccessPlace sight node access at
  pub points : words ≡ pointed_out sight.text at sentence

-- the words say a sentence of each access of a question
abbrev pub ShowsQuestion : Sight → Question → (look change words : List ℕ) → Type 0
ShowsQuestion sight q look change words =
    (mine theirs : List ℕ) × PointsAtAccess sight q.x q.a look mine × PointsAtAccess sight q.y q.b change theirs
    × (words ≡ mine ++ theirs)

-- the words show both accesses of an edge, with an instance for each
abbrev pub ShowsEdge : Sight → Exposure → (words : List ℕ) → Type 0
ShowsEdge sight edge words =
    ShowsQuestion sight edge.question (look_text sight edge) (change_text sight edge) words

-- the words show both accesses of an edge of a node to itself, with two instances of it
abbrev pub ShowsTwins : Sight → Exposure → (words : List ℕ) → Type 0
ShowsTwins sight edge words =
    ShowsQuestion sight edge.question (twin_look_text sight edge) (twin_change_text sight edge) words

-- what is said first of a set that is refused
abbrev pub no_order : List ℕ
no_order = codes "a run of this set may have no serial order, since two changes in a row can be missed\n"

-- the next node of a way from a node
abbrev pub step_text : Sight → (last next : ℕ) → List ℕ
step_text sight last next = codes ", that before " ++ (other_run last next ++ node_name sight next)

-- a way from a node along these
abbrev pub way_text : Sight → (last : ℕ) → (nodes : List ℕ) → List ℕ
way_text sight last [] = []
way_text sight last (node ∷ nodes) = step_text sight last node ++ way_text sight node nodes

-- the circle of a dangerous structure: from its first node to the middle one, and then along the way back
abbrev pub circle_text : Sight → Danger → List ℕ
circle_text sight danger =
    node_name sight danger.x ++ (codes " would have to stand before " ++ (other_run danger.x danger.y
    ++ (node_name sight danger.y ++ way_text sight danger.y danger.back)))

-- that neither edge is hindered, which circle closes, and what helps against either edge
abbrev pub advice_text : (circle first second : List ℕ) → List ℕ
advice_text circle first second =
    codes "the two of each pair can be under way at once: no cell is sure to be changed or kept by both, so neither has to clash\nin a serial order "
    ++ (circle ++ (codes "\nwhat helps: " ++ (first ++ (codes "; or " ++ (second ++ codes "\n")))))

-- the words say so of the circle of a dangerous structure, and of each edge what helps against it
abbrev pub IsAdvice : Sight → Danger → (words : List ℕ) → Type 0
IsAdvice sight danger words =
    (first second : List ℕ) × IsHelp sight danger.first.question first
    × IsHelp sight danger.second.question second
    × (words ≡ advice_text (circle_text sight danger) first second)

-- the same where both edges are one
abbrev pub twin_advice_text : (help : List ℕ) → List ℕ
twin_advice_text help =
    codes "each can miss the other's change so, and both can be under way at once: no cell is sure to be changed or kept by both, so neither has to clash\nin a serial order each would have to stand before the other\nwhat helps: "
    ++ (help ++ codes "\n")

abbrev pub IsTwinAdvice : Sight → Danger → (words : List ℕ) → Type 0
IsTwinAdvice sight danger words =
    (help : List ℕ) × IsHelp sight danger.first.question help × (words ≡ twin_advice_text help)

-- the words show both edges of a dangerous structure, the first before the second, and then what follows
abbrev pub ShowsBoth : Sight → Danger → (words : List ℕ) → Type 0
ShowsBoth sight danger words =
    (first second advice : List ℕ) × ShowsEdge sight danger.first first
    × ShowsEdge sight danger.second second × IsAdvice sight danger advice
    × (words ≡ no_order ++ (first ++ (codes "and\n" ++ (second ++ advice))))

-- the words show the one edge that is both, and then what follows
abbrev pub ShowsOne : Sight → Danger → (words : List ℕ) → Type 0
ShowsOne sight danger words =
    (edge advice : List ℕ) × ShowsTwins sight danger.first edge × IsTwinAdvice sight danger advice
    × (words ≡ no_order ++ (edge ++ advice))

-- the words show a dangerous structure: once what is there twice
abbrev pub ShowsDanger : Sight → Danger → (words : List ℕ) → Type 0
ShowsDanger sight danger words =
    (IsRepeated sight danger × ShowsOne sight danger words)
    ⊎ ((¬ IsRepeated sight danger) × ShowsBoth sight danger words)

-- the words show a dangerous structure, then which pairs a repair by the plan keeps apart, and then which repairs go
-- through
abbrev pub ShowsRefusal : Sight → Danger → (plan : List Pair) → (words : List ℕ) → Type 0
ShowsRefusal sight danger plan words =
    (shown ways : List ℕ) × ShowsDanger sight danger shown × IsWaysText (draft_tree sight.set) plan ways
    × (words ≡ shown ++ (left_text (draft_tree sight.set) plan ++ ways))

-- one of the two accesses of a question can't be pointed at
abbrev pub LacksQuestion : Sight → Question → Type 0
LacksQuestion sight q = HasNoAccess sight q.x q.a ⊎ HasNoAccess sight q.y q.b

-- one of the four accesses of a dangerous structure can't be
abbrev pub LacksDanger : Sight → Danger → Type 0
LacksDanger sight danger =
    LacksQuestion sight danger.first.question ⊎ LacksQuestion sight danger.second.question
