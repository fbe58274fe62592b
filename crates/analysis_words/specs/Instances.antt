-- Instances of programs with the numbers that samples give their parameters.
use Rattle.std.specs.Prelude.{ℕ, Bool, true, false, ◌+◌, ◌==◌, if◌then◌else◌, List, [], ◌∷◌, ◌++◌, codes, slice_get}
use Rattle.std.specs.Fmt.{signed_decimal}
use Rattle.std.specs.Option.{option_map_or}
use Rattle.order_facts.specs.Sample.{sample_number}
use Rattle.order_facts.specs.declared.sample.Choice.{Choice}
use Rattle.order_facts.specs.declared.steps.Node.{Node}
use Rattle.order_facts.specs.declared.steps.Node.TheVariants.{Mine, Theirs}
use Rattle.prog_tree.specs.Syntax.{Name}
use Rattle.prog_tree.specs.Tree.{draft_tree}
use Rattle.prog_check.specs.declared.path.Path.{Path}
use Rattle.fault_words.specs.Naming.{program_params}
use Rattle.analysis_words.specs.Nodes.{node_name, Sight}

-- a parameter of the first or of the second instance
abbrev pub node_of : (is_first : Bool) → (number : ℕ) → Node
node_of true number = Mine number
node_of false number = Theirs number

-- what stands before the parameter of a number
abbrev pub opening : (number : ℕ) → List ℕ
opening number = if number == 0 then codes " with (" else codes ", "

-- a parameter with the number that a sample gives it
abbrev pub given_text : List Choice → (is_first : Bool) → (number : ℕ) → Name → List ℕ
given_text sample is_first number name =
    opening number ++ (name ++ (codes " = " ++ signed_decimal (sample_number sample (node_of is_first number))))

-- parameters that are counted from this number on
abbrev pub given_from : List Choice → (is_first : Bool) → (number : ℕ) → List Name → List ℕ
given_from sample is_first number [] = []
given_from sample is_first number (name ∷ names) =
    given_text sample is_first number name ++ given_from sample is_first (number + 1) names

-- each parameter with its number, as ` with (from = 0, to = 7)`; nothing where there is none
abbrev pub numbers_text : List Choice → (is_first : Bool) → List Name → List ℕ
numbers_text sample is_first [] = []
numbers_text sample is_first (name ∷ names) = given_from sample is_first 0 (name ∷ names) ++ codes ")"

-- the parameters of a node's program
abbrev pub params_along : Sight → (node : ℕ) → List Name
params_along sight node =
    option_map_or (λ (path : Path). program_params (draft_tree sight.set) path.program) (slice_get sight.paths node) []

-- the numbers of an instance of a node, the first or the second of a sample
abbrev pub numbers_along : Sight → List Choice → (is_first : Bool) → (node : ℕ) → List ℕ
numbers_along sight sample is_first node = numbers_text sample is_first (params_along sight node)

-- the instance with its name, as `` `Move` with (from = 0, to = 7)``
abbrev pub instance_text : Sight → List Choice → (is_first : Bool) → (node : ℕ) → List ℕ
instance_text sight sample is_first node =
    node_name sight node ++ numbers_along sight sample is_first node
