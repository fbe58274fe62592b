-- What is said of the edges of a dangerous structure.
use Rattle.std.specs.Prelude.{ℕ, ◌≡◌, true, false, List, ◌++◌, codes}
use Rattle.prog_paths.specs.Questions.{numbers_of}
use Rattle.prog_paths.specs.declared.accesses.questions.Question.{Question}
use Rattle.dep_graph.specs.declared.danger.Danger.{Danger}
use Rattle.dep_graph.specs.declared.danger.Exposure.{Exposure}
use Rattle.analysis_words.specs.Instances.{instance_text, numbers_along}
use Rattle.analysis_words.specs.Nodes.{node_name, turns_text, Sight}
use Rattle.analysis_words.specs.SharedWords.{other_run}

-- where the first instance looks, as `` `Move` with (from = 0, to = 7) looks here``, and whether in each turn
abbrev pub look_text : Sight → Exposure → List ℕ
look_text sight edge =
    instance_text sight edge.sample true edge.question.x
    ++ (codes " looks here" ++ turns_text sight edge.question.x edge.question.a)

-- what is said behind the instance that changes what another looked at
abbrev pub unseen_text : Sight → (node access : ℕ) → List ℕ
unseen_text sight node access =
    codes " changes here" ++ (turns_text sight node access ++ codes " what that looked at, unseen by it")

-- where the second one changes that
abbrev pub change_text : Sight → Exposure → List ℕ
change_text sight edge =
    other_run edge.question.x edge.question.y
    ++ (instance_text sight edge.sample false edge.question.y ++ unseen_text sight edge.question.y edge.question.b)

-- the same of two instances of one node
abbrev pub twin_look_text : Sight → Exposure → List ℕ
twin_look_text sight edge =
    codes "two runs of " ++ (node_name sight edge.question.x
    ++ (codes ": one" ++ (numbers_along sight edge.sample true edge.question.x
    ++ (codes " looks here" ++ turns_text sight edge.question.x edge.question.a))))

abbrev pub twin_change_text : Sight → Exposure → List ℕ
twin_change_text sight edge =
    codes "the other"
    ++ (numbers_along sight edge.sample false edge.question.y ++ unseen_text sight edge.question.y edge.question.b)

-- all that is said of an edge
abbrev pub told_text : Sight → Exposure → List ℕ
told_text sight edge = look_text sight edge ++ (codes "; " ++ change_text sight edge)

-- two questions are of the same accesses of the same nodes
abbrev pub IsSameQuestion : Question → Question → Type 0
IsSameQuestion question other = numbers_of question ≡ numbers_of other

-- both edges are of the same accesses, and told alike: in the same sample
abbrev pub IsRepeated : Sight → Danger → Type 0
IsRepeated sight danger =
    IsSameQuestion danger.first.question danger.second.question
    × (told_text sight danger.first ≡ told_text sight danger.second)
