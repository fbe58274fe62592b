-- What the words of a repair have to say.
use Rattle.std.specs.Prelude.{ℕ, ◌≡◌, List, ◌++◌, codes}
use Rattle.std.specs.Fmt.{decimal}
use Rattle.prog_tree.specs.Syntax.{DraftTree}
use Rattle.prog_check.specs.Limits.{most_tables, most_statements, most_accesses}
use Rattle.repair_laws.specs.declared.plan.Pair.{Pair}
use Rattle.text_places.specs.Listing.{TellsEach}
use Rattle.fault_words.specs.Naming.{program_name}
use Rattle.analysis_words.specs.SharedWords.{other_run}
use Rattle.si_repair.specs.declared.repairs.fault.RepairFault.{RepairFault}
use Rattle.si_repair.specs.declared.repairs.fault.RepairFault.TheVariants.{RangeRead, UnknownKey, BodyRead, TooMany, Memory}
use Rattle.si_repair.specs.declared.repairs.obstacles.Obstacle.{Obstacle}
use Rattle.si_repair.specs.declared.repairs.obstacles.Obstacle.TheVariants as obstacle

-- the name of a program between two backquotes
abbrev pub quoted_name : DraftTree → (program : ℕ) → List ℕ
quoted_name set program = codes "`" ++ (program_name set program ++ codes "`")

-- a line that begins with the first program of a pair, says something of the second, and goes on
abbrev pub pair_sentence : DraftTree → Pair → (verb rest : List ℕ) → List ℕ
pair_sentence set pair verb rest =
    quoted_name set pair.from ++ (codes " " ++ (verb ++ (codes " " ++ (other_run pair.from pair.to
    ++ (quoted_name set pair.to ++ (rest ++ codes "\n"))))))

-- the words begin with a line that says what the first program of a pair could miss
abbrev pub TellsPair : DraftTree → Pair → (words : List ℕ) → Type 0
TellsPair set pair words =
    (put looks : List ℕ) × (words ≡ pair_sentence set pair (codes "could miss a change of") put ++ looks)

abbrev pub heading : List ℕ
heading = codes "repaired: the two of each of these pairs clash now where both are under way at once\n"

-- the words of each pair of a plan behind a heading
abbrev pub TellsRepair : DraftTree → (plan : List Pair) → (words : List ℕ) → Type 0
TellsRepair set plan words = (parts : List ℕ) × TellsEach (TellsPair set) plan parts × (words ≡ heading ++ parts)

-- the limits that a set may pass with the statements for its pairs
abbrev pub limits_text : List ℕ
limits_text =
    decimal most_tables ++ (codes " tables, " ++ (decimal most_statements ++ (codes " statements of a program, "
    ++ (decimal most_accesses ++ codes " accesses on a way through it"))))

-- what the first program of a pair does that stops a repair, before the name of the second
abbrev pub obstacle_verb : Obstacle → List ℕ
obstacle_verb obstacle.RangeRead = codes "looks at a range that can be changed by"
obstacle_verb obstacle.UnknownKey = codes "looks at a row that can be changed by"
obstacle_verb obstacle.BodyRead = codes "looks at a row that can be changed by"

-- why no `keep` covers that look
abbrev pub obstacle_reason : Obstacle → List ℕ
obstacle_reason obstacle.RangeRead = codes "; no `keep` covers a range"
obstacle_reason obstacle.UnknownKey = codes ", and no parameters and numbers tell its key"
obstacle_reason obstacle.BodyRead =
    codes ", and one of the two stands in the body of an `each`, where a `keep` may run for many rows or for none and covers nothing"

-- the words begin with a line that says of a pair what can't be promoted, and what to do
abbrev pub SaysObstacle : DraftTree → Obstacle → Pair → (words : List ℕ) → Type 0
SaysObstacle set hindrance pair words =
    (look : List ℕ) × (words ≡ pair_sentence set pair (obstacle_verb hindrance)
    (obstacle_reason hindrance ++ codes ": repair without `--promote`") ++ look)

-- which limits a set is above with the statements for a pair, and what to do
abbrev pub limit_rest : List ℕ
limit_rest =
    codes ", and with the statements for that the set is above a limit: "
    ++ (limits_text ++ codes "; have fewer programs, or merge some")

-- the words say of the pair that stops a repair why it does; of want of memory there are none
abbrev pub SaysStop : DraftTree → RepairFault → (words : List ℕ) → Type 0
SaysStop set (RangeRead pair) words = SaysObstacle set obstacle.RangeRead pair words
SaysStop set (UnknownKey pair) words = SaysObstacle set obstacle.UnknownKey pair words
SaysStop set (BodyRead pair) words = SaysObstacle set obstacle.BodyRead pair words
SaysStop set (TooMany pair) words = words ≡ pair_sentence set pair (codes "has to be kept apart from") limit_rest
SaysStop set Memory words = ⊥
