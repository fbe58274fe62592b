-- The text that refuses a set, by a dangerous structure of it.
use Rattle.std.specs.Prelude.{ℕ, ℤ, Bool, true, false, List, [], ◌++◌, length, map, Option, Some, None, codes, slice_get}
use Rattle.std.specs.Fmt.{decimal}
use Rattle.std.specs.List.{range_with_len}
use Rattle.order_facts.specs.Sample.{sample_number}
use Rattle.order_facts.specs.declared.sample.Choice.{Choice}
use Rattle.prog_tree.specs.Syntax.{Name, DraftTree}
use Rattle.prog_check.specs.declared.path.Path.{Path}
use Rattle.prog_check.specs.Paths.{paths_of}
use Rattle.fault_words.specs.Naming.{program_name, program_params}
use Rattle.analysis_words.specs.Nodes.{branches_text}
use Rattle.analysis_words.specs.Instances.{node_of}
use Rattle.text_places.specs.Listing.{bracketed}
use Rattle.dep_graph.specs.declared.danger.Danger.{Danger}
use Rattle.dep_graph.specs.declared.danger.Exposure.{Exposure}
use Rattle.si_engine.specs.LastLine.{spaced_numbers}

-- ---- nodes

-- the name of a path: its program's, with a letter for each branch
abbrev pub name_along : DraftTree → Option Path → Name
name_along set None = []
name_along set (Some path) = program_name set path.program ++ branches_text path.choices

-- how many parameters the program of a path has
abbrev pub params_along : DraftTree → Option Path → ℕ
params_along set None = 0
params_along set (Some path) = length (program_params set path.program)

-- the same of a node of some paths
abbrev pub path_name : DraftTree → List Path → (node : ℕ) → Name
path_name set paths node = name_along set (slice_get paths node)

abbrev pub path_params : DraftTree → List Path → (node : ℕ) → ℕ
path_params set paths node = params_along set (slice_get paths node)

-- ---- samples

-- the numbers that a sample gives so many parameters of the first or of the second of two nodes
abbrev pub sample_numbers : List Choice → (is_first : Bool) → ℕ → List ℤ
sample_numbers sample is_first count =
    map (λ i. sample_number sample (node_of is_first i)) (range_with_len 0 count)

-- the parameters of both nodes of a question, so many of each, as `(0) (0, 7)`
abbrev pub sample_text : List Choice → ℕ → ℕ → List ℕ
sample_text sample mine theirs =
    bracketed (sample_numbers sample true mine)
    ++ (codes " " ++ bracketed (sample_numbers sample false theirs))

-- ---- the whole

-- an access of a node of this name, as `4:WriteCheck:t 2`
abbrev pub access_text : (node : ℕ) → Name → (access : ℕ) → List ℕ
access_text node name access = decimal node ++ (codes ":" ++ (name ++ (codes " " ++ decimal access)))

-- an exposed question with its sample, as `0:Balance 1, 4:WriteCheck:t 2, (0) (0, 0)`
abbrev pub exposure_text : DraftTree → List Path → Exposure → List ℕ
exposure_text set paths e =
    let q = e.question in
    access_text q.x (path_name set paths q.x) q.a
    ++ (codes ", " ++ (access_text q.y (path_name set paths q.y) q.b
    ++ (codes ", " ++ sample_text e.sample (path_params set paths q.x) (path_params set paths q.y))))

-- the refusal of a set: the two vulnerable edges, each by a question, and the way back
abbrev pub refusal_text : DraftTree → Danger → List ℕ
refusal_text set d =
    let edge = exposure_text set (paths_of set) in
    codes "refused\nfirst " ++ (edge d.first ++ (codes "\nsecond " ++ (edge d.second
    ++ (codes "\nback" ++ (spaced_numbers d.back ++ codes "\n")))))
