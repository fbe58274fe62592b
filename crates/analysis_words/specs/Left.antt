-- What a repair of a whole set keeps apart.
use Rattle.std.specs.Prelude.{ℕ, ◌-◌, ◌==◌, if◌then◌else◌, List, [], ◌∷◌, ◌++◌, codes, length, take}
use Rattle.std.specs.Fmt.{decimal}
use Rattle.std.specs.List.{flat_map}
use Rattle.prog_tree.specs.Syntax.{DraftTree}
use Rattle.repair_laws.specs.declared.plan.Pair.{Pair}
use Rattle.analysis_words.specs.Limits.{most_further}
use Rattle.analysis_words.specs.Repairs.{quoted_name}
use Rattle.analysis_words.specs.SharedWords.{more_text, other_run}

-- the two programs of a pair, as `` `Look` and `Set` `` or `` `Look` and another `Look` ``
abbrev pub pair_text : DraftTree → Pair → List ℕ
pair_text set pair =
    quoted_name set pair.from ++ (codes " and " ++ (other_run pair.from pair.to ++ quoted_name set pair.to))

abbrev pub further_text : DraftTree → Pair → List ℕ
further_text set pair = codes ", " ++ pair_text set pair

abbrev pub pair_count_text : (count : ℕ) → List ℕ
pair_count_text count =
    if count == 1 then codes "one pair of programs has" else decimal count ++ codes " pairs of programs have"

-- how many pairs there are, the first with as many behind it as are told, and how many there are more
abbrev pub left_text : DraftTree → List Pair → List ℕ
left_text set [] = []
left_text set (first ∷ others) =
    codes "for the whole set " ++ (pair_count_text (length (first ∷ others)) ++ (codes " to be kept apart: "
    ++ (pair_text set first ++ (flat_map (further_text set) (take most_further others) ++ (more_text (length others - most_further) ++ codes "\n")))))
