-- What the words of a certificate have to say.
use Rattle.std.specs.Prelude.{ℕ, ◌≡◌, ◌-◌, ◌+◌, List, Option, [], ◌++◌, codes, length, min, MatchOption}
use Rattle.std.specs.Fmt.{decimal}
use Rattle.std.specs.List.{range_with_len}
use Rattle.prog_check.specs.declared.path.Path.{Path}
use Rattle.prog_paths.specs.Questions.{questions_of}
use Rattle.prog_paths.specs.Limits.{most_questions}
use Rattle.robust_cert.specs.declared.certificate.Certificate.{Certificate}
use Rattle.robust_cert.specs.Sharing.{Entry}
use Rattle.analysis_words.specs.Counts.{IsMost, apart_count, covers_in}
use Rattle.analysis_words.specs.Limits.{most_levels}
use Rattle.analysis_words.specs.Nodes.{IsAccessText, Sight}
use Rattle.analysis_words.specs.declared.entry_counts.Covering.{Covering}
use Rattle.analysis_words.specs.Saying.{level_list}
use Rattle.analysis_words.specs.SharedWords.{more_text}

abbrev pub reasons_text : (apart covered : ℕ) → List ℕ
reasons_text apart covered = decimal apart ++ (codes " never do, " ++ (decimal covered ++ codes " clash where they do"))

-- how many questions have each of the two reasons
abbrev pub entries_text : Certificate → List ℕ
entries_text certificate =
    reasons_text (apart_count certificate.entries) (length certificate.entries - apart_count certificate.entries)

-- the levels of the first nodes, and how many nodes there are more
abbrev pub levels_text : Sight → Certificate → List ℕ
levels_text sight certificate =
    level_list sight certificate (range_with_len 0 (min (length sight.paths) most_levels))
    ++ more_text (length sight.paths - most_levels)

-- in how many covers an access is one of the two, and which it is
abbrev pub IsCoveringText : Sight → Covering → (text : List ℕ) → Type 0
IsCoveringText sight most text =
    (access : List ℕ) × IsAccessText sight most.node most.access access
    × (text ≡ codes " (" ++ (decimal most.count ++ (codes " of them by " ++ (access ++ codes ")"))))

-- the same of the first access that is in most covers; nothing where none is in one
abbrev pub IsMostText : Sight → List Entry → (text : List ℕ) → Type 0
IsMostText sight entries text =
    (most : Option Covering) × IsMost (covers_in sight.paths entries) most
    × MatchOption most (text ≡ []) (λ covering. IsCoveringText sight covering text)

-- how many questions the paths ask, no further than one above the limit
abbrev pub asked_count : List Path → ℕ
asked_count paths = min (length (questions_of paths)) (most_questions + 1)

-- the line of the questions: how many there are, which reasons they have, and how many are left for the levels
abbrev pub questions_text : Certificate → (asked : ℕ) → (most : List ℕ) → List ℕ
questions_text certificate asked most =
    codes "each run of this set has a serial order: of " ++ (decimal asked
    ++ (codes " pairs of accesses that could touch one row, " ++ (entries_text certificate ++ (most ++ (codes ", and "
    ++ (decimal (asked - length certificate.entries) ++ codes " are in order by the levels\n"))))))

-- the words have the line of all questions that the paths ask, and that of the levels
abbrev pub SaysRobust : Sight → Certificate → (words : List ℕ) → Type 0
SaysRobust sight certificate words =
    (most : List ℕ) × IsMostText sight certificate.entries most
    × (words ≡ questions_text certificate (asked_count sight.paths) most
    ++ (codes "levels: " ++ (levels_text sight certificate ++ codes "\n")))
