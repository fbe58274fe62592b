-- A table of questions with their verdicts, and which paths it stands for.
use Rattle.std.specs.Prelude.{◌≡◌, ℕ, List, [], ◌∷◌, map, All, slice_index_or}
use Rattle.prog_check.specs.declared.path.Path.{Path}
use Rattle.conflict_pairs.specs.declared.verdicts.Verdict.{Verdict}
use Rattle.conflict_pairs.specs.declared.verdicts.Verdict.TheVariants.{Apart}
use Rattle.prog_paths.specs.declared.accesses.questions.Question.{Question}
use Rattle.prog_paths.specs.Questions.{numbers_of, questions_of}
use Rattle.prog_paths.specs.Listing.{IsAskedOf}
use Rattle.conflict_pairs.specs.Verdicts.{IsRight}

-- a question and its verdict
pub record Judged : Type 0 where
  pub question : Question
  pub verdict : Verdict

-- a list of paths, the verdicts that questions have, and the questions with their verdicts
pub record Table : Type 0 where
  pub paths : List Path
  pub verdicts : List Verdict
  pub entries : List Judged

-- the verdict of a number
abbrev pub verdict_at : List Verdict → ℕ → Verdict
verdict_at verdicts n = slice_index_or verdicts n (Apart [])

-- a question with the verdict of a number
abbrev pub entry_by : List Verdict → Question → ℕ → Judged
entry_by verdicts q n = record { question = q; verdict = verdict_at verdicts n }

-- each question with the verdict of its number
abbrev pub entries_of : List Verdict → List Question → List ℕ → List Judged
entries_of verdicts [] numbers = []
entries_of verdicts (q ∷ qs) [] = []
entries_of verdicts (q ∷ qs) (n ∷ numbers) = entry_by verdicts q n ∷ entries_of verdicts qs numbers

-- an entry's verdict is right
abbrev pub IsRightEntry : List Path → Judged → Type 0
IsRightEntry paths e = IsRight paths (numbers_of e.question) e.verdict

-- a verdict is right of some question of the paths
pub record IsOnQuestion (paths : List Path) (verdict : Verdict) : Type 0 where
  pub question : Question
  pub asked : IsAskedOf paths question
  pub right : IsRight paths (numbers_of question) verdict

-- the table is one of these paths: it has all their questions in order, and a right verdict on each
pub record StandsFor (table : Table) (paths : List Path) : Type 0 where
  pub of_paths : table.paths ≡ paths
  pub questions : map (λ e. e.question) table.entries ≡ questions_of paths
  pub right : All (λ e. IsRightEntry paths e) table.entries
  pub verdicts : All (IsOnQuestion paths) table.verdicts
