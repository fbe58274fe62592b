-- What the words of jobs that did not commit have to show.
use Rattle.std.specs.Prelude.{ℕ, ◌≡◌, ◌-◌, ◌==◌, ◌⊎◌, Bool, false, List, [], ◌∷◌, ◌++◌, Option, Some, None, codes, filter, length, map, slice_get, take, if◌then◌else◌}
use Rattle.std.specs.Fmt.{decimal}
use Rattle.std.specs.List.{range_with_len}
use Rattle.text_places.specs.Landmarks.{HasNoJob, IsJobPlace}
use Rattle.text_places.specs.Places.{line_number}
use Rattle.text_places.specs.Quotes.{visible}
use Rattle.text_places.specs.Listing.{TellsEach}
use Rattle.prog_tree.specs.Syntax.{DraftTree}
use Rattle.job_list.specs.declared.job.JobOutcome.{JobOutcome}
use Rattle.job_list.specs.declared.job.Way.{Way}
use Rattle.job_list.specs.declared.job.Way.TheVariants.{Aborted, Clashed, Refused}
use Rattle.job_list.specs.Ways.{is_in}
use Rattle.run_words.specs.declared.in_input.Part.{Part}
use Rattle.run_words.specs.declared.lost_jobs.ToldJobs.{ToldJobs}
use Rattle.run_words.specs.InInput.{input_line_text}
use Rattle.run_words.specs.JobSentences.{IsJobSentence}
use Rattle.run_words.specs.Limits.{most_told}

-- a job ended in this way
abbrev pub is_lost_by : Way → Option JobOutcome → Bool
is_lost_by way None = false
is_lost_by way (Some outcome) = is_in way outcome.job_end

-- the numbers of the jobs that ended so, in their order
abbrev pub numbers_lost : Way → List JobOutcome → List ℕ
numbers_lost way outcomes =
    filter (λ number. is_lost_by way (slice_get outcomes number)) (range_with_len 0 (length outcomes))

-- as `line 3 (line 12 of the input)`
abbrev pub place_text : Part → (place : ℕ) → List ℕ
place_text part place = codes "line " ++ (decimal (line_number part.bytes.now place) ++ input_line_text part place)

-- the text tells where the job of this number stands; one that is not found is told by its number
abbrev pub IsJobText : Part → (number : ℕ) → (text : List ℕ) → Type 0
IsJobText part number text =
    ((place : ℕ) × IsJobPlace part.bytes.now number place × (text ≡ place_text part place))
    ⊎ (HasNoJob part.bytes.now number × (text ≡ codes "job " ++ decimal number))

-- the one line tells where the job of this number stands, and then what there is to say of it
abbrev pub IsJobLine : Part → (number : ℕ) → (sentence line : List ℕ) → Type 0
IsJobLine part number sentence line =
    (text : List ℕ) × IsJobText part number text
    × (line ≡ codes "  " ++ (text ++ (codes ": " ++ (map visible sentence ++ codes "\n"))))

-- where the job of this number stands, its call, and why it did not commit
abbrev pub TellsJob : DraftTree → ToldJobs → (number : ℕ) → (line : List ℕ) → Type 0
TellsJob set told number line =
    (sentence : List ℕ) × IsJobSentence set told.jobs.now told.outcomes.now number sentence
    × IsJobLine told.part number sentence line

-- that there are so many more
abbrev pub more_text : (count : ℕ) → List ℕ
more_text count = if count == 0 then [] else codes "  and " ++ (decimal count ++ codes " more\n")

-- how many jobs these are, behind a heading, a line for each of the first ones, as `tells` says, and how many more
-- there are; nothing where there is none
abbrev pub TellsLost :
    (tells : ℕ → List ℕ → Type 0) → (heading : List ℕ) → (numbers : List ℕ) → (words : List ℕ) → Type 0
TellsLost tells heading [] words = words ≡ []
TellsLost tells heading (number ∷ numbers) words =
    (lines : List ℕ) × TellsEach tells (take most_told (number ∷ numbers)) lines
    × (words ≡ heading ++ (decimal (length (number ∷ numbers))
    ++ (codes "\n" ++ (lines ++ more_text (length (number ∷ numbers) - most_told)))))

-- the jobs that were refused, then those that aborted, then those that clashed
abbrev pub TellsLosses : (tells : ℕ → List ℕ → Type 0) → List JobOutcome → (words : List ℕ) → Type 0
TellsLosses tells outcomes words =
    (refused aborted clashed : List ℕ)
    × TellsLost tells (codes "jobs that were refused: ") (numbers_lost Refused outcomes) refused
    × TellsLost tells (codes "jobs that aborted: ") (numbers_lost Aborted outcomes) aborted
    × TellsLost tells (codes "jobs of which each try clashed: ") (numbers_lost Clashed outcomes) clashed
    × (words ≡ refused ++ (aborted ++ clashed))
