-- Places of a list of jobs from which it is read on.
use Rattle.std.specs.Prelude.{ℕ, ◌≡◌, List, Option, IfNone, IfSome}
use Rattle.text_places.specs.Landmarks.{landmarks_before, HasNoJob, IsJobPlace}
use Rattle.text_places.specs.Places.{line_number}
use Rattle.text_places.specs.declared.landmark.Landmark.TheVariants.{Job}
use Rattle.run_words.specs.declared.job_spots.Spot.{Spot}

-- so many jobs begin before the place, and it stands in this line
abbrev pub IsSpot : (list : List ℕ) → Spot → Type 0
IsSpot list spot = (landmarks_before Job list spot.place ≡ spot.jobs) × (line_number list spot.place ≡ spot.line)

-- what is found of the job of a number: its spot, or nothing where the list has fewer jobs
pub record IsFoundJob (list : List ℕ) (number : ℕ) (found : Option Spot) : Type 0 where
  pub job : IfSome found (λ spot. IsJobPlace list number spot.place)
  pub spot : IfSome found (IsSpot list)
  pub none : IfNone found (HasNoJob list number)
