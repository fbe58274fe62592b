-- Questions by the numbers of their two accesses among all.
use Rattle.std.specs.Prelude.{◌≡◌, ℕ, ◌+◌, ◌<◌, List, length, map, slice_index_or, slice_get, None, Some, false}
use Rattle.prog_check.specs.declared.path.Kind.TheVariants.{Reads}
use Rattle.prog_check.specs.declared.path.Path.{Path}
use Rattle.prog_check.specs.declared.path.Term.TheVariants.{Param}
use Rattle.prog_paths.specs.declared.accesses.places.Placed.{Placed}
use Rattle.prog_paths.specs.declared.accesses.questions.Question.{Question}
use Rattle.prog_paths.specs.Questions.{question_between}
use Rattle.conflict_pairs.specs.declared.pairing.PlacePair.{PlacePair}
use Rattle.conflict_pairs.specs.Alike.{IsAsked}

-- stands for an access where there is none
abbrev pub no_place : Placed
no_place = record {
  node = 0;
  number = 0;
  access = record {
    kind = Reads;
    table = 0;
    first = record { low = Param 0; high = Param 0 };
    second = None;
    place = 0;
    sure = false;
  };
}

-- the access of a number
abbrev pub place_at : List Placed → ℕ → Placed
place_at places n = slice_index_or places n no_place

-- the question between the accesses of a pair
abbrev pub question_at : List Placed → PlacePair → Question
question_at places pair = question_between (place_at places pair.first) (place_at places pair.second)

abbrev pub questions_at : List Placed → List PlacePair → List Question
questions_at places pairs = map (question_at places) pairs

-- both numbers of a pair are those of accesses
pub record HasPlaces (places : List Placed) (pair : PlacePair) : Type 0 where
  pub first_within : pair.first < length places
  pub second_within : pair.second < length places

-- an access has the number where its node's accesses begin and its own number on
pub record StandsAt (starts : List ℕ) (places : List Placed) (p : Placed) : Type 0 where
  pub has_start : p.node < length starts
  pub stands : slice_get places (slice_index_or starts p.node 0 + p.number) ≡ Some p

-- a pair of these accesses, of which the first asks something of the second
pub record IsAskedBetween (paths : List Path) (places : List Placed) (pair : PlacePair) : Type 0 where
  pub within : HasPlaces places pair
  pub asked : IsAsked paths (question_at places pair)
