-- Questions by the numbers of their accesses among all: what is said of lists of pairs and of their questions.
use Rattle.std.proofs.Common.{◌≡◌, ℕ, ◌<◌, ◌≤◌, ◌+◌, ◌^◌, List, [], ◌∷◌, ◌++◌, length, map, get_or, sym, subst, ap, ◌∙◌, arith}
use Rattle.std.specs.Prelude.{All, slice_get, ◌==◌, ◌&&◌}
use Rattle.std.proofs.lemmas.List.{get_or-map, length-map, map_push}
use Rattle.std.proofs.lemmas.List.Elements.{All-filter}
use Rattle.std.proofs.lemmas.Option.{get_or_from_slice_get, slice_get-get_or, slice_get_within}
use Rattle.prog_check.specs.declared.path.Path.{Path}
use Rattle.prog_paths.specs.declared.accesses.places.Placed.{Placed}
use Rattle.prog_paths.specs.declared.accesses.questions.Question.{Question}
use Rattle.prog_paths.specs.Questions.{question_between}
use Rattle.prog_paths.specs.Changers.{changes, changers_of}
use Rattle.prog_paths.specs.Places.{IsAt, all_from}
use Rattle.prog_paths.specs.Tally.{of_table}
use Rattle.prog_paths.proofs.Questions.{all_places_stand}
use Rattle.conflict_pairs.specs.declared.pairing.PlacePair.{PlacePair}
use Rattle.conflict_pairs.specs.declared.verdicts.Verdict.{Verdict}
use Rattle.conflict_pairs.specs.Classes.{starts_from}
use Rattle.conflict_pairs.specs.Pairing.{HasPlaces, StandsAt, no_place, place_at, question_at, questions_at}
use Rattle.conflict_pairs.specs.Table.{entries_of}
use Rattle.conflict_pairs.proofs.Numbered.{entries-length}
use Rattle.conflict_pairs.proofs.OneClass.{place-stands, starts-length}

-- ---- what each of a list gives

module _ {X Y : Type 0} (f : X → Y) where
  -- one more at the end
  pub given-pushed : (old new : List X) (x : X) (y : Y) → new ≡ old ++ x ∷ [] → f x ≡ y → map f new ≡ map f old ++ y ∷ []
  given-pushed old new x y added is = ap (map f) added ∙ map_push f old x ∙ ap (λ (z : Y). map f old ++ z ∷ []) is

-- ---- pairs of accesses of paths

-- an access of the paths has its number
pub stand-one : (paths : List Path) (p : Placed) → IsAt paths p → StandsAt (starts_from 0 paths) (all_from 0 paths) p
stand-one paths p at =
    let node = slice_get_within paths p.node at.0 at.1 in
    record {
      has_start = omega (arith, node, starts-length 0 paths);
      stands = place-stands paths p.node p.number (p.access, at);
    }

-- so has each
pub all-stand : (paths : List Path) → All (StandsAt (starts_from 0 paths) (all_from 0 paths)) (all_from 0 paths)
all-stand paths k d lt = stand-one paths (get_or (all_from 0 paths) k d) (all_places_stand paths k d lt)

-- what holds of each access holds of those that change a table
pub changers-all : (P : Placed → Type 0) (places changers seconds : List Placed) (table : ℕ) → seconds ≡ of_table table changers → ((table : ℕ) → of_table table changers ≡ changers_of table places) → All P places → All P seconds
changers-all P places changers seconds table is all h =
    subst (λ (l : List Placed). All P l) (sym (is ∙ all table))
    (All-filter (λ (p : Placed). (p.access.table == table) && changes p.access.kind) P places h)

-- an access that is there doesn't depend on what stands for a missing one
pub place-any : (places : List Placed) (n : ℕ) (d : Placed) → n < length places → get_or places n d ≡ place_at places n
place-any places n d lt = get_or_from_slice_get places n (place_at places n) d (slice_get-get_or places n no_place lt)

pub question-any : (places : List Placed) (pair : PlacePair) (d e : Placed) → HasPlaces places pair → question_between (get_or places pair.first d) (get_or places pair.second e) ≡ question_at places pair
question-any places pair d e h =
    λ i. question_between (place-any places pair.first d h.first_within i) (place-any places pair.second e h.second_within i)

module _ (starts : List ℕ) (places : List Placed) (few : length places ≤ 2 ^ 32) (p : Placed) (h : StandsAt starts places p) where
  pub stands-within : get_or starts p.node 0 + p.number < length places
  stands-within = slice_get_within places (get_or starts p.node 0 + p.number) p h.stands

  pub number-fits : get_or starts p.node 0 + p.number < 2 ^ 64
  number-fits = omega (arith, few, stands-within)

  module _ (n : ℕ) (is : n ≡ get_or starts p.node 0 + p.number) where
    pub number-small : n < 2 ^ 32
    number-small = omega (arith, few, stands-within, is)

    pub number-there : n < length places
    number-there = omega (arith, stands-within, is)

    pub number-is : place_at places n ≡ p
    number-is = get_or_from_slice_get places n p no_place (ap (slice_get places) is ∙ h.stands)

-- the question of two accesses is that of the pair of their numbers
pub pair-question : (places : List Placed) (first second : Placed) (pair : PlacePair) (m n : ℕ) → pair.first ≡ m → pair.second ≡ n → place_at places m ≡ first → place_at places n ≡ second → question_at places pair ≡ question_between first second
pair-question places first second pair m n is_m is_n is_first is_second =
    λ i. question_between ((ap (place_at places) is_m ∙ is_first) i) ((ap (place_at places) is_n ∙ is_second) i)

-- ---- the entries of pairs

module _ (vs : List Verdict) (places : List Placed) (pairs : List PlacePair) (ns : List ℕ) (one_each : length pairs ≡ length ns) where
  pub pairs-one_each : length (questions_at places pairs) ≡ length ns
  pairs-one_each = length-map pairs (question_at places) ∙ one_each

  pub pairs-length : length (entries_of vs (questions_at places pairs) ns) ≡ length pairs
  pairs-length = entries-length vs (questions_at places pairs) ns (length-map pairs (question_at places) ∙ one_each) ∙ length-map pairs (question_at places)

pub pair-at : (places : List Placed) (pairs : List PlacePair) (n : ℕ) (pair : PlacePair) (q : Question) → n < length pairs → pair ≡ get_or pairs n pair → q ≡ question_at places pair → q ≡ get_or (questions_at places pairs) n q
pair-at places pairs n pair q lt is of_pair = of_pair ∙ ap (question_at places) is ∙ sym (get_or-map (question_at places) pairs n pair q lt)
