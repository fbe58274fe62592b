-- One more job among those that were lost, and the spot behind it.
use Rattle.std.proofs.Common.{ℕ, ℤ, fold, map, Option, Some, None, Bool, cond, filter, ◌≡◌, ◌+◌, List, [], ◌∷◌, ◌++◌, sym, ap, ◌∙◌, arith}
use Rattle.std.specs.List.{range_with_len}
use Rattle.std.specs.Prelude.{IfSome}
use Rattle.std.specs.Option.{unwrap_or}
use Rattle.std.proofs.lemmas.List.{map-id}
use Rattle.std.proofs.lemmas.List.FromFn.{filter_of_map_range_with_len_more, map-range_with_len_more}
use Rattle.std.proofs.lemmas.List.Sums.{fold-append}
use Rattle.prog_tree.specs.Syntax.{Name}
use Rattle.text_places.specs.Listing.{with_listed}
use Rattle.run_words.specs.JobSentences.{argument_at, arguments_to}
use Rattle.run_words.specs.JobSpots.{IsSpot}
use Rattle.run_words.specs.declared.job_spots.Spot.{Spot}

pub filter-more : (p : ℕ → Bool) (n : ℕ) → filter p (range_with_len 0 (n + 1)) ≡ filter p (range_with_len 0 n) ++ cond (p n) (n ∷ []) []
filter-more p n =
    sym (ap (filter p) (map-id (range_with_len 0 (n + 1))))
    ∙ filter_of_map_range_with_len_more p (λ x. x) 0 n n (omega arith)
    ∙ ap (λ front. filter p front ++ cond (p n) (n ∷ []) []) (map-id (range_with_len 0 n))

-- one argument more
pub arguments_to-more : (params : List Name) (args : List ℤ) (n : ℕ)
    → with_listed (arguments_to params args n) (argument_at params args n) ≡ arguments_to params args (n + 1)
arguments_to-more params args n =
    sym (ap (fold with_listed []) (map-range_with_len_more (argument_at params args) 0 n n (omega arith))
    ∙ fold-append with_listed [] (map (argument_at params args) (range_with_len 0 n)) (argument_at params args n ∷ []))

-- the spot that was found, or else the last one
pub last_spot : (list : List ℕ) (found : Option Spot) (last : Spot) → IfSome found (IsSpot list) → IsSpot list last
    → IsSpot list (unwrap_or found last)
last_spot list (Some spot) last is before = is
last_spot list None last is before = before
