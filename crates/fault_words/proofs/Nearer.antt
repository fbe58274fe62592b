-- The nearest of names, with one name more.
use Rattle.std.proofs.Common.{◌≡◌, ◌<◌, ◌≤◌, ◌∙◌, ℕ, List, [], ◌∷◌, ◌++◌, ◌+◌, Option, Some, None, ap, arith, append_assoc, fold, get_or, length, map, option_map, refl, subst, sym, take}
use Rattle.std.specs.Prelude.{All}
use Rattle.std.proofs.lemmas.List.{map_push, map_more}
use Rattle.std.proofs.lemmas.List.Elements.{All-append, All-cons, All-nil, All-push, All-weaker}
use Rattle.std.proofs.lemmas.List.Sums.{fold-append}
use Rattle.text_places.specs.Listing.{listed, with_listed}
use Rattle.fault_words.specs.Nearest.{IsNearest, edits, quoted, too_many_edits}

-- the fewest edits so far
abbrev pub fewest_by : (word : List ℕ) → Option (List ℕ) → ℕ
fewest_by word None = too_many_edits word
fewest_by word (Some near) = edits word near

-- the best of the names so far
abbrev pub IsBest : (word : List ℕ) → (names : List (List ℕ)) → Option (List ℕ) → Type 0
IsBest word names None = All (λ other. too_many_edits word ≤ edits word other) names
IsBest word names (Some near) = IsNearest word names near

-- a name that takes fewer edits is the best
pub nearer : (word : List ℕ) (names : List (List ℕ)) (best : Option (List ℕ)) (name : List ℕ)
    → edits word name < fewest_by word best → IsBest word names best → IsBest word (names ++ name ∷ []) (Some name)
nearer word names None name fewer far = record {
  before = names;
  behind = [];
  among = refl;
  few = fewer;
  first = All-weaker (λ other. too_many_edits word ≤ edits word other) (λ other. edits word name < edits word other)
      (λ other many. omega (arith, fewer, many)) names far;
  least = All-nil (λ other. edits word name ≤ edits word other);
}
nearer word names (Some near) name fewer found = record {
  before = names;
  behind = [];
  among = refl;
  few = omega (arith, fewer, found.few);
  first = let Further = λ (other : List ℕ). edits word name < edits word other in
      subst (λ (l : List (List ℕ)). All Further l) (sym found.among)
      (All-append Further found.before (near ∷ found.behind)
      (All-weaker (λ other. edits word near < edits word other) Further (λ other less. omega (arith, fewer, less)) found.before found.first)
      (All-cons Further near found.behind fewer
      (All-weaker (λ other. edits word near ≤ edits word other) Further (λ other least. omega (arith, fewer, least)) found.behind found.least)));
  least = All-nil (λ other. edits word name ≤ edits word other);
}

-- one that does not leaves the best as it is
pub no_nearer : (word : List ℕ) (names : List (List ℕ)) (best : Option (List ℕ)) (name : List ℕ)
    → fewest_by word best ≤ edits word name → IsBest word names best → IsBest word (names ++ name ∷ []) best
no_nearer word names None name many far =
    All-push (λ other. too_many_edits word ≤ edits word other) names name far many
no_nearer word names (Some near) name many found = record {
  before = found.before;
  behind = found.behind ++ name ∷ [];
  among = ap (λ l. l ++ name ∷ []) found.among ∙ append_assoc found.before (near ∷ found.behind) (name ∷ []);
  few = found.few;
  first = found.first;
  least = All-push (λ other. edits word near ≤ edits word other) found.behind name found.least many;
}

-- a list with one name more
pub listed_more : {X : Type 0} (text_of : X → List ℕ) (names : List X) (i : ℕ) (d : X) → i < length names
    → with_listed (listed (map quoted (map text_of (take i names)))) (quoted (text_of (get_or names i d)))
    ≡ listed (map quoted (map text_of (take (i + 1) names)))
listed_more text_of names i d within =
    let before = map text_of (take i names) in
    let name = text_of (get_or names i d) in
    sym (ap (λ (l : List (List ℕ)). listed (map quoted l)) (map_more text_of names i d within)
    ∙ ap (fold with_listed []) (map_push quoted before name)
    ∙ fold-append with_listed [] (map quoted before) (quoted name ∷ []))

-- the same of names that are seen by their texts: one that takes fewer edits is the best of one more
pub nearer_so_far : {X : Type 0} (text_of : X → List ℕ) (word : List ℕ) (names : List X) (i : ℕ) (d : X) (best after : Option X)
    (fewest least count : ℕ) → i < length names → count ≡ edits word (text_of (get_or names i d))
    → fewest ≡ fewest_by word (option_map text_of best) → count < fewest → IsBest word (map text_of (take i names)) (option_map text_of best)
    → after ≡ Some (get_or names i d) → least ≡ count
    → IsBest word (map text_of (take (i + 1) names)) (option_map text_of after) × (least ≡ fewest_by word (option_map text_of after))
nearer_so_far text_of word names i d best after fewest least count within is was fewer found now least_is =
    let name = text_of (get_or names i d) in
    let less : edits word name < fewest_by word (option_map text_of best) =
    subst (λ (n : ℕ). n < fewest_by word (option_map text_of best)) is (subst (λ (n : ℕ). count < n) was fewer) in
    let more = nearer word (map text_of (take i names)) (option_map text_of best) name less found in
    rw now (
      subst (λ (l : List (List ℕ)). IsBest word l (Some name)) (sym (map_more text_of names i d within)) more,
      least_is ∙ is,
    )

-- one that does not leaves it as it is
pub no_nearer_so_far : {X : Type 0} (text_of : X → List ℕ) (word : List ℕ) (names : List X) (i : ℕ) (d : X) (best after : Option X)
    (fewest least count : ℕ) → i < length names → count ≡ edits word (text_of (get_or names i d))
    → fewest ≡ fewest_by word (option_map text_of best) → fewest ≤ count → IsBest word (map text_of (take i names)) (option_map text_of best)
    → after ≡ best → least ≡ fewest
    → IsBest word (map text_of (take (i + 1) names)) (option_map text_of after) × (least ≡ fewest_by word (option_map text_of after))
no_nearer_so_far text_of word names i d best after fewest least count within is was many found now least_is =
    let name = text_of (get_or names i d) in
    let enough : fewest_by word (option_map text_of best) ≤ edits word name =
    subst (λ (n : ℕ). fewest_by word (option_map text_of best) ≤ n) is (subst (λ (n : ℕ). n ≤ count) was many) in
    let more = no_nearer word (map text_of (take i names)) (option_map text_of best) name enough found in
    rw now (
      subst (λ (l : List (List ℕ)). IsBest word l (option_map text_of best)) (sym (map_more text_of names i d within)) more,
      least_is ∙ was,
    )
