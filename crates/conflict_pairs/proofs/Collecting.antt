-- That each question of a list is asked, and what a collection into a `Result` holds.
use Rattle.std.proofs.Common.{◌≡◌, Bool, true, false, List, [], ◌∷◌, map, refl, sym, subst}
use Rattle.std.specs.Prelude.{All, IfOk, Ok, Err, MatchResult, Contains, if◌then◌else◌}
use Rattle.std.specs.declared.result.Result.{Result}
use Rattle.std.specs.List.{AllZip}
use Rattle.std.proofs.lemmas.List.Elements.{All-nil, All-cons, All-head, All-tail, All-append}
use Rattle.prog_check.specs.declared.path.Path.{Path}
use Rattle.prog_paths.specs.declared.accesses.places.Placed.{Placed}
use Rattle.prog_paths.specs.declared.accesses.questions.Question.{Question}
use Rattle.prog_paths.specs.Questions.{asks, question_between, asked_by, asked_among, questions_of}
use Rattle.prog_paths.specs.Places.{IsAt, all_from}
use Rattle.prog_paths.proofs.Questions.{all_places_stand}
use Rattle.conflict_pairs.specs.Alike.{IsAsked}

-- ---- each question of the list is asked

module _ (paths : List Path) where
  with_asked : (first second : Placed) (rest : List Question) (b : Bool) → asks first second ≡ b → IsAt paths first → IsAt paths second → All (IsAsked paths) rest → All (IsAsked paths) (if b then question_between first second ∷ rest else rest)
  with_asked first second rest true e at_first at_second h =
      All-cons (IsAsked paths) (question_between first second) rest (record { first = first; second = second; at_first = at_first; at_second = at_second; asks_it = e; is = refl }) h
  with_asked first second rest false e at_first at_second h = h

  by_asked : (first : Placed) (seconds : List Placed) → IsAt paths first → All (λ p. IsAt paths p) seconds → All (IsAsked paths) (asked_by first seconds)
  by_asked first [] at h = All-nil (IsAsked paths)
  by_asked first (s ∷ rest) at h =
      with_asked first s (asked_by first rest) (asks first s) refl at (All-head (λ p. IsAt paths p) s rest h)
      (by_asked first rest at (All-tail (λ p. IsAt paths p) s rest h))

  among_asked : (firsts seconds : List Placed) → All (λ p. IsAt paths p) firsts → All (λ p. IsAt paths p) seconds → All (IsAsked paths) (asked_among firsts seconds)
  among_asked [] seconds h k = All-nil (IsAsked paths)
  among_asked (f ∷ rest) seconds h k =
      All-append (IsAsked paths) (asked_by f seconds) (asked_among rest seconds) (by_asked f seconds (All-head (λ p. IsAt paths p) f rest h) k)
      (among_asked rest seconds (All-tail (λ p. IsAt paths p) f rest h) k)

-- each that some of the accesses ask
pub some_asked : (paths : List Path) (firsts places : List Placed) → places ≡ all_from 0 paths → All (λ p. IsAt paths p) firsts → All (IsAsked paths) (asked_among firsts places)
some_asked paths firsts places are at = among_asked paths firsts places at (subst (λ (l : List Placed). All (λ p. IsAt paths p) l) (sym are) (all_places_stand paths))

pub all_asked : (paths : List Path) → All (IsAsked paths) (questions_of paths)
all_asked paths = among_asked paths (all_from 0 paths) (all_from 0 paths) (all_places_stand paths) (all_places_stand paths)

-- ---- a collection into a `Result`, item by item

through_ok : {Z Y : Type 0} (E : Type 0) (R : Z → Y → Type 0) (zs : List Z) (ys : List Y) → AllZip (λ z (r : Result Y E). IfOk r (R z)) zs (map Ok ys) → AllZip R zs ys
through_ok E R [] [] h = tt
through_ok E R [] (y ∷ ys) h = absurd h
through_ok E R (z ∷ zs) [] h = absurd h
through_ok E R (z ∷ zs) (y ∷ ys) h = (h.0, through_ok E R zs ys h.1)

pub gathered : {Z Y V : Type 0} (E : Type 0) (R : Z → Y → Type 0) (shown : V → List Y) (r : Result V E) (zs : List Z) (xs : List (Result Y E))
    → AllZip (λ z x. IfOk x (R z)) zs xs
    → MatchResult r (λ v. (ys : List Y) × (xs ≡ map Ok ys) × (shown v ≡ ys)) (λ e. Contains xs (Err e))
    → IfOk r (λ v. AllZip R zs (shown v))
gathered E R shown (Ok v) zs xs all h =
    let P : List (Result _ E) → Type 0 = λ l. AllZip (λ z x. IfOk x (R z)) zs l in
    subst (AllZip R zs) (sym h.2) (through_ok E R zs h.0 (subst P h.1 all))
gathered E R shown (Err e) zs xs all h = tt
