-- On the questions of which pairs the verdicts of parts are.
use Rattle.std.proofs.Common.{◌≡◌, ℕ, ◌+◌, ◌<◌, List, [], ◌∷◌, ◌++◌, length, map, take, drop, append_assoc, length-append, sym, ap, ◌∙◌, subst, arith, zero, suc, max}
use Rattle.std.specs.Prelude.{All}
use Rattle.std.specs.List.{AllZip, flat_map}
use Rattle.std.proofs.lemmas.List.Elements.{All-nil, All-cons, All-append, All-take, All-drop}
use Rattle.rayon.proofs.ListFacts.{AllZip-append}
use Rattle.prog_tree.proofs.Elements.{get_left, at-right}
use Rattle.prog_check.specs.declared.path.Path.{Path}
use Rattle.prog_paths.specs.declared.accesses.places.Placed.{Placed}
use Rattle.rayon.specs.Lists.{chunks_of, chunks_from}
use Rattle.rayon.proofs.ToStd.{chunks_of-concat}
use Rattle.conflict_pairs.specs.declared.verdicts.Verdict.{Verdict}
use Rattle.conflict_pairs.specs.declared.pairing.PlacePair.{PlacePair}
use Rattle.conflict_pairs.specs.declared.interning.Interned.{Interned}
use Rattle.conflict_pairs.specs.Alike.{IsOnAsked}
use Rattle.conflict_pairs.specs.Interning.{IsServed}
use Rattle.conflict_pairs.specs.Pairing.{IsAskedBetween}
use Rattle.conflict_pairs.specs.Sharing.{IsOnPair, ArePairsJudged, verdicts_in, numbers_in}

-- ---- the verdicts of chunks of pairs

-- the verdict of a number serves as before among more verdicts, by the number that it has there
shifted : {Key : Type 0} (R : Key → Verdict → Type 0) (front vs rest : List Verdict) (keys : List Key) (ns : List ℕ) → AllZip (IsServed R vs) keys ns → AllZip (IsServed R (front ++ (vs ++ rest))) keys (map (λ n. length front + n) ns)
shifted R front vs rest [] [] h = tt
shifted R front vs rest [] (n ∷ ns) h = absurd h
shifted R front vs rest (k ∷ keys) [] h = absurd h
shifted R front vs rest (k ∷ keys) (n ∷ ns) h = (
  record { value = h.0.value; at = at-right front (vs ++ rest) n h.0.value (get_left vs rest n h.0.value h.0.at); serves = h.0.serves },
  shifted R front vs rest keys ns h.1,
)

module _ (paths : List Path) (places : List Placed) where
  abbrev pub AreParts : List (List PlacePair) → List (Interned Verdict) → Type 0
  AreParts = AllZip (λ chunk (part : Interned Verdict). ArePairsJudged paths places chunk part.values.items part.numbers.items)

  sound-in : (chunks : List (List PlacePair)) (parts : List (Interned Verdict)) → AreParts chunks parts → All (IsOnAsked paths) (verdicts_in parts)
  sound-in [] [] h = All-nil (IsOnAsked paths)
  sound-in [] (p ∷ parts) h = absurd h
  sound-in (c ∷ chunks) [] h = absurd h
  sound-in (c ∷ chunks) (p ∷ parts) h = All-append (IsOnAsked paths) p.values.items (verdicts_in parts) h.0.sound (sound-in chunks parts h.1)

  served-in : (front : List Verdict) (chunks : List (List PlacePair)) (parts : List (Interned Verdict)) → AreParts chunks parts → AllZip (IsServed (IsOnPair paths places) (front ++ verdicts_in parts)) (flat_map (λ l. l) chunks) (numbers_in (length front) parts)
  served-in front [] [] h = tt
  served-in front [] (p ∷ parts) h = absurd h
  served-in front (c ∷ chunks) [] h = absurd h
  served-in front (c ∷ chunks) (p ∷ parts) h =
      let serves = IsOnPair paths places in
      let vs = p.values.items in
      let rest = verdicts_in parts in
      let pairs = flat_map (λ l. l) chunks in
      let behind = served-in (front ++ vs) chunks parts h.1 in
      let moved = subst (λ (l : List Verdict). AllZip (IsServed serves l) pairs (numbers_in (length (front ++ vs)) parts)) (append_assoc front vs rest) behind in
      AllZip-append (IsServed serves (front ++ (vs ++ rest))) c pairs (map (λ n. length front + n) p.numbers.items) (numbers_in (length front + length vs) parts)
      (shifted serves front vs rest c p.numbers.items h.0.served)
      (subst (λ (n : ℕ). AllZip (IsServed serves (front ++ (vs ++ rest))) pairs (numbers_in n parts)) (length-append front vs) moved)

  pub of_whole : (pairs : List PlacePair) (size : ℕ) (parts : List (Interned Verdict)) → AreParts (chunks_of (max size 1) pairs) parts → ArePairsJudged paths places pairs (verdicts_in parts) (numbers_in 0 parts)
  of_whole pairs size parts h =
      let some : 0 < max size 1 = omega arith in
      let chunks = chunks_of (max size 1) pairs in
      subst (λ (l : List PlacePair). ArePairsJudged paths places l (verdicts_in parts) (numbers_in 0 parts)) (chunks_of-concat (max size 1) pairs some)
      (record { sound = sound-in chunks parts h; served = served-in [] chunks parts h })

-- ---- what holds of all holds of those in each chunk

module _ {X : Type 0} (P : X → Type 0) where
  in_chunks : (fuel : ℕ) (xs : List X) (size : ℕ) → All P xs → All (λ (chunk : List X). All P chunk) (chunks_from fuel size xs)
  in_chunks zero xs size h = All-nil (λ (chunk : List X). All P chunk)
  in_chunks (suc n) [] size h = All-nil (λ (chunk : List X). All P chunk)
  in_chunks (suc n) (x ∷ xs) size h =
      All-cons (λ (chunk : List X). All P chunk) (take size (x ∷ xs)) (chunks_from n size (drop size (x ∷ xs)))
      (All-take P size (x ∷ xs) h) (in_chunks n (drop size (x ∷ xs)) size (All-drop P size (x ∷ xs) h))

  pub in_each_chunk : (xs : List X) (size : ℕ) → All P xs → All (λ (chunk : List X). All P chunk) (chunks_of size xs)
  in_each_chunk xs size h = in_chunks (length xs) xs size h

-- ---- one part more at a time

-- what all parts have
pub joined-more : {A X : Type 0} (f : A → List X) (old new whole : List X) (rest left : List A) (part : A) → left ≡ part ∷ rest → new ≡ old ++ f part → old ++ flat_map f left ≡ whole → new ++ flat_map f rest ≡ whole
joined-more f old new whole rest left part first added h =
    ap (λ l. l ++ flat_map f rest) added ∙ append_assoc old (f part) (flat_map f rest) ∙ ap (λ l. old ++ flat_map f l) (sym first) ∙ h

-- the numbers of their verdicts
pub numbered-more : (old new whole : List ℕ) (before behind : ℕ) (rest left : List (Interned Verdict)) (part : Interned Verdict) → left ≡ part ∷ rest → new ≡ old ++ map (λ n. before + n) part.numbers.items → behind ≡ before + length part.values.items → old ++ numbers_in before left ≡ whole → new ++ numbers_in behind rest ≡ whole
numbered-more old new whole before behind rest left part first added is h =
    ap (λ (l : List ℕ). l ++ numbers_in behind rest) added
    ∙ append_assoc old (map (λ n. before + n) part.numbers.items) (numbers_in behind rest)
    ∙ ap (λ (n : ℕ). old ++ (map (λ m. before + m) part.numbers.items ++ numbers_in n rest)) is
    ∙ ap (λ (l : List (Interned Verdict)). old ++ numbers_in before l) (sym first) ∙ h
