-- Verdicts that several pairs share, one pair more at a time.
use Rattle.std.proofs.Common.{◌≡◌, ℕ, ◌<◌, ◌+◌, List, [], ◌∷◌, ◌++◌, length, length-append, get_or, take, refl, sym, subst, ap, ◌∙◌, arith}
use Rattle.std.specs.Prelude.{All, Some, slice_get, Result, Ok, Err, IfOk}
use Rattle.std.specs.List.{AllZip}
use Rattle.std.proofs.lemmas.List.{get_or_push}
use Rattle.std.proofs.lemmas.List.Elements.{All-push}
use Rattle.std.proofs.lemmas.Option.{get_or_from_slice_get, slice_get-get_or}
use Rattle.rayon.proofs.ListFacts.{AllZip-weaken}
use Rattle.prog_tree.proofs.Elements.{get_left}
use Rattle.prog_check.specs.declared.path.Path.{Path}
use Rattle.prog_paths.specs.declared.accesses.places.Placed.{Placed}
use Rattle.prog_paths.specs.declared.accesses.questions.Question.{Question}
use Rattle.conflict_pairs.specs.declared.pairing.PlacePair.{PlacePair}
use Rattle.conflict_pairs.specs.declared.verdicts.Verdict.{Verdict}
use Rattle.conflict_pairs.specs.Alike.{IsJudgedAt, IsOnAsked}
use Rattle.conflict_pairs.specs.Interning.{IsServed}
use Rattle.conflict_pairs.specs.Pairing.{IsAskedBetween, question_at}
use Rattle.conflict_pairs.specs.Sharing.{IsOnPair}
use Rattle.conflict_pairs.proofs.Serving.{served-kept, served-within}
use Rattle.conflict_pairs.proofs.Zipped.{AllZip-more, AllZip-at}

-- what two things say of a value together
pub IfOk-both : {X E : Type 0} (r : Result X E) (P Q R : X → Type 0) → ((x : X) → P x → Q x → R x) → IfOk r P → IfOk r Q → IfOk r R
IfOk-both (Ok x) P Q R f p q = f x p q
IfOk-both (Err e) P Q R f p q = tt

-- ---- the verdict of one pair more

module _ (paths : List Path) (places : List Placed) where
  pub served-more : (pairs : List PlacePair) (old new : List Verdict) (ns ms : List ℕ) (k : ℕ) (d : PlacePair) (n : ℕ) → k < length pairs → ((j : ℕ) (v : Verdict) → slice_get old j ≡ Some v → slice_get new j ≡ Some v) → IsServed (IsOnPair paths places) new (get_or pairs k d) n → ms ≡ ns ++ n ∷ [] → AllZip (IsServed (IsOnPair paths places) old) (take k pairs) ns → AllZip (IsServed (IsOnPair paths places) new) (take (k + 1) pairs) ms
  served-more pairs old new ns ms k d n lt keeps here added h =
      AllZip-more (IsServed (IsOnPair paths places) new) pairs ns ms k d n lt added here
      (AllZip-weaken (IsServed (IsOnPair paths places) old) (IsServed (IsOnPair paths places) new) (served-kept (IsOnPair paths places) old new keeps) (take k pairs) ns h)

  -- what serves the question of a pair serves the pair
  pub on-pair : (pair : PlacePair) (q : Question) (vs ws : List Verdict) (n : ℕ) → q ≡ question_at places pair → vs ≡ ws → IsServed (IsJudgedAt paths) vs q n → IsServed (IsOnPair paths places) ws pair n
  on-pair pair q vs ws n is same h = record {
    value = h.value;
    at = ap (λ (l : List Verdict). slice_get l n) (sym same) ∙ h.at;
    serves = subst (λ (r : Question). IsJudgedAt paths r h.value) is h.serves;
  }

  -- a new verdict on a pair
  module _ (pair : PlacePair) (q : Question) (old new : List Verdict) (v : Verdict) (is : q ≡ question_at places pair) (judged : IsJudgedAt paths q v) (added : new ≡ old ++ v ∷ []) where
    pub new-sound : IsAskedBetween paths places pair → All (IsOnAsked paths) old → All (IsOnAsked paths) new
    new-sound asked h =
        let on = subst (λ (r : Question). IsJudgedAt paths r v) is judged in
        subst (λ (l : List Verdict). All (IsOnAsked paths) l) (sym added) (All-push (IsOnAsked paths) old v h (record { question = question_at places pair; asked = asked.asked; judged = on }))

    pub new-served : (n : ℕ) → n ≡ length old → IsServed (IsOnPair paths places) new pair n
    new-served n last = record {
      value = v;
      at =
          (λ i. slice_get (added i) (last i))
          ∙ slice_get-get_or (old ++ v ∷ []) (length old) v (let long = length-append old (v ∷ []) in omega (arith, long))
          ∙ ap Some (get_or_push old v v (length old) refl);
      serves = subst (λ (r : Question). IsJudgedAt paths r v) is judged;
    }

    pub new-keeps : (k : ℕ) (w : Verdict) → slice_get old k ≡ Some w → slice_get new k ≡ Some w
    new-keeps k w at = ap (λ (l : List Verdict). slice_get l k) added ∙ get_left old (v ∷ []) k w at

  -- the verdict of an earlier pair's number is one on its question
  pub kept-on : (pairs : List PlacePair) (ns : List ℕ) (vs : List Verdict) (k : ℕ) (d : PlacePair) (q : Question) (kept w : Verdict) → AllZip (IsServed (IsOnPair paths places) vs) pairs ns → k < length pairs → q ≡ question_at places (get_or pairs k d) → kept ≡ get_or vs (get_or ns k 0) w → IsJudgedAt paths q kept
  kept-on pairs ns vs k d q kept w h lt asked is =
      let here = AllZip-at (IsServed (IsOnPair paths places) vs) pairs ns k d 0 h lt in
      subst (λ (r : Question). IsJudgedAt paths r kept) (sym asked)
      (subst (λ (v : Verdict). IsJudgedAt paths (question_at places (get_or pairs k d)) v) (sym (is ∙ get_or_from_slice_get vs (get_or ns k 0) here.value w here.at)) here.serves)

  -- and there
  pub kept-there : (pairs : List PlacePair) (ns : List ℕ) (vs : List Verdict) (k : ℕ) → AllZip (IsServed (IsOnPair paths places) vs) pairs ns → k < length pairs → get_or ns k 0 < length vs
  kept-there pairs ns vs k h lt =
      let none : PlacePair = record { first = 0; second = 0 } in
      served-within (IsOnPair paths places) vs (get_or pairs k none) (get_or ns k 0) (AllZip-at (IsServed (IsOnPair paths places) vs) pairs ns k none 0 h lt)
