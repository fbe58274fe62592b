-- The tails of reasons, one for each.
use Rattle.std.proofs.Common.{◌≡◌, ℕ, ◌<◌, ◌+◌, List, [], ◌∷◌, ◌++◌, length, map, take, get_or, String, string_bytes, sym, subst, ap, ◌∙◌}
use Rattle.std.specs.Prelude.{All}
use Rattle.std.specs.declared.alloc.Global.{Global}
use Rattle.std.proofs.lemmas.List.{take_more, length-map, map-append, get_or-map}
use Rattle.std.proofs.lemmas.List.Elements.{All-push}
use Rattle.robust_cert.specs.declared.entries.Reason.{Reason}
use Rattle.robust_cert.specs.declared.entries.Reason.TheVariants.{Apart}
use Rattle.robust_cert.specs.Json.{ReasonFits}
use Rattle.robust_cert.specs.Parts.{tail_text, AreTailsOf}
use Rattle.robust_cert.specs.Sharing.{reason_at}

-- one tail more
pub tails-more : (rs : List Reason) (i : ℕ) (r : Reason) (old new : List (String Global)) (tail : String Global) → i < length rs → r ≡ get_or rs i r → AreTailsOf (take i rs) old → new ≡ old ++ tail ∷ [] → string_bytes tail ≡ tail_text r → ReasonFits r → AreTailsOf (take (i + 1) rs) new
tails-more rs i r old new tail lt here h is text fits =
    let more : take (i + 1) rs ≡ take i rs ++ r ∷ [] = take_more rs i r lt ∙ ap (λ (x : Reason). take i rs ++ x ∷ []) (sym here) in
    record {
      texts = ap (map (λ (t : String Global). string_bytes t)) is ∙ map-append (λ (t : String Global). string_bytes t) old (tail ∷ [])
          ∙ ap (λ (l : List (List ℕ)). l ++ string_bytes tail ∷ []) h.texts ∙ ap (λ (b : List ℕ). map tail_text (take i rs) ++ b ∷ []) text
          ∙ sym (map-append tail_text (take i rs) (r ∷ [])) ∙ ap (map tail_text) (sym more);
      fit = subst (All ReasonFits) (sym more) (All-push ReasonFits (take i rs) r h.fit fits);
    }

module _ (rs : List Reason) (tails : List (String Global)) (h : AreTailsOf rs tails) (n : ℕ) (within : n < length rs) where
  pub tail-within : n < length tails
  tail-within = subst (λ (k : ℕ). n < k) (sym (length-map rs tail_text) ∙ ap length (sym h.texts) ∙ length-map tails (λ (t : String Global). string_bytes t)) within

  pub tail-text : (t : String Global) → string_bytes (get_or tails n t) ≡ tail_text (reason_at rs n)
  tail-text t =
      sym (get_or-map (λ (t : String Global). string_bytes t) tails n t [] tail-within)
      ∙ ap (λ (l : List (List ℕ)). get_or l n []) h.texts
      ∙ get_or-map tail_text rs n (Apart []) [] within

  pub tail-fits : ReasonFits (reason_at rs n)
  tail-fits = h.fit n (Apart []) within
