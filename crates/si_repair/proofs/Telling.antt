-- What is told of the questions that some accesses ask, and of all.
use Rattle.std.proofs.Common.{◌≡◌, ℕ, ◌<◌, List, [], ◌∷◌, ◌++◌, get_or, length, refl, sym, subst, ◌∙◌, arith, zero, suc}
use Rattle.std.proofs.lemmas.List.{map-append}
use Rattle.std.proofs.lemmas.List.Elements.{All-append, All-nil}
use Rattle.std.proofs.lemmas.Grind.{flat_map-append}
use Rattle.std.specs.Prelude.{All}
use Rattle.prog_check.specs.declared.path.Path.{Path}
use Rattle.prog_paths.specs.declared.accesses.places.Placed.{Placed}
use Rattle.prog_paths.specs.declared.accesses.questions.Question.{Question}
use Rattle.prog_paths.specs.Questions.{asked_among, questions_of}
use Rattle.prog_paths.proofs.Questions.{asked_among-append}
use Rattle.conflict_pairs.specs.Listed.{AreJudged}
use Rattle.conflict_pairs.specs.Table.{IsOnQuestion, Judged, StandsFor, Table}
use Rattle.conflict_pairs.proofs.Numbered.{StandsFor-from, judged-append, judged-none}
use Rattle.robust_cert.specs.declared.entries.Reason.{Reason}
use Rattle.robust_cert.specs.declared.entries.Told.{Told}
use Rattle.robust_cert.specs.Sharing.{HasReason, entry_told}
use Rattle.si_repair.specs.declared.entries.ToldPart.{ToldPart}
use Rattle.si_repair.specs.Certificates.{IsToldOf, told_by}
use Rattle.si_repair.specs.Telling.{firsts_in}
use Rattle.rayon.proofs.ListFacts.{All-parts}

module _ (paths : List Path) (rs : List Reason) where
  -- ---- of two parts

  pub told-none : IsToldOf paths rs [] []
  told-none = record { judged = []; are = judged-none paths; is = refl; within = All-nil (HasReason rs) }

  told-append : (qs ps : List Question) (ts us : List Told) → IsToldOf paths rs qs ts → IsToldOf paths rs ps us → IsToldOf paths rs (qs ++ ps) (ts ++ us)
  told-append qs ps ts us h k = record {
    judged = h.judged ++ k.judged;
    are = judged-append paths h.judged k.judged qs ps h.are k.are;
    is = map-append (entry_told rs) ts us ∙ (λ i. h.is i ++ k.is i) ∙ sym (flat_map-append (λ (e : Judged). told_by e.question e.verdict) h.judged k.judged);
    within = All-append (HasReason rs) ts us h.within k.within;
  }

  -- ---- one part more

  -- what a part tells, behind what those before it tell
  pub told-more : (places firsts more : List Placed) (ts us : List Told) → IsToldOf paths rs (asked_among firsts places) ts → IsToldOf paths rs (asked_among more places) us → IsToldOf paths rs (asked_among (firsts ++ more) places) (ts ++ us)
  told-more places firsts more ts us h k =
      subst (λ (qs : List Question). IsToldOf paths rs qs (ts ++ us)) (sym (asked_among-append firsts more places))
      (told-append (asked_among firsts places) (asked_among more places) ts us h k)

-- ---- a table of what is told

abbrev pub told_table : List Path → List Judged → Table
told_table paths judged = record { paths = paths; verdicts = []; entries = judged }

pub told-stands : (paths : List Path) (judged : List Judged) → AreJudged paths judged (questions_of paths) → StandsFor (told_table paths judged) paths
told-stands paths judged are = StandsFor-from paths [] (All-nil (IsOnQuestion paths)) (told_table paths judged) are refl refl

-- ---- the accesses of parts

-- what holds of the accesses of all parts holds of those of one
pub firsts-of : (P : Placed → Type 0) (parts : List ToldPart) (i : ℕ) (d : ToldPart) → i < length parts → All P (firsts_in parts) → All P (get_or parts i d).firsts.now
firsts-of P [] i d lt h = absurd (omega (arith, lt))
firsts-of P (p ∷ parts) zero d lt h = (All-parts P p.firsts.now (firsts_in parts) h).0
firsts-of P (p ∷ parts) (suc i) d lt h = firsts-of P parts i d (omega (arith, lt)) (All-parts P p.firsts.now (firsts_in parts) h).1

-- parts with the same accesses have the same together
pub same_firsts : (before after : List ToldPart) → length before ≡ length after → ((k : ℕ) (d : ToldPart) → k < length after → (get_or after k d).firsts.now ≡ (get_or before k d).firsts.now) → firsts_in after ≡ firsts_in before
same_firsts [] [] same h = refl
same_firsts [] (a ∷ after) same h = absurd (omega (arith, same))
same_firsts (b ∷ before) [] same h = absurd (omega (arith, same))
same_firsts (b ∷ before) (a ∷ after) same h =
    (λ i. h 0 a (omega arith) i ++ same_firsts before after (omega (arith, same)) (λ k d lt. h (suc k) d (omega (arith, lt))) i)
