-- Which statements are marked for the pairs of a plan.
use Rattle.std.proofs.Common.{◌≡◌, ◌↔◌, ℕ, ◌<◌, ◌⊎◌, inl, inr, Bool, true, false, ◌||◌, ◌==◌, List, [], ◌∷◌, ◌++◌, Contains, sym, ap, subst, ◌∙◌, arith}
use Rattle.std.specs.List.{list_any}
use Rattle.std.proofs.lemmas.Bool.{false≢true, eqb-true, eq-eqb, and_parts, and_from, or_cases, or_left, or_right}
use Rattle.std.proofs.lemmas.Bool.Decides.{same_from_decides}
use Rattle.std.proofs.lemmas.List.Folds.{Any-from_list_any, list_any-from_Any}
use Rattle.std.proofs.lemmas.List.Elements.{Contains-push_cases, Contains-append_left, Contains-push}
use Rattle.prog_check.specs.declared.path.Access.{Access}
use Rattle.prog_check.specs.declared.path.Path.{Path}
use Rattle.prog_paths.specs.StaticGraph.{IsAccessOf, QuestionNumbers}
use Rattle.prog_paths.specs.Questions.{numbers_of}
use Rattle.prog_paths.specs.declared.accesses.questions.Question.{Question}
use Rattle.repair_laws.specs.declared.plan.Pair.{Pair}
use Rattle.repair_laws.specs.Keys.{ExposedOf}
use Rattle.repair_laws.specs.Promoted.{IsExposedAt, MarksExposed}
use Rattle.si_repair.specs.Exposed.{AreExposed}
use Rattle.si_repair.specs.Marks.{place_in, access_on, place_of, reads_at}

-- ---- the statement of a question

-- an access that is there has its statement's number
pub place-is : (nodes : List Path) (q : Question) (access : Access) → IsAccessOf nodes q.x q.a access → place_of nodes q ≡ access.place
place-is nodes q access h = ap (λ o. place_in (access_on o q.a)) h.1 ∙ ap place_in h.2

-- the access of an exposed question is there
exposed-access : (nodes : List Path) (pair : Pair) (q : Question) (e : ExposedOf nodes pair) → e.question.question ≡ numbers_of q → IsAccessOf nodes q.x q.a e.question.mine
exposed-access nodes pair q e same = subst (λ (n : QuestionNumbers). IsAccessOf nodes n.x n.a e.question.mine) same e.question.asked.at_mine

-- ---- the statements of a pair's exposed reads

-- the statement of this number in this program has a read that is exposed to the second program of the pair
abbrev pub HasExposedRead : List Path → Pair → (program number : ℕ) → Type 0
HasExposedRead nodes pair program number =
    (pair.from ≡ program) × (e : ExposedOf nodes pair) × (e.question.mine.place ≡ number)

-- the new marks are the old ones, and the statements with an exposed read of the pair
abbrev pub AddsReads : List Path → Pair → (old new : ℕ → ℕ → Bool) → Type 0
AddsReads nodes pair old new =
    (program number : ℕ)
    → (new program number ≡ true) ↔ ((old program number ≡ true) ⊎ HasExposedRead nodes pair program number)

module _ (nodes : List Path) (pair : Pair) (questions : List Question) (exposed : AreExposed nodes pair questions) (program number : ℕ) where
  read-exposed : list_any (reads_at nodes pair program number) questions ≡ true → HasExposedRead nodes pair program number
  read-exposed h =
      let any = Any-from_list_any (reads_at nodes pair program number) questions h in
      let q = any.1 in
      let parts = and_parts (pair.from == program) (place_of nodes q == number) any.4 in
      let e = exposed.only q (any.0, any.2, any.3) in
      (eqb-true pair.from program parts.0, e.0, sym (place-is nodes q e.0.question.mine (exposed-access nodes pair q e.0 e.1)) ∙ eqb-true (place_of nodes q) number parts.1)

  exposed-read : HasExposedRead nodes pair program number → list_any (reads_at nodes pair program number) questions ≡ true
  exposed-read h =
      let found = exposed.each h.1 in
      let q = found.0 in
      let at = found.1 in
      let place : place_of nodes q ≡ number = place-is nodes q h.1.question.mine (exposed-access nodes pair q h.1 found.2) ∙ h.2 in
      list_any-from_Any (reads_at nodes pair program number) questions
      (at.0, q, at.1, at.2, and_from (pair.from == program) (place_of nodes q == number) (eq-eqb pair.from program h.0) (eq-eqb (place_of nodes q) number place))

-- marks that are the old ones and those of each question add the reads of the pair
pub adds-reads : (nodes : List Path) (pair : Pair) (questions : List Question) (old new : ℕ → ℕ → Bool) → AreExposed nodes pair questions
    → ((program number : ℕ) → new program number ≡ (old program number || list_any (reads_at nodes pair program number) questions))
    → AddsReads nodes pair old new
adds-reads nodes pair questions old new exposed is program number = (to, from)
  where
    to : new program number ≡ true → (old program number ≡ true) ⊎ HasExposedRead nodes pair program number
    to e = go (or_cases (old program number) (list_any (reads_at nodes pair program number) questions) (sym (is program number) ∙ e))
      where
        go : (old program number ≡ true) ⊎ (list_any (reads_at nodes pair program number) questions ≡ true) → (old program number ≡ true) ⊎ HasExposedRead nodes pair program number
        go (inl o) = inl o
        go (inr r) = inr (read-exposed nodes pair questions exposed program number r)

    from : (old program number ≡ true) ⊎ HasExposedRead nodes pair program number → new program number ≡ true
    from (inl o) = is program number ∙ or_left (old program number) (list_any (reads_at nodes pair program number) questions) o
    from (inr h) = is program number ∙ or_right (old program number) (list_any (reads_at nodes pair program number) questions) (exposed-read nodes pair questions exposed program number h)

-- ---- the statements of a plan

pub marks-none : (nodes : List Path) → MarksExposed nodes [] (λ program number. false)
marks-none nodes program number = (λ e. absurd (false≢true e), λ h. absurd (nothing h.1.1))
  where
    nothing : {n : ℕ} → n < 0 → ⊥
    nothing l = omega (arith, l)

-- the marks of one pair more
pub marks-more : (nodes : List Path) (plan : List Pair) (pair : Pair) (old new : ℕ → ℕ → Bool) → MarksExposed nodes plan old → AddsReads nodes pair old new → MarksExposed nodes (plan ++ pair ∷ []) new
marks-more nodes plan pair old new marks adds program number = (to, from)
  where
    here : HasExposedRead nodes pair program number → IsExposedAt nodes (plan ++ pair ∷ []) program number
    here h = (pair, Contains-push plan pair, h.0, h.1, h.2)

    before : IsExposedAt nodes plan program number → IsExposedAt nodes (plan ++ pair ∷ []) program number
    before h = (h.0, Contains-append_left plan (pair ∷ []) h.0 h.1, h.2, h.3, h.4)

    to : new program number ≡ true → IsExposedAt nodes (plan ++ pair ∷ []) program number
    to e = go ((adds program number).0 e)
      where
        go : (old program number ≡ true) ⊎ HasExposedRead nodes pair program number → IsExposedAt nodes (plan ++ pair ∷ []) program number
        go (inl o) = before ((marks program number).0 o)
        go (inr h) = here h

    from : IsExposedAt nodes (plan ++ pair ∷ []) program number → new program number ≡ true
    from h = go (Contains-push_cases plan pair h.0 h.1)
      where
        go : Contains plan h.0 ⊎ (pair ≡ h.0) → new program number ≡ true
        go (inl k) = (adds program number).1 (inl ((marks program number).1 (h.0, k, h.2, h.3, h.4)))
        go (inr e) = (adds program number).1 (inr (subst (λ (p : Pair). HasExposedRead nodes p program number) (sym e) (h.2, h.3, h.4)))

-- a plan marks the same statements, whoever marks them
pub marks-same : (nodes : List Path) (plan : List Pair) (a b : ℕ → ℕ → Bool) → MarksExposed nodes plan a → MarksExposed nodes plan b → a ≡ b
marks-same nodes plan a b h k = λ i program number. same_from_decides (a program number) (b program number) (h program number) (k program number) i
