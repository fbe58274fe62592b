-- Reports that come in one after another.
use Rattle.std.proofs.Common.{◌≡◌, ℕ, zero, suc, ◌≤◌, ◌==◌, Bool, true, false, cond, List, [], ◌∷◌, ◌++◌, length, map, refl, ap, sym, ◌∙◌, subst, arith}
use Rattle.std.specs.Prelude.{Option, Some, None, flat_map, slice_get, slice_set}
use Rattle.std.specs.Option.{option_map}
use Rattle.std.proofs.lemmas.Bool.Decides.{nat_tests}
use Rattle.std.proofs.lemmas.List.{append-nil, length-map}
use Rattle.std.proofs.lemmas.List.Concat.{flat_map-append}
use Rattle.std.proofs.lemmas.Option.{slice_get-map, slice_get_past, slice_get_within}
use Rattle.si_workers.specs.KeptAndTold.{Tidings}
use Rattle.si_workers.specs.Gathered.{outcome_in, with_one, with_all, AreToldMore}
use Rattle.si_workers.specs.Told.{outcomes_of, only, AreTold}
use Rattle.job_worker.specs.Work.{Report}
use Rattle.job_list.specs.declared.job.Job.{Job}
use Rattle.job_list.specs.declared.job.JobOutcome.{JobOutcome}
use Rattle.si_workers.specs.declared.told.ToldOfJob.{ToldOfJob}
use Rattle.job_worker.specs.declared.worker.Done.{Done}
use Rattle.si_workers.specs.declared.told.ToldOfJob.TheVariants.{Nothing, Often}
use Rattle.prog_tree.proofs.Elements.{get-set_other, get-set_same}

-- ---- one report after another

with-append : (os ps : List JobOutcome) (t : ToldOfJob) → with_all ps (with_all os t) ≡ with_all (os ++ ps) t
with-append [] ps t = refl
with-append (o ∷ os) ps t = with-append os ps (with_one t o)

both : (os ps : List JobOutcome) (x : Option ToldOfJob) → option_map (with_all ps) (option_map (with_all os) x) ≡ option_map (with_all (os ++ ps)) x
both os ps None = refl
both os ps (Some t) = ap Some (with-append os ps t)

as-before : (x : Option ToldOfJob) → x ≡ option_map (with_all []) x
as-before None = refl
as-before (Some t) = refl

pub told-none : (ts : List ToldOfJob) → AreToldMore ts ts []
told-none ts k = as-before (slice_get ts k)

-- the reports of one list, and those of another behind it
pub told-both :
    (first next last : List ToldOfJob) (rs ss : List Report) → AreToldMore first next rs → AreToldMore next last ss → AreToldMore first last (rs ++ ss)
told-both first next last rs ss one two k =
    let os = outcomes_of k rs in
    let ps = outcomes_of k ss in
    let split : outcomes_of k (rs ++ ss) ≡ os ++ ps = flat_map-append _ rs ss in
    two k
    ∙ ap (option_map (with_all ps)) (one k)
    ∙ both os ps (slice_get first k)
    ∙ sym (ap (λ (qs : List JobOutcome). option_map (with_all qs) (slice_get first k)) split)

abbrev reports_in : Done → List Report
reports_in one = one.reports.items

-- the reports of one worker more
pub told-worker :
    (first next last : List ToldOfJob) (done : List Done) (one : Done) → AreToldMore first next (flat_map reports_in done) → AreToldMore next last one.reports.items →
    AreToldMore first last (flat_map reports_in (done ++ one ∷ []))
told-worker first next last done one before more =
    let is : flat_map reports_in (done ++ one ∷ []) ≡ flat_map reports_in done ++ one.reports.items =
    flat_map-append reports_in done (one ∷ []) ∙ ap (λ (rs : List Report). flat_map reports_in done ++ rs) (append-nil (reports_in one)) in
    subst (AreToldMore first last) (sym is) (told-both first next last (flat_map reports_in done) one.reports.items before more)

-- a report of no job changes nothing
pub told-past : (ts : List ToldOfJob) (j : ℕ) (o : JobOutcome) → length ts ≤ j → AreToldMore ts ts ((j, o) ∷ [])
told-past ts j o past k = go (j == k) refl
  where
    go : (b : Bool) → (j == k) ≡ b → slice_get ts k ≡ option_map (with_all (cond b (o ∷ []) [] ++ [])) (slice_get ts k)
    go false is = as-before (slice_get ts k)
    go true is =
        let same : j ≡ k = grind (arith, nat_tests) in
        let none : slice_get ts k ≡ None = slice_get_past ts k (omega (arith, past, same)) in
        none ∙ sym (ap (option_map (with_all (o ∷ []))) none)

-- a report of a job is told of it
pub told-one :
    (before after : List ToldOfJob) (j : ℕ) (t : ToldOfJob) (o : JobOutcome) → slice_get before j ≡ Some t → after ≡ slice_set before j (with_one t o) →
    AreToldMore before after ((j, o) ∷ [])
told-one before after j t o found is k = go (j == k) refl
  where
    go : (b : Bool) → (j == k) ≡ b → slice_get after k ≡ option_map (with_all (cond b (o ∷ []) [] ++ [])) (slice_get before k)
    go false differ =
        let other : j ≡ k → ⊥ = λ (e : j ≡ k). grind (arith, nat_tests) in
        ap (λ (ts : List ToldOfJob). slice_get ts k) is ∙ get-set_other before j k (with_one t o) (λ (e : k ≡ j). other (sym e)) ∙ as-before (slice_get before k)
    go true equal =
        let same : j ≡ k = grind (arith, nat_tests) in
        let v = with_one t o in
        let at : slice_get before k ≡ Some t = sym (ap (slice_get before) same) ∙ found in
        let now : slice_get after k ≡ Some v =
        ap (λ (ts : List ToldOfJob). slice_get ts k) is ∙ sym (ap (slice_get (slice_set before j v)) same) ∙ get-set_same before j v (slice_get_within before j t found) in
        now ∙ sym (ap (option_map (with_all (o ∷ []))) at)

-- ---- what is kept in the end

often-stays : (os : List JobOutcome) → with_all os Often ≡ Often
often-stays [] = refl
often-stays (o ∷ os) = often-stays os

kept-is : (os : List JobOutcome) → outcome_in (with_all os Nothing) ≡ only os
kept-is [] = refl
kept-is (o ∷ []) = refl
kept-is (o ∷ p ∷ os) = ap outcome_in (often-stays os)

abbrev nothing : Job → ToldOfJob
nothing job = Nothing

same-length : (f : ℕ → List JobOutcome) (before after : List ToldOfJob) → ((k : ℕ) → slice_get after k ≡ option_map (with_all (f k)) (slice_get before k)) → length before ≡ length after
same-length f [] [] more = refl
same-length f [] (a ∷ later) more = let is : Some a ≡ None = more zero in absurd (cc)
same-length f (b ∷ bs) [] more = let is : None ≡ Some (with_all (f zero) b) = more zero in absurd (cc)
same-length f (b ∷ bs) (a ∷ later) more = ap suc (same-length (λ k. f (suc k)) bs later (λ k. more (suc k)))

-- something is kept of each job
pub told-long : (jobs : List Job) (told : List ToldOfJob) (reports : List Report) → AreToldMore (map nothing jobs) told reports → length jobs ≡ length told
told-long jobs told reports more =
    sym (length-map jobs nothing) ∙ same-length (λ k. outcomes_of k reports) (map nothing jobs) told more

-- jobs with what the reports tell of each
pub told-of :
    (jobs : List Job) (told : List ToldOfJob) (reports : List Report) (ts : Tidings) → AreToldMore (map nothing jobs) told reports →
    map (λ t. t.0) ts ≡ jobs → map (λ t. t.1) ts ≡ map outcome_in told → AreTold jobs reports ts
told-of jobs told reports ts more of_jobs of_told = record { of_jobs = of_jobs; each = each }
  where
    each : (k : ℕ) (t : Job × Option JobOutcome) → slice_get ts k ≡ Some t → t.1 ≡ only (outcomes_of k reports)
    each k t at =
        let os = outcomes_of k reports in
        let is : Some t.1 ≡ option_map outcome_in (option_map (with_all os) (option_map nothing (slice_get jobs k))) =
        sym (ap (option_map (λ (u : Job × Option JobOutcome). u.1)) at)
        ∙ sym (slice_get-map (λ (u : Job × Option JobOutcome). u.1) ts k)
        ∙ ap (λ (xs : List (Option JobOutcome)). slice_get xs k) of_told
        ∙ slice_get-map outcome_in told k
        ∙ ap (option_map outcome_in) (more k)
        ∙ ap (λ (x : Option ToldOfJob). option_map outcome_in (option_map (with_all os) x)) (slice_get-map nothing jobs k) in
        go (slice_get jobs k) is ∙ kept-is os
      where
        go : (x : Option Job) → Some t.1 ≡ option_map outcome_in (option_map (with_all (outcomes_of k reports)) (option_map nothing x)) →
            t.1 ≡ outcome_in (with_all (outcomes_of k reports) Nothing)
        go None is = absurd (cc)
        go (Some job) is = cc
