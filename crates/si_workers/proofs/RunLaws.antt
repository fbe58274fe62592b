-- What was told and settled gives what is promised of work.
use Rattle.std.proofs.Common.{◌≡◌, ◌<◌, ℕ, zero, suc, false, refl, sym, subst, ap, ◌∙◌, arith, inl, inr, List, [], ◌∷◌, length, map, zip, Option, Some, None, Result, Ok, Err, IfOk, IfErr, IfSome}
use Rattle.std.proofs.lemmas.List.{length-map}
use Rattle.std.proofs.lemmas.Option.{same_Some}
use Rattle.prog_tree.specs.declared.program.Draft.{Draft}
use Rattle.prog_tree.specs.Table.{TableState}
use Rattle.prog_tree.specs.Syntax.{DraftTree}
use Rattle.prog_tree.specs.Tree.{draft_tree}
use Rattle.prog_check.specs.Paths.{paths_of}
use Rattle.prog_paths.specs.StaticGraph.{IsDangerous}
use Rattle.history_book.specs.TrueBook.{IsTrueBook}
use Rattle.history_book.specs.View.{BookView}
use Rattle.si_workers.specs.Assigned.{Assigned, assigned}
use Rattle.si_workers.specs.KeptAndTold.{Tidings}
use Rattle.si_workers.specs.Outcomes.{Correspond, IsOver, OutcomesCorrespond, tidings_of}
use Rattle.si_workers.specs.Settled.{AreOutcomesIn, AreToldRight, AreToldWrong, IsConcluded, IsHandedOut, IsOrderOf, IsPutInOrder, IsSettled, lack_memory}
use Rattle.si_workers.specs.Work.{AreDone, AreTaken, IsNamed, IsTrueOver, IsWorkFault, jobs_by}
use Rattle.si_workers.specs.declared.fault.WorkFault.{WorkFault}
use Rattle.si_workers.specs.declared.fault.WorkFault.TheVariants.{Workers, TooManyJobs, NoThread, Broken, Memory}
use Rattle.job_list.specs.declared.job.Job.{Job}
use Rattle.job_list.specs.declared.job.JobOutcome.{JobOutcome}
use Rattle.si_workers.specs.declared.run.Finished.{Finished}
use Rattle.si_workers.specs.declared.run.Worked.{Worked}
use Rattle.job_worker.specs.declared.worker.Done.{Done}

-- a book over a set without a dangerous structure is over such a set
safe-over : (given : Assigned) (v : BookView) → IsOver given v → (IsDangerous (paths_of given.set) → ⊥) → IsDangerous (paths_of (draft_tree v.set)) → ⊥
safe-over given v over safe = subst (λ (t : DraftTree). IsDangerous (paths_of t) → ⊥) (sym over.same_set) safe

-- where some thread started all jobs were done
jobs-some : (n : ℕ) (jobs : List Job) → 0 < n → jobs_by n jobs ≡ jobs
jobs-some zero jobs some = absurd (omega arith)
jobs-some (suc n) jobs some = refl

-- pairs are their first parts beside their second ones
zip-parts : {X Y : Type 0} (ts : List (X × Y)) → ts ≡ zip (map (λ t. t.0) ts) (map (λ t. t.1) ts)
zip-parts [] = refl
zip-parts (t ∷ ts) = ap (λ l. t ∷ l) (zip-parts ts)

-- what is told of jobs, of each just one outcome, is these jobs beside these outcomes
told-together :
    (ts : Tidings) (jobs : List Job) (outcomes : List JobOutcome) → map (λ t. t.0) ts ≡ jobs → AreOutcomesIn ts outcomes →
    (length outcomes ≡ length jobs) × (ts ≡ tidings_of jobs outcomes)
told-together ts jobs outcomes of_jobs one_each = (
  sym (length-map outcomes (λ (o : JobOutcome). Some o)) ∙ ap (λ (l : List (Option JobOutcome)). length l) (sym one_each)
      ∙ length-map ts (λ (t : Job × Option JobOutcome). t.1) ∙ sym (length-map ts (λ (t : Job × Option JobOutcome). t.0))
      ∙ ap (λ (l : List Job). length l) of_jobs,
  zip-parts ts ∙ ap (λ (l : List Job). zip l (map (λ t. t.1) ts)) of_jobs ∙ ap (λ (l : List (Option JobOutcome)). zip jobs l) one_each,
)

module _ (given : Assigned) (jobs : List Job) (done : List Done) (v : BookView) where
  -- outcomes that the workers told are those of the jobs that were done
  outcomes-told : (outcomes : List JobOutcome) → AreToldRight given jobs done v outcomes → OutcomesCorrespond given (jobs_by (length done) jobs) outcomes v
  outcomes-told outcomes right =
      let together = told-together right.ts (jobs_by (length done) jobs) outcomes right.told.of_jobs right.one_each in
      (together.0, subst (λ (ts : Tidings). Correspond given ts v) together.1 right.correspond)

  -- likewise a job that is broken
  named-told : (job : ℕ) (outcome : Option JobOutcome) → AreToldWrong given jobs done v job outcome → IsNamed given (jobs_by (length done) jobs) job outcome v
  named-told job outcome wrong = record { ts = wrong.ts; of_jobs = wrong.told.of_jobs; broken = wrong.broken; its_outcome = wrong.its_outcome }

  -- outcomes that the workers told right settle their work, however it is concluded
  pub conclude-settled : (outcomes : List JobOutcome) (r : Result Worked WorkFault) → lack_memory done ≡ false → AreToldRight given jobs done v outcomes → IsConcluded given.workers (length done) outcomes v r → IsSettled given jobs done v r
  conclude-settled outcomes (Ok worked) lack right concluded =
      (lack, concluded.0, concluded.2, subst (AreToldRight given jobs done v) (sym concluded.1) right)
  conclude-settled outcomes (Err Workers) lack right concluded = absurd concluded
  conclude-settled outcomes (Err TooManyJobs) lack right concluded = absurd concluded
  conclude-settled outcomes (Err (NoThread started told book)) lack right concluded = (
    lack,
    concluded.1,
    subst (λ (n : ℕ). n < given.workers) (sym concluded.1) concluded.0,
    concluded.3,
    subst (AreToldRight given jobs done v) (sym concluded.2) right,
  )
  conclude-settled outcomes (Err (Broken job outcome book)) lack right concluded = absurd concluded
  conclude-settled outcomes (Err (Memory book)) lack right concluded = absurd concluded

  -- the jobs were done where work is settled well
  done-settled : (r : Result Worked WorkFault) → AreTaken given.workers jobs → IsTrueBook v → IsSettled given jobs done v r → IfOk r (λ worked. AreDone given jobs worked.outcomes worked.book)
  done-settled (Ok worked) taken holds settled =
      let some : 0 < given.workers = taken.number.0 in
      let all = jobs-some (length done) jobs (omega (arith, some, settled.1)) in
      let correspond = subst (λ (js : List Job). OutcomesCorrespond given js worked.outcomes v) all (outcomes-told worked.outcomes settled.3) in
      subst (AreDone given jobs worked.outcomes) (sym settled.2) (record { taken = taken; true_book = holds; correspond = correspond })
  done-settled (Err fault) taken holds settled = tt

  -- what is handed out where memory ran out
  handed-out : (book : Option BookView) → AreTaken given.workers jobs → IsTrueBook v → IsHandedOut given v book → IsWorkFault given jobs (Memory book)
  handed-out None taken holds out = (taken, tt)
  handed-out (Some book) taken holds (inl out) = (taken, subst (IsTrueOver given) (sym (same_Some book v out.1)) (holds, out.0))
  handed-out (Some book) taken holds (inr out) = absurd (cc)

  -- what is handed out where work is settled by a fault
  fault-settled : (r : Result Worked WorkFault) → AreTaken given.workers jobs → IsTrueBook v → IsSettled given jobs done v r → IfErr r (IsWorkFault given jobs)
  fault-settled (Ok worked) taken holds settled = tt
  fault-settled (Err Workers) taken holds settled = absurd settled
  fault-settled (Err TooManyJobs) taken holds settled = absurd settled
  fault-settled (Err (NoThread started outcomes book)) taken holds settled = (
    taken,
    subst IsTrueBook (sym settled.3) holds,
    settled.2,
    subst (λ (n : ℕ). OutcomesCorrespond given (jobs_by n jobs) outcomes book) (sym settled.1)
        (subst (λ (b : BookView). OutcomesCorrespond given (jobs_by (length done) jobs) outcomes b) (sym settled.3) (outcomes-told outcomes settled.4)),
  )
  fault-settled (Err (Broken job outcome book)) taken holds settled = (
    taken,
    subst IsTrueBook (sym settled.1) holds,
    length done,
    subst (IsNamed given (jobs_by (length done) jobs) job outcome) (sym settled.1) (named-told job outcome settled.2),
  )
  fault-settled (Err (Memory book)) taken holds settled = handed-out book taken holds settled

-- the same workers, over the same set and rows
pub same-given : (workers : ℕ) (set of : Draft) (kept opening : TableState) → set ≡ of → kept ≡ opening
    → assigned workers (draft_tree set) kept ≡ assigned workers (draft_tree of) opening
same-given workers set of kept opening same_set same_rows =
    ap (λ (s : Draft). assigned workers (draft_tree s) kept) same_set ∙ ap (λ (o : TableState). assigned workers (draft_tree of) o) same_rows

-- what is promised of work that was settled as it was given
pub promised :
    (kept given : Assigned) (jobs : List Job) (done : List Done) (v : BookView) (r : Result Worked WorkFault) →
    kept ≡ given → AreTaken given.workers jobs → IsTrueBook v → IsSettled kept jobs done v r →
    IfOk r (λ worked. AreDone given jobs worked.outcomes worked.book) × IfErr r (IsWorkFault given jobs)
promised kept given jobs done v r same taken holds as_kept =
    let settled = subst (λ (a : Assigned). IsSettled a jobs done v r) same as_kept in (
      done-settled given jobs done v r taken holds settled,
      fault-settled given jobs done v r taken holds settled,
    )

-- work that was done leaves a book over a set without a dangerous structure where it was given one
pub safe-work :
    (given : Assigned) (jobs : List Job) (r : Result Worked WorkFault) → (IsDangerous (paths_of given.set) → ⊥) →
    IfOk r (λ worked. AreDone given jobs worked.outcomes worked.book) →
    IfOk r (λ worked. IsDangerous (paths_of (draft_tree worked.book.set)) → ⊥)
safe-work given jobs (Ok worked) safe done = safe-over given worked.book done.correspond.1.over safe
safe-work given jobs (Err fault) safe done = tt

-- ---- work in the order of its commits

-- the order is that of the book that is handed out
pub ordered-order : (worked : Worked) (r : Result Finished WorkFault) → IsPutInOrder worked r → IfOk r (λ finished. IsOrderOf finished.book finished.order)
ordered-order worked (Ok finished) ordered = subst (λ (book : BookView). IsOrderOf book finished.order) (sym ordered.1) ordered.2
ordered-order worked (Err fault) ordered = tt

module _ (given : Assigned) (jobs : List Job) (worked : Worked) where
  -- jobs that were done are so with what is handed out
  pub ordered-done :
      (r : Result Finished WorkFault) → IsPutInOrder worked r → AreDone given jobs worked.outcomes worked.book →
      IfOk r (λ finished. AreDone given jobs finished.outcomes finished.book)
  ordered-done (Ok finished) ordered done =
      subst (λ (book : BookView). AreDone given jobs finished.outcomes book) (sym ordered.1)
      (subst (λ (outcomes : List JobOutcome). AreDone given jobs outcomes worked.book) (sym ordered.0) done)
  ordered-done (Err fault) ordered done = tt

  -- where memory ran out for the order, the book that is handed out is a true one
  pub ordered-fault :
      (r : Result Finished WorkFault) → IsPutInOrder worked r → AreDone given jobs worked.outcomes worked.book →
      IfErr r (IsWorkFault given jobs)
  ordered-fault (Ok finished) ordered done = tt
  ordered-fault (Err Workers) ordered done = absurd ordered
  ordered-fault (Err TooManyJobs) ordered done = absurd ordered
  ordered-fault (Err (NoThread started outcomes book)) ordered done = absurd ordered
  ordered-fault (Err (Broken job outcome book)) ordered done = absurd ordered
  ordered-fault (Err (Memory book)) ordered done =
      (done.taken, subst (λ (b : Option BookView). IfSome b (IsTrueOver given)) (sym ordered) (done.true_book, done.correspond.1.over))
