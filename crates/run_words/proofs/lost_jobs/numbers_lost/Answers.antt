use Rattle.std.proofs.Common.{◌∙◌, ◌++◌, [], ◌∷◌, List, ℕ, ap, cond, slice_get, sym}
use Rattle.run_words.specs.LostJobs.{is_lost_by}
use Rattle.run_words.proofs.LostLines.{filter-more}
use Rattle.run_words.proofs.lost_jobs.numbers_lost.Goals as goal

pub loop-number-preserved : goal.loop-number-preserved
loop-number-preserved c =
    let number = c.loop-number.number in
    let is_so = λ (n : ℕ). is_lost_by c.args.way (slice_get c.args.outcomes.now n) in
    rw c.is_lost_by-is_lost.ensures at c.in_ok-push_if.ensures
    ∙ ap (λ (front : List ℕ). front ++ cond (is_so number) (number ∷ []) []) c.loop-number.invariant
    ∙ sym (filter-more is_so number)
