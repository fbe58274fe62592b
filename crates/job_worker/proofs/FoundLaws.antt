-- What a worker's run has read is of the state that it knows.
use Rattle.std.proofs.Common.{◌≡◌, ◌∙◌, ℕ, List, cond, refl, ap, subst, sym}
use Rattle.std.specs.Prelude.{Option, Some, None, IsSome, slice_get}
use Rattle.std.proofs.lemmas.List.Elements.{filter_passes}
use Rattle.std.proofs.lemmas.List.Sums.{list_all-from_AllPass}
use Rattle.prog_tree.specs.declared.cell.Region.{Region}
use Rattle.prog_tree.specs.Table.{TableState, is_in, rows_in}
use Rattle.prog_run.specs.declared.fault.AnswerFault.TheVariants.{BadRows}
use Rattle.prog_run.specs.declared.next.Next.{Next}
use Rattle.prog_run.specs.Looks.{AreFound, IsFoundLast, last_look}
use Rattle.prog_run.specs.View.{RunView, asked_region, scan_fault}
use Rattle.job_worker.specs.KnownStates.{AreRowsOf, IsFoundIn, IsKnown}

-- a run that asks for a region takes rows of it
pub no_fault :
    (asked : Option Next) (region : Region) (rows : TableState) → asked_region asked ≡ Some region → AreRowsOf region rows →
    scan_fault (asked_region asked) rows ≡ None
no_fault asked region rows asks all =
    ap (λ (r : Option Region). scan_fault r rows) asks ∙ ap (λ b. cond b None (Some BadRows)) (list_all-from_AllPass (λ row. is_in region row.0) rows all)

-- of a run with a look the state is known
pub still-known :
    (states : List TableState) (start : ℕ) (run : RunView) (region : Region) (rows : TableState) → IsFoundIn states start run → IsFoundLast run.looks region (Some rows) →
    IsKnown states start
still-known states start run region rows is last = is.known (λ none. let never = sym (ap last_look none) ∙ last in absurd (cc))

-- the rows of the last look of a run are of its region
pub rows-of-last :
    (states : List TableState) (start : ℕ) (run : RunView) (region : Region) (rows : TableState) → IsFoundIn states start run → IsFoundLast run.looks region (Some rows) →
    ((m : TableState) → AreFound m run.looks → rows ≡ rows_in region m) → AreRowsOf region rows
rows-of-last states start run region rows is last held = go (slice_get states start) refl (still-known states start run region rows is last)
  where
    go : (o : Option TableState) → slice_get states start ≡ o → IsSome o → AreRowsOf region rows
    go None at known = absurd (cc)
    go (Some m) at known = subst (AreRowsOf region) (sym (held m (is.found m at))) (filter_passes (λ row. is_in region row.0) m)
