-- Laws of answers of rows that are refused.
use Rattle.std.proofs.Common.{◌≡◌, true, false, refl, ap, sym, subst, ◌∙◌}
use Rattle.std.specs.Prelude.{Bool, Option, Some, None, Result, Err, if◌then◌else◌}
use Rattle.std.specs.List.{list_all}
use Rattle.prog_tree.specs.Table.{TableState, is_in}
use Rattle.prog_tree.specs.declared.cell.Region.{Region}
use Rattle.prog_run.specs.View.{IsRefusedBy, scan_fault}
use Rattle.prog_run.specs.declared.fault.AnswerFault.{AnswerFault}
use Rattle.prog_run.specs.declared.fault.AnswerFault.TheVariants.{NotAsked, BadRows, Memory}

-- the rows of an answer never lack memory
no_memory : (waits : Option Region) (rows : TableState) → scan_fault waits rows ≡ Some Memory → scan_fault waits rows ≡ None
no_memory None rows is = let never : Some NotAsked ≡ Some Memory = is in absurd (cc)
no_memory (Some region) rows is = go (list_all (λ row. is_in region row.0) rows) is
  where
    go : (within : Bool) → (if within then None else Some BadRows) ≡ Some Memory → (if within then None else Some BadRows) ≡ None
    go true is = refl
    go false is = let never : Some BadRows ≡ Some Memory = is in absurd (cc)

-- an answer with which something is wrong is refused for that
pub fault_refuses : (X : Type 0) (waits : Option Region) (rows : TableState) (fault : AnswerFault) → scan_fault waits rows ≡ Some fault → IsRefusedBy {X = X} (scan_fault waits rows) (Err fault)
fault_refuses X waits rows NotAsked is = is
fault_refuses X waits rows BadRows is = is
fault_refuses X waits rows Memory is = no_memory waits rows is

-- an answer with which nothing is wrong is refused for want of memory
pub memory_refuses : {X : Type 0} (r : Result X AnswerFault) (e : AnswerFault) (fault : Option AnswerFault) → r ≡ Err e → e ≡ Memory → fault ≡ None → IsRefusedBy fault r
memory_refuses r e fault is memory none = subst (IsRefusedBy fault) (sym (is ∙ ap Err memory)) none
