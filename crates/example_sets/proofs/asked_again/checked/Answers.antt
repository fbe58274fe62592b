use Rattle.std.proofs.Common.{◌≡◌, ap}
use Rattle.std.specs.Prelude.{Option, Result, Ok, Err}
use Rattle.prog_tree.specs.declared.program.Draft.{Draft}
use Rattle.prog_tree.specs.Tree.{draft_tree}
use Rattle.prog_check.specs.declared.fault.CheckFault.{CheckFault}
use Rattle.prog_check.specs.Faults.{first_fault}
use Rattle.prog_check.specs.Sets.{Finds}
use Rattle.example_sets.proofs.asked_again.checked.Goals as goal

-- what is found of a draft is found of its tree
finds_tree : (draft : Draft) (checked : Result Draft CheckFault) (fault : Option CheckFault) → Finds (λ set. set ≡ draft) checked fault → Finds (λ set. draft_tree set ≡ draft_tree draft) checked fault
finds_tree draft (Ok set) fault h = (h.0, ap draft_tree h.1)
finds_tree draft (Err found) fault h = h

pub returns-clause-found : goal.returns-clause-found
returns-clause-found c =
    let draft = c.in_ok-draft.draft in
    (draft_tree draft, c.in_ok-draft.ensures.found, finds_tree draft c.check.result (first_fault (draft_tree draft)) c.check.ensures.found)
