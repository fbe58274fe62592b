use Rattle.std.proofs.Common.{◌≡◌, ℕ, length, refl, subst, arith}
use Rattle.si_workers.specs.Assigned.{assigned_by}
use Rattle.si_workers.specs.Settled.{IsConcluded, IsWorkCompared}
use Rattle.si_workers.specs.declared.run.Compared.TheVariants.{Correspond}
use Rattle.si_workers.proofs.RunLaws.{conclude-settled}
use Rattle.si_workers.proofs.run.settle.Goals as goal
use Rattle.si_workers.proofs.run.settle.Goals.{In-Ok-Correspond}

-- what the comparison said
compared-right : (c : In-Ok-Correspond) → IsWorkCompared (assigned_by c.args.given) c.args.jobs.now c.args.done.items c.args.book (Correspond c.in-Ok-Correspond.outcomes)
compared-right c =
    subst (IsWorkCompared (assigned_by c.args.given) c.args.jobs.now c.args.done.items c.args.book) c.in-Ok-Correspond.field-0-is c.in-Ok-Correspond.ensures

pub returns-in-Ok-Correspond : goal.returns-in-Ok-Correspond
returns-in-Ok-Correspond c =
    let done = c.args.done.items in
    let v = c.args.book in
    let outcomes = c.in-Ok-Correspond.outcomes.items in
    let right = compared-right (goal.at.returns-in-Ok-Correspond c).In-Ok-Correspond in
    let started : c.len-started.result ≡ length done = omega (arith, c.len-started.ensures, c.args.done.ok.0) in
    conclude-settled (assigned_by c.args.given) c.args.jobs.now done v outcomes c.conclude.result right.enough
    (record { ts = right.ts; told = right.told; one_each = right.compared.1; correspond = right.compared.0 })
    (subst (λ (n : ℕ). IsConcluded c.args.given.workers n outcomes v c.conclude.result) started c.conclude.ensures)

pub returns-in-Ok-Broken : goal.returns-in-Ok-Broken
returns-in-Ok-Broken c =
    let wrong =
    subst (IsWorkCompared (assigned_by c.args.given) c.args.jobs.now c.args.done.items c.args.book) c.in-Ok-Broken.field-0-is c.in-Ok-Broken.ensures in
    (wrong.enough, refl, record { ts = wrong.ts; told = wrong.told; broken = wrong.compared.0; its_outcome = wrong.compared.1 })
