use Rattle.std.proofs.Common.{List, All, sym, subst}
use Rattle.prog_tree.specs.declared.program.Program.{Program}
use Rattle.si_repair.specs.Behind.{HasFewStatements}
use Rattle.si_repair.proofs.Behind.{few_statements}
use Rattle.si_repair.proofs.repairs.behind.promoted_draft.Goals as goal

pub promoted_programs-requires : goal.promoted_programs-requires
promoted_programs-requires c = subst (λ (l : List Program). All HasFewStatements l) (sym c.deref-2.ensures.value) (few_statements c.args.draft.now c.requires)
