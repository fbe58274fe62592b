use Rattle.std.proofs.Common.{◌∙◌, ap, arith, sym}
use Rattle.prog_check.specs.declared.path.Path.{Path}
use Rattle.si_repair.proofs.Searching.{of_program_at, program_at, nodes-pushed, nodes-passed, nodes-all}
use Rattle.si_repair.proofs.plans.nodes.nodes_of.Goals as goal
use Rattle.si_repair.proofs.plans.nodes.nodes_of.Goals.{then-path-program+in_ok-push, else-path-program}

pub loop-x-preserved : goal.loop-x-preserved
loop-x-preserved c =
    let nodes = c.args.paths.now in
    let x = c.loop-x.x in
    let path = c.index-paths-x.result in
    let here = ap (λ (p : Path). p.program) c.index-paths-x.is in
    elim c.if-path-program.branch [
      | then-path-program+in_ok-push w ↦ rw (w.nodes-is, w.in_ok-push.ensures.items) (nodes-pushed nodes c.args.program x c.loop-x.nodes.items c.loop-x.invariant (of_program_at nodes x path c.args.program (omega arith) (sym here ∙ w.if-path-program.true)))
      | else-path-program w ↦ rw w.nodes-is (nodes-passed nodes c.args.program x c.loop-x.nodes.items c.loop-x.invariant (λ h. w.if-path-program.false (here ∙ program_at nodes x path c.args.program h)))
    ]

pub returns : goal.returns
returns c = nodes-all c.args.paths.now c.args.program c.loop-x.x c.loop-x.nodes.items (omega arith) c.loop-x.invariant
