use Rattle.std.proofs.Common.{sym, ◌∙◌, arith}
use Rattle.std.proofs.lemmas.Bool.{both_ways}
use Rattle.si_repair.specs.declared.plans.closing.ProgramTriple.{ProgramTriple}
use Rattle.si_repair.proofs.Closings.{without-kept, without-dropped, without-all}
use Rattle.si_repair.proofs.plans.open.triples_without.Goals as goal
use Rattle.si_repair.proofs.plans.open.triples_without.Goals.{then-not-is_same+then-not-is_same-2+in_ok-push, else-not-is_same, else-not-is_same-via-then-not-is_same+else-not-is_same-2, else-not-is_same-via-else-not-is_same}

nothing : ProgramTriple
nothing = record { first = 0; second = 0; third = 0 }

pub loop-triple-preserved : goal.loop-triple-preserved
unfolding nothing
loop-triple-preserved c =
    let xs = c.args.triples.now in
    let i = c.loop-triple.triple-index in
    elim c.if-not-is_same.branch [
      | then-not-is_same+then-not-is_same-2+in_ok-push w ↦ rw (w.left-is, w.in_ok-push.ensures.items) (without-kept xs i nothing (omega arith) c.args.pair c.loop-triple.left.items c.loop-triple.invariant (
        λ e. both_ways c.is_same.result w.if-not-is_same.true (c.is_same.ensures.1 (c.first_pair.ensures ∙ e)),
        λ e. both_ways w.is_same-then-not-is_same.result w.if-not-is_same-2.true (w.is_same-then-not-is_same.ensures.1 (w.second_pair.ensures ∙ e)),
      ))
      | else-not-is_same w ↦ rw w.left-is (without-dropped xs i nothing (omega arith) c.args.pair c.loop-triple.left.items c.loop-triple.invariant (λ lacks. elim w.else-not-is_same.branch [
        | else-not-is_same-via-then-not-is_same+else-not-is_same-2 v ↦ lacks.1 (sym v.second_pair.ensures ∙ v.is_same-then-not-is_same.ensures.0 v.if-not-is_same-2.false)
        | else-not-is_same-via-else-not-is_same v ↦ lacks.0 (sym c.first_pair.ensures ∙ c.is_same.ensures.0 v.if-not-is_same.false)
      ]))
    ]

pub returns : goal.returns
returns c = without-all c.args.triples.now c.args.pair c.loop-triple.left.items c.loop-triple.triple-index (omega arith) c.loop-triple.invariant
