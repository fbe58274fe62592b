use Rattle.std.proofs.Common.{List, [], take, refl, sym, subst}
use Rattle.prog_tree.specs.Tree.{draft_tree}
use Rattle.repair_laws.specs.declared.plan.NewTable.{NewTable}
use Rattle.repair_laws.specs.Materialised.{AreNewTables}
use Rattle.si_repair.proofs.NewTables.{none_met, met_next, met_all}
use Rattle.si_repair.proofs.repairs.materialise.new_tables.Goals as goal

pub loop-pair-init : goal.loop-pair-init
loop-pair-init c = subst (λ (l : List NewTable). AreNewTables (draft_tree c.args.set.now) [] l) (sym c.new-made.ensures.items) (none_met (draft_tree c.args.set.now))

pub loop-pair-preserved : goal.loop-pair-preserved
loop-pair-preserved c =
    let pairs = c.args.pairs.now in
    let n = c.loop-pair.pair-index in
    met_next (draft_tree c.args.set.now) pairs pairs n _ c.push_new_table.new.made.items refl c.loop-pair-test.true (c.in_ok-push_new_table.ensures (take n pairs) c.loop-pair.invariant)

pub returns : goal.returns
returns c =
    let pairs = c.args.pairs.now in
    met_all (draft_tree c.args.set.now) pairs pairs c.loop-pair.pair-index c.loop-pair.made.items refl c.loop-pair-test.false c.loop-pair.invariant
