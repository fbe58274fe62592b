use Rattle.std.specs.Prelude.{IsSome}
use Rattle.prog_tree.specs.Table.{at_cell}
use Rattle.version_store.specs.Reading.{cut_from}
use Rattle.version_store.proofs.ChainsLaws.{made_found}
use Rattle.version_store.proofs.HoldLaws.{others_found, hold_left}
use Rattle.version_store.proofs.chains.Chains.cut_chain.Goals as goal

pub returns-clause-chains : goal.returns-clause-chains
returns-clause-chains c =
    let m = c.self.inside.chains.entries in
    let cell = c.args.cell.now in
    let chain = c.cut_from.new.self in
    let written = λ (some : IsSome (at_cell m cell)). ((c.get_mut.follows.holds chain).3 some).0 in
    rw (← c.self.view_is)
    (made_found m (c.get_mut.follows.lender chain).entries cell (cut_from c.args.number) c.in-Some.chain.now chain c.in-Some.ensures.value c.cut_from.ensures written)

pub returns-clause-others : goal.returns-clause-others
returns-clause-others c =
    let m = c.self.inside.chains.entries in
    let chain = c.cut_from.new.self in
    let written = λ (some : IsSome (at_cell m c.args.cell.now)). ((c.get_mut.follows.holds chain).3 some).0 in
    rw (← c.self.view_is) (others_found m (c.get_mut.follows.lender chain).entries c.args.cell.now c.in-Some.chain.now chain c.in-Some.ensures.value written)

pub returns-clause-left : goal.returns-clause-left
returns-clause-left c = λ left.
    let m = c.self.inside.chains.entries in
    let chain = c.cut_from.new.self in
    let written = λ (some : IsSome (at_cell m c.args.cell.now)). ((c.get_mut.follows.holds chain).3 some).0 in
    rw (← c.self.view_is) (hold_left m (c.get_mut.follows.lender chain).entries c.args.cell.now c.in-Some.chain.now chain c.is_empty.result c.in-Some.ensures.value c.is_empty.ensures.1 left written)
