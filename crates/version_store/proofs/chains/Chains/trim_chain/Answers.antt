use Rattle.std.specs.Prelude.{IsSome}
use Rattle.prog_tree.specs.Table.{at_cell}
use Rattle.version_store.specs.StandsFor.{trimmed}
use Rattle.version_store.proofs.ChainsLaws.{made_found}
use Rattle.version_store.proofs.HoldLaws.{others_found, hold_left}
use Rattle.version_store.proofs.SizeLaws.{size_written}
use Rattle.version_store.proofs.chains.Chains.trim_chain.Goals as goal

pub returns-clause-chains : goal.returns-clause-chains
returns-clause-chains c =
    let m = c.self.inside.chains.entries in
    let cell = c.args.cell.now in
    let chain = c.trim-count.new.self in
    let written = λ (some : IsSome (at_cell m cell)). ((c.get_mut.follows.holds chain).3 some).0 in
    rw (← c.self.view_is)
    (made_found m (c.get_mut.follows.lender chain).entries cell (trimmed c.args.floor) c.in-Some.chain.now chain c.in-Some.ensures.value c.trim-count.ensures.chain written)

pub returns-clause-count : goal.returns-clause-count
returns-clause-count c =
    let chain = c.trim-count.new.self in
    rw (← c.self.view_is)
    (size_written c.self.inside.chains.entries (c.get_mut.follows.lender chain).entries c.args.cell.now c.in-Some.chain.now chain c.trim-count.result c.in-Some.ensures.value
    (c.get_mut.follows.holds chain).0 c.trim-count.ensures.count)

pub returns-clause-others : goal.returns-clause-others
returns-clause-others c =
    let m = c.self.inside.chains.entries in
    let chain = c.trim-count.new.self in
    let written = λ (some : IsSome (at_cell m c.args.cell.now)). ((c.get_mut.follows.holds chain).3 some).0 in
    rw (← c.self.view_is) (others_found m (c.get_mut.follows.lender chain).entries c.args.cell.now c.in-Some.chain.now chain c.in-Some.ensures.value written)

pub returns-clause-left : goal.returns-clause-left
returns-clause-left c = λ left.
    let m = c.self.inside.chains.entries in
    let chain = c.trim-count.new.self in
    let written = λ (some : IsSome (at_cell m c.args.cell.now)). ((c.get_mut.follows.holds chain).3 some).0 in
    rw (← c.self.view_is) (hold_left m (c.get_mut.follows.lender chain).entries c.args.cell.now c.in-Some.chain.now chain c.is_empty.result c.in-Some.ensures.value c.is_empty.ensures.1 left written)
