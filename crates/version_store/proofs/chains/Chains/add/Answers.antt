use Rattle.std.proofs.Common.{◌≡◌, ◌∙◌, ap, sym, subst, rules}
use Rattle.std.specs.Prelude.{Option, unwrap_or}
use Rattle.std.specs.BTreeMap.{BTreeMap}
use Rattle.std.specs.BTreeMap.Entry.{map_with_value}
use Rattle.prog_tree.specs.declared.cell.Cell.{Cell}
use Rattle.prog_tree.specs.Table.{at_cell}
use Rattle.version_store.specs.Reading.{chain_at, MakesAt, OthersHold}
use Rattle.version_store.specs.StandsFor.{VersionChain, EachHolds}
use Rattle.version_store.specs.Touches.{with_touch}
use Rattle.version_store.proofs.ChainsLaws.{made, same_chains}
use Rattle.version_store.proofs.HoldLaws.{hold_written, others_written, touch_holds}
use Rattle.version_store.proofs.chains.Chains.add.Goals as goal

pub returns-clause-ok : goal.returns-clause-ok
returns-clause-ok c =
    let m = c.self.inside.chains.entries in
    let entry = c.in_ok-entry.entry in
    let chain = c.add.new.self in
    let back : c.self-3-1.given.0 ≡ map_with_value entry chain = search rules in
    let had : c.or_insert-chain.result.now ≡ chain_at m c.args.cell =
    c.or_insert-chain.ensures.value
    ∙ (ap (λ (o : Option VersionChain). unwrap_or o c.new.result) c.in_ok-entry.ensures.value
    ∙ ap (unwrap_or (at_cell m c.args.cell)) c.new.ensures) in
    rw (← c.self.view_is)
    (subst (λ (after : BTreeMap Cell VersionChain). MakesAt c.args.cell (with_touch c.args.number c.args.touch) m after.entries) (sym back)
    (made m (map_with_value entry chain).entries c.args.cell (with_touch c.args.number c.args.touch) chain
    (c.in-Ok.ensures.ok ∙ ap (with_touch c.args.number c.args.touch) had) (c.in_ok-entry.ensures.update.0 chain).0))

pub returns-clause-hold : goal.returns-clause-hold
returns-clause-hold c =
    let entry = c.in_ok-entry.entry in
    let chain = c.add.new.self in
    let back : c.self-3-1.given.0 ≡ map_with_value entry chain = search rules in
    rw (← c.self.view_is)
    (subst (λ (after : BTreeMap Cell VersionChain). EachHolds c.self.inside.chains.entries → EachHolds after.entries) (sym back)
    (hold_written c.self.inside.chains.entries (map_with_value entry chain).entries c.args.cell chain
    (λ none. touch_holds c.args.number c.args.touch c.or_insert-chain.result.now (sym c.in-Ok.ensures.ok ∙ none)) (c.in_ok-entry.ensures.update.0 chain).0))

pub returns-in_default-clause-err : goal.returns-in_default-clause-err
returns-in_default-clause-err c =
    let m = c.self.inside.chains.entries in
    let entry = c.in_ok-entry.entry in
    let chain = c.add.new.self in
    let back : c.self-3-1.given.0 ≡ map_with_value entry chain = search rules in
    let n = (map_with_value entry chain).entries in
    let had : c.or_insert-chain.result.now ≡ chain_at m c.args.cell =
    c.or_insert-chain.ensures.value
    ∙ (ap (λ (o : Option VersionChain). unwrap_or o c.new.result) c.in_ok-entry.ensures.value
    ∙ ap (unwrap_or (at_cell m c.args.cell)) c.new.ensures) in
    let same = same_chains m n c.args.cell (made m n c.args.cell (λ x. x) chain (c.in_default.ensures.err ∙ had) (c.in_ok-entry.ensures.update.0 chain).0) in
    rw (← c.self.view_is) (λ cell. c.drop_if_empty.ensures.chains cell
    ∙ subst (λ (after : BTreeMap Cell VersionChain). chain_at after.entries cell ≡ chain_at m cell) (sym back) (same cell))

pub returns-in_default-clause-hold : goal.returns-in_default-clause-hold
returns-in_default-clause-hold c =
    let m = c.self.inside.chains.entries in
    let entry = c.in_ok-entry.entry in
    let chain = c.add.new.self in
    let back : c.self-3-1.given.0 ≡ map_with_value entry chain = search rules in
    rw (← c.self.view_is)
    (λ holds. c.drop_if_empty.ensures.hold
    (subst (λ (after : BTreeMap Cell VersionChain). OthersHold c.args.cell after.entries) (sym back)
    (others_written m (map_with_value entry chain).entries c.args.cell chain (c.in_ok-entry.ensures.update.0 chain).0 holds)))
