use Rattle.std.proofs.Common.{◌≡◌, ◌<◌, ◌^◌, refl, rules, List}
use Rattle.prog_tree.specs.ChangeSet.{ChangeSet}
use Rattle.prog_tree.specs.Table.{TableState}
use Rattle.version_store.specs.StandsFor.{StoreView, StandsFor}
use Rattle.version_store.specs.Versions.{reclaimed}
use Rattle.version_store.proofs.SoundLaws.{trim_rises, trim_below, trim_true}
use Rattle.version_store.proofs.StandsLaws.{stands-vacuum}
use Rattle.version_store.proofs.store.Store.vacuum.Goals as goal

pub returns : goal.returns
returns c =
    let s : StoreView = record {
      chains = c.self.inside.chains;
      commits = c.self.inside.commits;
      floor = c.self.inside.floor;
      versions = c.self.inside.versions;
      pending = c.self.inside.pending;
    } in
    let t : StoreView = record {
      chains = c.vacuum-count.new.self;
      commits = c.self.inside.commits;
      floor = c.args.floor;
      versions = c.saturating_sub-self-inside.result;
      pending = c.vacuum-count.new.pending;
    } in
    let rises = rw (← c.self.view_is) at c.requires.rises in
    let low = rw (← c.self.view_is) at c.requires.within in
    let fits : c.self.inside.versions < 2 ^ 64 = search rules in
    let done = c.vacuum-count.ensures in
    let both : (opening : TableState) (ws : List ChangeSet) → StandsFor s opening ws →
    StandsFor t opening ws × (c.vacuum-count.result ≡ reclaimed opening ws c.self.inside.floor c.args.floor) = λ opening ws stands.
    stands-vacuum s t opening ws c.args.floor c.vacuum-count.result stands rises low c.read_order.ensures c.read_order-2.ensures done.chains done.hold done.pending refl refl done.falls fits
    done.count c.saturating_sub-self-inside.ensures in
    rw (← c.self.view_is) (record {
      count = λ opening ws stands. (both opening ws stands).1;
      floor = refl;
      commits = refl;
      stands = λ opening ws stands. (both opening ws stands).0;
    })

pub invariant_of-self : goal.invariant_of-self
invariant_of-self c =
    let before = c.self.inside.chains in
    let after = c.vacuum-count.new.self in
    let trims = c.vacuum-count.ensures.each in
    let rises = rw (← c.self.view_is) at c.requires.rises in (
      trim_rises c.args.floor before after trims c.self.invariant.0,
      trim_below c.args.floor c.self.inside.commits before after trims c.self.invariant.1,
      c.limit.ensures.stays after c.args.floor (trim_true c.self.inside.floor c.args.floor before after c.self.inside.blocks rises trims c.self.invariant.2),
    )
