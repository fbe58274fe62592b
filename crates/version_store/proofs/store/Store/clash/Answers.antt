use Rattle.std.proofs.Common.{◌∙◌, arith}
use Rattle.version_store.specs.Reading.{number_at}
use Rattle.version_store.proofs.ClashLaws.{clash_found, none_behind}
use Rattle.version_store.proofs.StandsLaws.{last_seen}
use Rattle.version_store.proofs.store.Store.clash.Goals as goal

pub returns-then-start-self : goal.returns-then-start-self
returns-then-start-self c =
    rw (← c.self.view_is) (λ opening ws stands.
    let is_last = c.if-start-self.true ∙ stands.commits in
    none_behind ws c.args.start c.args.changes.now (omega (arith, is_last)))

pub returns : goal.returns
returns c =
    let above = rw (← c.self.view_is) at c.requires.above in
    rw (← c.self.view_is) (λ opening ws stands.
    clash_found ws c.args.start c.args.changes.now (number_at c.self.inside.chains) _ (last_seen _ opening ws stands c.args.start above) c.first_clash.ensures)
