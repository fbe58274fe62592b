use Rattle.std.proofs.Common.{◌≡◌, ◌∙◌, ◌+◌, take, length, refl, ap}
use Rattle.version_store.proofs.StandsLaws.{stands-push, stands-kept}
use Rattle.version_store.proofs.EndLaws.{true_behind}
use Rattle.version_store.proofs.SoundLaws.{committed_rise, committed_below}
use Rattle.version_store.proofs.store.Store.install.Goals as goal

pub returns-in_default-add_commit-clause-err_stands : goal.returns-in_default-add_commit-clause-err_stands
returns-in_default-add_commit-clause-err_stands c =
    let pending = c.truncate.ensures ∙ ap (λ n. take n c.add.new.self) c.len-before.ensures ∙ c.add.ensures.first in
    rw (← c.self.view_is) (λ opening ws stands. stands-kept _ _ opening ws stands c.in_default-add_commit.ensures.err c.add_commit.ensures.hold pending refl refl refl)

pub returns-clause-stands : goal.returns-clause-stands
returns-clause-stands c =
    let count : c.len.result ≡ length c.args.changes.now.cells = c.len.ensures.value ∙ ap length c.iter.ensures.rest in
    let sum : c.in-Some.versions ≡ c.self.inside.versions + c.len.result = c.in-Some.ensures.1 in
    let versions = sum ∙ ap (λ n. c.self.inside.versions + n) count in
    rw (← c.self.view_is) (λ opening ws stands.
    stands-push _ _ opening ws c.args.changes.now stands c.iter.ensures.ordered c.in-Ok.ensures.ok c.add_commit.ensures.hold c.in_ok-add.ensures.ok refl refl versions)

pub invariant_of-self-2 : goal.invariant_of-self-2
invariant_of-self-2 c =
    let before = c.self.inside.chains in
    let made = c.in-Ok.ensures.ok in (
      committed_rise _ c.args.changes.now before c.add_commit.new.self made c.self.invariant.1 c.self.invariant.0,
      committed_below _ c.args.changes.now before c.add_commit.new.self made c.self.invariant.1,
      true_behind c.self.inside.floor _ c.args.changes.now before c.add_commit.new.self c.end_changed.new.self made c.end_changed.ensures.ended
          (c.end_changed.ensures.stays before c.self.inside.floor c.self.invariant.2),
    )
