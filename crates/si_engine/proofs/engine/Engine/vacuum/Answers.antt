use Rattle.std.proofs.Common.{◌≡◌, ap, sym, subst, ◌∙◌}
use Rattle.std.specs.Prelude.{length}
use Rattle.version_store.specs.Versions.{reclaimed}
use Rattle.history_book.specs.View.{BookView, commits_in}
use Rattle.history_book.specs.View as book
use Rattle.si_engine.specs.Machine.{Machine, least_start}
use Rattle.si_engine.specs.View.{machine_of, IsEngine}
use Rattle.si_engine.specs.declared.event.Reply.TheVariants as reply
use Rattle.si_engine.proofs.EngineLaws.{applied, answered, machine-vacuum, engine-vacuum}
use Rattle.si_engine.proofs.engine.Engine.vacuum.Goals as goal

pub invariant_of-self : goal.invariant_of-self
invariant_of-self c =
    let e = c.self.inside in
    subst (λ w. IsEngine w e.begun.items) (sym c.vacuum.ensures.floor) (engine-vacuum e.book e.begun.items c.self.invariant _)

pub returns : goal.returns
returns c =
    let e = c.self.inside in
    let w = c.vacuum.new.self in
    let m = machine_of e.book e.begun.items in
    let floor = least_start (length m.history) m.begun in
    let count = reclaimed e.book.opening (commits_in e.book) e.book.floor in
    let machine = machine-vacuum e.book e.begun.items c.self.invariant w c.vacuum.ensures.floor in
    let least : book.least_start (length e.book.rows) e.book.active ≡ floor = sym (ap (λ (v : BookView). v.floor) c.vacuum.ensures.floor) ∙ ap (λ (x : Machine). x.floor) machine in
    applied c.self.view_is
    (answered (ap (λ (v : BookView). v.set) c.vacuum.ensures.floor, ap (λ (v : BookView). v.opening) c.vacuum.ensures.floor)
    (ap (λ n. (reply.Vacuumed n, machine_of w e.begun.items)) (c.vacuum.ensures.count ∙ ap count least) ∙ ap (λ m. (reply.Vacuumed (count floor), m)) machine))
