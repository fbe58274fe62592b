use Rattle.std.proofs.Common.{◌≡◌, List, ℕ, ◌∙◌, ap, sym, subst}
use Rattle.std.specs.List.{zip}
use Rattle.prog_tree.specs.declared.program.Draft.{Draft}
use Rattle.prog_tree.specs.Tree.{draft_tree}
use Rattle.prog_check.specs.Paths.{paths_of}
use Rattle.prog_paths.specs.StaticGraph.{IsDangerous}
use Rattle.history_book.specs.Serial.{Fits}
use Rattle.si_engine.specs.Headline.{commits_said, rows_of_machine}
use Rattle.si_engine.specs.Machine.{Machine, new_machine, machine_after, replies_of}
use Rattle.si_engine.proofs.HeadlineLaws.{at_start, fits_machine, headline}
use Rattle.si_engine.proofs.robust.run.run_robust.Goals as goal

pub order_of-requires : goal.order_of-requires
order_of-requires c =
    let same = c.book.ensures.set ∙ (c.in_ok-replies.ensures.over.0 ∙ (ap (λ e. e.set) c.in_ok-engine.ensures ∙ c.set.ensures.same)) in
    record { safe = subst (λ (d : Draft). IsDangerous (paths_of (draft_tree d)) → ⊥) (sym same) c.set.ensures.safe }

pub returns-clause-headline : goal.returns-clause-headline
returns-clause-headline c =
    let set = c.args.set.now in
    let given = c.set.result.now in
    let rows = c.args.rows in
    let events = c.args.events.now in
    let engine = c.in_ok-engine.engine in
    let opened = c.in_ok-engine.ensures in
    let ran = c.in_ok-replies.ensures in
    let now = c.apply_events.new.engine in
    let machine : Machine = machine_after (draft_tree set) rows events new_machine in
    let set_now : now.set ≡ set = ran.over.0 ∙ (ap (λ e. e.set) opened ∙ c.set.ensures.same) in
    let rows_now : now.opening ≡ rows = ran.over.1 ∙ ap (λ e. e.opening) opened in
    let machine_now : now.machine ≡ machine =
    ran.after ∙ at_start (λ d o m. machine_after (draft_tree d) o events m) engine given set rows opened c.set.ensures.same in
    let replies = c.from_vec.ensures ∙ (ran.replies
    ∙ at_start (λ d o m. replies_of (draft_tree d) o events m) engine given set rows opened c.set.ensures.same) in
    let committed = c.from_vec-2.ensures ∙ (ran.committed ∙ ap (λ rs. commits_said (zip events rs)) (sym c.from_vec.ensures)) in
    let table =
    c.in_ok-table.ensures
    ∙ (ap (λ d. rows_of_machine (draft_tree d) now.opening now.machine) set_now
    ∙ (ap (λ r. rows_of_machine (draft_tree set) r now.machine) rows_now
    ∙ ap (λ m. rows_of_machine (draft_tree set) rows m) machine_now)) in
    let fits =
    fits_machine c.book.result.now set rows machine c.in_ok-order.order.items (c.book.ensures.set ∙ set_now) (c.book.ensures.opening ∙ rows_now)
    (c.book.ensures.history ∙ ap (λ m. m.history) machine_now) c.in_ok-order.ensures.fits in
    headline (draft_tree set) rows events _ replies committed table
    (subst (λ (order : List ℕ). Fits (draft_tree set) rows machine.history order) (sym c.from_vec-3.ensures) fits)
