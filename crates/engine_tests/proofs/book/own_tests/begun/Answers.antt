use Rattle.std.proofs.Common.{◌≡◌, subst, IfOk, OnOk}
use Rattle.std.specs.Prelude.{slice_get, Some}
use Rattle.prog_run.specs.View.{begun}
use Rattle.history_book.specs.View.{new_book, next_ticket, begun_in}
use Rattle.engine_tests.proofs.OwnRuns.{begun_own}
use Rattle.engine_tests.proofs.book.own_tests.begun.Goals as goal

pub returns : goal.returns
returns g c =
    let set = c.args.set.now in
    let old = c.expect-book.result in
    let opened = subst (λ r. IfOk r (λ v. v ≡ new_book set c.new.result)) c.expect-book.ensures c.open.ensures in
    let ticket = subst (λ r. IfOk r (λ t. t ≡ next_ticket old)) c.expect-ticket.ensures c.begin.ensures.ticket in
    let after = subst (λ r. OnOk r (c.begin.new.self ≡ begun_in old c.args.program c.args.args.now)) c.expect-ticket.ensures c.begin.ensures.begun in
    let begins = subst (λ r. IfOk r (λ run. run ≡ begun set.tables.items run.program c.args.args.now)) c.expect-run.ensures c.new-2.ensures.begun in
    let found = subst (λ r. IfOk r (λ run. slice_get set.programs.items c.args.program ≡ Some run.program)) c.expect-run.ensures c.new-2.ensures.program in
    begun_own set c.new.result c.args.program c.args.args.now old c.begin.new.self c.expect-ticket.result c.expect-run.result opened ticket after begins found
