use Rattle.std.proofs.Common.{◌≡◌, ◌∙◌, ap, sym, subst, IfOk}
use Rattle.prog_tree.specs.declared.program.Draft.{Draft}
use Rattle.prog_tree.specs.Tree.{draft_tree}
use Rattle.prog_check.specs.Paths.{paths_of}
use Rattle.prog_paths.specs.StaticGraph.{IsDangerous}
use Rattle.history_book.specs.Audit.{audited}
use Rattle.history_book.specs.View.{BookView}
use Rattle.worker_tests.proofs.robust_tests.order_in.Goals as goal

pub order_of-requires : goal.order_of-requires
order_of-requires g c =
    let opened : c.expect-book.result ≡ audited c.set.result.now c.new.result c.args.records.items =
    subst (λ r. IfOk r (λ book. book ≡ audited c.set.result.now c.new.result c.args.records.items)) c.expect-book.ensures c.audit.ensures.book in
    let same = ap (λ (v : BookView). v.set) opened ∙ c.set.ensures.same in
    record { safe = subst (λ (d : Draft). IsDangerous (paths_of (draft_tree d)) → ⊥) (sym same) c.set.ensures.safe }
