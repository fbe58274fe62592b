use Rattle.std.proofs.Common.{sym, subst}
use Rattle.std.specs.Prelude.{IsSome}
use Rattle.std.specs.BTreeMap.{is_at}
use Rattle.std.specs.Map.{lookup}
use Rattle.std.specs.Ordering.{nat_cmp}
use Rattle.prog_tree.specs.Tree.{draft_tree}
use Rattle.history_book.specs.TrueBook.{IsTrueEnding}
use Rattle.history_book.specs.View.{BookView, history_of}
use Rattle.history_book.proofs.BookLaws.{true-ended}
use Rattle.history_book.proofs.book.Book.conclude.Goals as goal

pub invariant_of-self-2 : goal.invariant_of-self-2
invariant_of-self-2 c =
    let found = subst (λ (v : BookView). IsSome (lookup (is_at (nat_cmp c.args.number)) v.active)) (sym c.self.view_is) c.requires.active in
    let is_true = subst (λ (v : BookView). IsTrueEnding (draft_tree v.set) v.opening (history_of v.rows) c.args.ending) (sym c.self.view_is) c.requires.is_true in (
      true-ended _ c.args.number c.args.ending c.push.new.self.items c.remove.new.self c.self.invariant.0 found is_true c.requires.no_commit
          c.in_ok-push.ensures.items c.remove.ensures.removed c.remove.ensures.ordered,
      record { stands = c.self.invariant.1.stands; commits = c.self.invariant.1.commits },
      c.self.invariant.2,
    )
