use Rattle.std.proofs.Common.{◌≡◌, length, ◌∙◌, ap, subst, sym}
use Rattle.version_store.specs.Versions.{reclaimed}
use Rattle.history_book.specs.View.{BookView, commits_in, least_start}
use Rattle.history_book.proofs.BookLaws.{true-vacuum}
use Rattle.history_book.proofs.book.Book.vacuum.Goals as goal

pub invariant_of-self : goal.invariant_of-self
invariant_of-self c =
    let least =
    subst (λ (v : BookView). c.oldest_start-floor.result ≡ least_start (length v.rows) v.active) (sym c.self.view_is)
    c.oldest_start-floor.ensures.least in (
      true-vacuum _ c.vacuum.new.self.floor c.self.invariant.0 (c.vacuum.ensures.floor ∙ least),
      record {
        stands = c.vacuum.ensures.stands _ _ c.self.invariant.1.stands;
        commits = c.vacuum.ensures.commits ∙ c.self.invariant.1.commits;
      },
      c.self.invariant.2,
    )

pub returns-clause-count : goal.returns-clause-count
returns-clause-count c =
    let counted = c.vacuum.ensures.count _ _ c.self.invariant.1.stands in
    subst (λ (v : BookView). c.vacuum.result ≡ reclaimed v.opening (commits_in v) v.floor c.oldest_start-floor.result) c.self.view_is counted
    ∙ ap (reclaimed c.args.self.now.opening (commits_in c.args.self.now) c.args.self.now.floor) c.oldest_start-floor.ensures.least
