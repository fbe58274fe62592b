use Rattle.std.proofs.Common.{◌≡◌, ◌↔◌, ◌∙◌, sym, subst, rules, true, false, true≢false, List}
use Rattle.std.specs.List.{All}
use Rattle.std.specs.Prelude.{IsTrue}
use Rattle.history_book.specs.declared.instances.row.Ending.{Ending}
use Rattle.si_workers.specs.Outcomes.{AreClashesTold, IsOfSomeJob}
use Rattle.si_workers.proofs.comparing.is_whole.Goals as goal

pub returns-then-not-are_all_commits_told : goal.returns-then-not-are_all_commits_told
returns-then-not-are_all_commits_told c =
    let no : c.are_all_commits_told.result ≡ false = search rules in (
      λ f. absurd (true≢false (sym f)),
      λ w. sym no ∙ c.are_all_commits_told.ensures.1 w.commits,
    )

pub returns : goal.returns
returns c =
    let v = c.args.book.now in
    let ts = c.args.counts.now.tidings in
    let r = c.are_clashes_told.result in
    let told : c.are_all_commits_told.result ≡ true = search rules in
    let some : c.are_all_of_some_job.result ≡ true = search rules in
    let clashes : IsTrue r ↔ AreClashesTold v.endings ts = subst (λ (es : List Ending). IsTrue r ↔ AreClashesTold es ts) c.requires.endings c.are_clashes_told.ensures in (
      λ t. record {
        commits = c.are_all_commits_told.ensures.0 told;
        aborts = subst (λ (es : List Ending). All (IsOfSomeJob ts) es) c.endings.ensures.all (c.are_all_of_some_job.ensures.0 some);
        clashes = clashes.0 t;
      },
      λ w. clashes.1 w.clashes,
    )
