-- Rows and endings stay true as a history grows.
use Rattle.std.proofs.Common.{◌≡◌, ℕ, zero, suc, ◌+◌, ◌≤◌, List, [], ◌∷◌, ◌++◌, length, take, refl, ap, sym, ◌∙◌, subst, arith}
use Rattle.std.specs.Prelude.{All, Option, Some}
use Rattle.std.specs.List.{range_with_len}
use Rattle.std.proofs.lemmas.List.{length-append, take-append-le}
use Rattle.std.proofs.lemmas.List.Elements.{All-weaker}
use Rattle.std.proofs.lemmas.List.FromFn.{length-range_with_len}
use Rattle.prog_tree.specs.declared.cell.Cell.{Cell}
use Rattle.prog_tree.specs.Evaluation.{Evaluation}
use Rattle.prog_tree.specs.Syntax.{DraftTree}
use Rattle.prog_tree.specs.Table.{TableState}
use Rattle.version_store.specs.Clash.{IsClash}
use Rattle.version_store.specs.declared.clash.Clash.{Clash}
use Rattle.history_book.specs.History.{Instance, commits_of, evaluation}
use Rattle.history_book.specs.TrueBook.{IsTrueRow, IsTrueClash, IsTrueEnding, committed}
use Rattle.history_book.specs.View.{instance_of}
use Rattle.history_book.specs.declared.instances.row.Ending.{Ending}
use Rattle.history_book.specs.declared.instances.row.Ending.TheVariants as ending
use Rattle.history_book.specs.declared.instances.row.HistoryRow.{HistoryRow}
use Rattle.history_book.proofs.HistoryLaws.{length-commits_of, commits_of-push, evaluation-push}

module _ (set : DraftTree) (opening : TableState) (h : List Instance) (i : Instance) where
  abbrev longer : List Instance
  longer = h ++ i ∷ []

  abbrev same_evaluation : HistoryRow → Type 0
  same_evaluation row = evaluation set opening longer (instance_of row) ≡ evaluation set opening h (instance_of row)

  in_longer : (row : HistoryRow) → row.start ≤ length h → row.start ≤ length longer
  in_longer row start = omega (arith, length-append h (i ∷ []))

  pub true_row-push : (row : HistoryRow) → IsTrueRow set opening h row → IsTrueRow set opening longer row
  true_row-push row is = record {
    called = is.called;
    start = in_longer row is.start;
    replies = is.replies ∙ ap (λ (e : Evaluation). e.replies) (sym (evaluation-push set opening h i (instance_of row) is.start));
  }

  -- the first commits are the same
  first_commits : (n : ℕ) → n ≤ length h → take n (commits_of set opening longer) ≡ take n (commits_of set opening h)
  first_commits n within =
      let ws = commits_of set opening h in
      let inside : n ≤ length ws = omega (arith, length-commits_of set opening h) in
      ap (take n) (commits_of-push set opening h i) ∙ take-append-le n ws ((evaluation set opening h i).changes ∷ []) inside

  true_clash-push : (row : HistoryRow) (clash : Clash) → row.start ≤ length h → IsTrueClash set opening h row clash → IsTrueClash set opening longer row clash
  true_clash-push row clash start is =
      let same : same_evaluation row = evaluation-push set opening h i (instance_of row) start in
      let some : Option (Cell × ℕ) = Some (clash.cell, clash.number) in
      record {
        ready = ap (λ (e : Evaluation). e.ending) same ∙ is.ready;
        commits = is.commits;
        within = omega (arith, is.within, length-append h (i ∷ []));
        clashed =
            subst (λ ws. IsClash ws row.start (evaluation set opening longer (instance_of row)).changes some) (sym (first_commits is.commits is.within))
            (subst (λ (e : Evaluation). IsClash (take is.commits (commits_of set opening h)) row.start e.changes some) (sym same) is.clashed);
      }

  true_ending-push : (e : Ending) → IsTrueEnding set opening h e → IsTrueEnding set opening longer e
  true_ending-push (ending.Committed number) is = tt
  true_ending-push (ending.Clashed row clash) is = (true_row-push row is.0, true_clash-push row clash is.0.start is.1)
  true_ending-push (ending.Aborted row cause) is = (
    true_row-push row is.0,
    record { ending = ap (λ (e : Evaluation). e.ending) (evaluation-push set opening h i (instance_of row) is.0.start) ∙ is.1.ending },
  )

  pub true_rows-push : (rows : List HistoryRow) → All (IsTrueRow set opening h) rows → All (IsTrueRow set opening longer) rows
  true_rows-push = All-weaker (IsTrueRow set opening h) (IsTrueRow set opening longer) true_row-push

  pub true_endings-push : (es : List Ending) → All (IsTrueEnding set opening h) es → All (IsTrueEnding set opening longer) es
  true_endings-push = All-weaker (IsTrueEnding set opening h) (IsTrueEnding set opening longer) true_ending-push

-- ---- numbers of commits

pub committed-append : (es fs : List Ending) → committed (es ++ fs) ≡ committed es ++ committed fs
committed-append [] fs = refl
committed-append (ending.Committed number ∷ es) fs = ap (λ ns. number ∷ ns) (committed-append es fs)
committed-append (ending.Clashed row clash ∷ es) fs = committed-append es fs
committed-append (ending.Aborted row cause ∷ es) fs = committed-append es fs

length-committed : (es : List Ending) → length (committed es) ≤ length es
length-committed [] = omega arith
length-committed (ending.Committed number ∷ es) = omega (arith, length-committed es)
length-committed (ending.Clashed row clash ∷ es) = omega (arith, length-committed es)
length-committed (ending.Aborted row cause ∷ es) = omega (arith, length-committed es)

-- there are at most as many commits as endings
pub few_commits : (es : List Ending) (n : ℕ) → committed es ≡ range_with_len 1 n → n ≤ length es
few_commits es n is = omega (arith, length-committed es, ap length is, length-range_with_len 1 n)

-- one number more
pub range-push : (a n : ℕ) → range_with_len a (suc n) ≡ range_with_len a n ++ (a + n) ∷ []
range-push a zero = let same : a ≡ a + 0 = omega arith in ap (λ b. b ∷ []) same
range-push a (suc n) =
    let same : a + 1 + n ≡ a + suc n = omega arith in
    ap (λ ns. a ∷ ns) (range-push (a + 1) n ∙ ap (λ b. range_with_len (a + 1) n ++ b ∷ []) same)
