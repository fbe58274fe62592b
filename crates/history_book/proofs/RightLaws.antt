-- Rows that are right, one behind another, and lawful histories.
use Rattle.std.proofs.Common.{◌≡◌, ℕ, zero, suc, ◌+◌, ◌<◌, ◌≤◌, List, [], ◌∷◌, ◌++◌, length, map, take, get_or, refl, ap, sym, ◌∙◌, subst, append_assoc, append-nil, arith}
use Rattle.std.specs.Prelude.{All, Some, None, slice_get}
use Rattle.std.proofs.lemmas.List.{length-append, map-append}
use Rattle.std.proofs.lemmas.List.Elements.{All-nil, All-push}
use Rattle.prog_tree.specs.declared.deed.End.TheVariants.{Ready}
use Rattle.prog_tree.specs.ChangeSet.{ChangeSet, touches_cell}
use Rattle.prog_tree.specs.Evaluation.{Evaluation}
use Rattle.prog_tree.specs.Syntax.{ProgramTree, DraftTree}
use Rattle.prog_tree.specs.Table.{TableState}
use Rattle.prog_tree.proofs.Elements.{get_left, get_seam}
use Rattle.version_store.specs.Clash.{last_touch, IsClash}
use Rattle.version_store.specs.Commits.{state_at}
use Rattle.history_book.specs.Audit.{IsRightRow, IsRowFault, AreRightBehind, IsWrongAt}
use Rattle.history_book.specs.History.{Instance, eval_of, commits_after, commits_of, evaluation, nth_instance, IsLawful, StartsBelow}
use Rattle.history_book.specs.TrueBook.{IsTrueRow}
use Rattle.history_book.specs.View.{instance_of, history_of}
use Rattle.history_book.specs.declared.audit.RowFault.{RowFault}
use Rattle.history_book.specs.declared.audit.RowFault.TheVariants as row
use Rattle.history_book.specs.declared.instances.row.HistoryRow.{HistoryRow}
use Rattle.history_book.proofs.ClashLaws.{last_touches}
use Rattle.history_book.proofs.EndingLaws.{true_rows-push, true_row-push}
use Rattle.history_book.proofs.HistoryLaws.{lawful-nil, lawful-push, length-commits_of}
use Rattle.history_book.proofs.StateLaws.{nth_instance-behind, state_at-commits_after, commits_of-is}
use Rattle.history_book.proofs.BookLaws.{history-push}

module _ (set : DraftTree) (opening : TableState) where
  -- ---- right rows are lawful

  -- rows that are right behind a lawful history with true rows leave such a history
  record IsGood (rows : List HistoryRow) : Type 0 where
    lawful : IsLawful set opening (history_of rows)
    rows_true : All (IsTrueRow set opening (history_of rows)) rows

  good-push : (past : List HistoryRow) (r : HistoryRow) → IsGood past → IsRightRow set opening (history_of past) r → IsGood (past ++ r ∷ [])
  good-push past r good right =
      let h = history_of past in
      let along : history_of (past ++ r ∷ []) ≡ h ++ instance_of r ∷ [] = history-push past r in
      record {
        lawful = subst (IsLawful set opening) (sym along) (lawful-push set opening h (instance_of r) good.lawful right.is_true.start right.is_true.called right.ready right.apart);
        rows_true =
            subst (λ g. All (IsTrueRow set opening g) (past ++ r ∷ [])) (sym along)
            (All-push (IsTrueRow set opening (h ++ instance_of r ∷ [])) past r (true_rows-push set opening h (instance_of r) past good.rows_true)
            (true_row-push set opening h (instance_of r) r right.is_true));
      }

  good_all : (past rows : List HistoryRow) → IsGood past → AreRightBehind set opening (history_of past) rows → IsGood (past ++ rows)
  good_all past [] good right = subst IsGood (sym (append-nil past)) good
  good_all past (r ∷ rows) good right =
      let later = subst (λ g. AreRightBehind set opening g rows) (sym (history-push past r)) right.1 in
      subst IsGood (append_assoc past (r ∷ []) rows) (good_all (past ++ r ∷ []) rows (good-push past r good right.0) later)

  good : (rows : List HistoryRow) → AreRightBehind set opening [] rows → IsGood rows
  good rows right = good_all [] rows (record { lawful = lawful-nil set opening; rows_true = All-nil (IsTrueRow set opening []) }) right

  pub right-lawful : (rows : List HistoryRow) → AreRightBehind set opening [] rows → IsLawful set opening (history_of rows)
  right-lawful rows right = (good rows right).lawful

  pub right-true : (rows : List HistoryRow) → AreRightBehind set opening [] rows → All (IsTrueRow set opening (history_of rows)) rows
  right-true rows right = (good rows right).rows_true

  -- ---- no right row is wrong

  right_at : (h : List Instance) (rows : List HistoryRow) (n : ℕ) (r : HistoryRow) → AreRightBehind set opening h rows → slice_get rows n ≡ Some r →
      IsRightRow set opening (h ++ history_of (take n rows)) r
  right_at h [] n r right found = absurd (cc)
  right_at h (s ∷ rows) zero r right found =
      let same : s ≡ r = cc in
      subst (λ g. IsRightRow set opening g r) (sym (append-nil h)) (subst (IsRightRow set opening h) same right.0)
  right_at h (s ∷ rows) (suc n) r right found =
      subst (λ g. IsRightRow set opening g r) (append_assoc h (instance_of s ∷ []) (history_of (take n rows))) (right_at (h ++ instance_of s ∷ []) rows n r right.1 found)

  not_wrong : (h : List Instance) (r : HistoryRow) (fault : RowFault) → IsRightRow set opening h r → IsRowFault set opening h r fault → ⊥
  not_wrong h r row.NoSuchProgram right wrong =
      let never : None ≡ Some right.is_true.called.0 = sym wrong ∙ right.is_true.called.1 in
      absurd (cc)
  not_wrong h r row.WrongArguments right wrong =
      let some : Some right.is_true.called.0 ≡ Some wrong.0 = sym right.is_true.called.1 ∙ wrong.1 in
      let same : right.is_true.called.0 ≡ wrong.0 = cc in
      wrong.2 (ap (λ (p : ProgramTree). length p.params) (sym same) ∙ right.is_true.called.2)
  not_wrong h r row.StartTooLate right wrong = let start : r.start ≤ length h = right.is_true.start in absurd (omega (arith, wrong.1))
  not_wrong h r row.NotReady right wrong = wrong.1 right.ready
  not_wrong h r row.WrongReplies right wrong = wrong.2 right.is_true.replies
  not_wrong h r (row.Clashed clash) right wrong = right.apart clash.cell wrong.2.0 wrong.2.1

  pub right-not_wrong : (rows : List HistoryRow) (number : ℕ) (fault : RowFault) → AreRightBehind set opening [] rows → IsWrongAt set opening rows number fault → ⊥
  right-not_wrong rows number fault right wrong =
      not_wrong (history_of (take number rows)) wrong.wrong fault (right_at [] rows number wrong.wrong right wrong.at) wrong.is

  -- ---- lawful rows are right

  commits_after-append : (past : List ChangeSet) (h more : List Instance) →
      commits_after set opening past (h ++ more) ≡ commits_after set opening (commits_after set opening past h) more
  commits_after-append past [] more = refl
  commits_after-append past (i ∷ h) more = commits_after-append (past ++ (eval_of set i (state_at opening past i.start)).changes ∷ []) h more

  -- what an instance does is the same in a longer history
  evaluation-append : (h more : List Instance) (b : Instance) → b.start ≤ length h → evaluation set opening (h ++ more) b ≡ evaluation set opening h b
  evaluation-append h more b before =
      let within : b.start ≤ length (commits_of set opening h) = omega (arith, length-commits_of set opening h) in
      ap (eval_of set b)
      (ap (λ ws. state_at opening ws b.start) (commits_after-append [] h more) ∙ state_at-commits_after set opening (commits_of set opening h) more b.start within)

  still_numbered : (h more : List Instance) (n : ℕ) (b : Instance) → nth_instance h n ≡ Some b → nth_instance (h ++ more) n ≡ Some b
  still_numbered h more zero b found = found
  still_numbered h more (suc n) b found = get_left h more n b found

  of_map : {X Y : Type 0} (f : X → Y) (xs : List X) (n : ℕ) (y : Y) → slice_get (map f xs) n ≡ Some y → (x : X) × (slice_get xs n ≡ Some x) × (n < length xs) × (f x ≡ y)
  of_map f [] n y found = absurd (cc)
  of_map f (x ∷ xs) zero y found = (x, refl, omega arith, cc)
  of_map f (x ∷ xs) (suc n) y found = let r = of_map f xs n y found in (r.0, r.1, omega (arith, r.2), r.3)

  module _ (h more : List Instance) (i : Instance) (lawful : IsLawful set opening (h ++ i ∷ more)) where
    at_end : nth_instance (h ++ i ∷ more) (length h + 1) ≡ Some i
    at_end = nth_instance-behind (h ++ i ∷ more) (length h) ∙ get_seam h more i

    within : i.start ≤ length h
    within = let low : i.start < length h + 1 = lawful.starts (length h + 1) i at_end in omega arith

    same_here : evaluation set opening (h ++ i ∷ more) i ≡ evaluation set opening h i
    same_here = evaluation-append h (i ∷ more) i within

    ready_here : (evaluation set opening h i).ending ≡ Ready
    ready_here = ap (λ (e : Evaluation). e.ending) (sym same_here) ∙ lawful.ready (length h + 1) i at_end

    starts_here : StartsBelow h
    starts_here j b found = lawful.starts j b (still_numbered h (i ∷ more) j b found)

    apart_here : IsClash (commits_of set opening h) i.start (evaluation set opening h i).changes None
    apart_here c touches above =
        let ws = commits_of set opening h in
        let late : i.start < last_touch c 1 ws = above in
        let t = last_touches c 1 ws (omega arith) in
        let number : last_touch c 1 ws ≡ 1 + t.place = t.number in
        let did : Instance → ChangeSet = λ b. (evaluation set opening h b).changes in
        let a = of_map did h t.place t.commit (ap (λ vs. slice_get vs t.place) (sym (commits_of-is set opening h starts_here)) ∙ t.at) in
        let at : nth_instance (h ++ i ∷ more) (t.place + 1) ≡ Some a.0 = nth_instance-behind (h ++ i ∷ more) t.place ∙ get_left h (i ∷ more) t.place a.0 a.1 in
        let start : a.0.start < t.place + 1 = lawful.starts (t.place + 1) a.0 at in
        let same : evaluation set opening (h ++ i ∷ more) a.0 ≡ evaluation set opening h a.0 = evaluation-append h (i ∷ more) a.0 (omega (arith, a.2)) in
        lawful.apart (t.place + 1) (length h + 1) a.0 i c at at_end (omega arith) (omega (arith, a.2))
        (ap (λ (e : Evaluation). touches_cell e.changes c) same ∙ ap (λ w. touches_cell w c) a.3 ∙ t.touched)
        (ap (λ (e : Evaluation). touches_cell e.changes c) same_here ∙ touches)

  right_next : (past rest : List HistoryRow) (r : HistoryRow) → IsLawful set opening (history_of (past ++ r ∷ rest)) →
      IsTrueRow set opening (history_of (past ++ r ∷ rest)) r → IsRightRow set opening (history_of past) r
  right_next past rest r lawful is_true =
      let h = history_of past in
      let more = history_of rest in
      let i = instance_of r in
      let along : history_of (past ++ r ∷ rest) ≡ h ++ i ∷ more = map-append instance_of past (r ∷ rest) in
      let here : IsLawful set opening (h ++ i ∷ more) = subst (IsLawful set opening) along lawful in
      let truly : IsTrueRow set opening (h ++ i ∷ more) r = subst (λ g. IsTrueRow set opening g r) along is_true in
      record {
        is_true = record {
          called = truly.called;
          start = within h more i here;
          replies = truly.replies ∙ ap (λ (e : Evaluation). e.replies) (same_here h more i here);
        };
        ready = ready_here h more i here;
        apart = apart_here h more i here;
      }

  item : (past rest : List HistoryRow) (r : HistoryRow) → get_or (past ++ r ∷ rest) (length past) r ≡ r
  item [] rest r = refl
  item (s ∷ past) rest r = item past rest r

  all_right : (past rows : List HistoryRow) → IsLawful set opening (history_of (past ++ rows)) → All (IsTrueRow set opening (history_of (past ++ rows))) (past ++ rows) →
      AreRightBehind set opening (history_of past) rows
  all_right past [] lawful is_true = tt
  all_right past (r ∷ rest) lawful is_true =
      let here : IsTrueRow set opening (history_of (past ++ r ∷ rest)) r =
      subst (IsTrueRow set opening (history_of (past ++ r ∷ rest))) (item past rest r) (is_true (length past) r (omega (arith, length-append past (r ∷ rest)))) in
      let next : past ++ r ∷ rest ≡ (past ++ r ∷ []) ++ rest = sym (append_assoc past (r ∷ []) rest) in
      let later = all_right (past ++ r ∷ []) rest (subst (λ rows. IsLawful set opening (history_of rows)) next lawful)
      (subst (λ rows. All (IsTrueRow set opening (history_of rows)) rows) next is_true) in
      (right_next past rest r lawful here, subst (λ g. AreRightBehind set opening g rest) (history-push past r) later)

  pub lawful-right : (rows : List HistoryRow) → IsLawful set opening (history_of rows) → All (IsTrueRow set opening (history_of rows)) rows → AreRightBehind set opening [] rows
  lawful-right rows lawful is_true = all_right [] rows lawful is_true
