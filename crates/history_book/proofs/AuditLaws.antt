-- Rows that are taken up behind others.
use Rattle.std.proofs.Common.{◌≡◌, ◌+◌, ◌<◌, ◌≤◌, List, [], ◌∷◌, ◌++◌, length, map, take, refl, ap, sym, ◌∙◌, subst, append_assoc, append-nil, arith}
use Rattle.std.specs.Prelude.{slice_get}
use Rattle.std.specs.List.{range_with_len}
use Rattle.std.proofs.lemmas.List.{length-append, take_at}
use Rattle.std.proofs.lemmas.List.FromFn.{map-range_with_len_more, length-map-range_with_len}
use Rattle.prog_tree.specs.declared.program.Draft.{Draft}
use Rattle.prog_tree.specs.Syntax.{DraftTree}
use Rattle.prog_tree.specs.Table.{TableState}
use Rattle.prog_tree.specs.Tree.{draft_tree}
use Rattle.prog_tree.proofs.Elements.{get_seam}
use Rattle.history_book.specs.Audit.{audited, taken_up, IsRightRow, IsRowFault, AreRightBehind, IsAuditFault, IsRowRefusal}
use Rattle.history_book.specs.History.{Instance}
use Rattle.history_book.specs.View.{BookView, instance_of, history_of, most_endings}
use Rattle.history_book.specs.declared.audit.AuditFault.{AuditFault}
use Rattle.history_book.specs.declared.audit.AuditFault.TheVariants as audit
use Rattle.history_book.specs.declared.instances.row.Ending.TheVariants.{Committed}
use Rattle.history_book.specs.declared.instances.row.HistoryRow.{HistoryRow}

-- ---- one row more

-- an audited book with one row more
pub taken_up-audited : (set : Draft) (opening : TableState) (rows : List HistoryRow) (row : HistoryRow) → taken_up (audited set opening rows) row ≡ audited set opening (rows ++ row ∷ [])
taken_up-audited set opening rows row =
    let n = length rows in
    let longer : n + 1 ≡ length (rows ++ row ∷ []) = omega (arith, length-append rows (row ∷ [])) in
    let next : 1 + n ≡ n + 1 = omega arith in
    let endings : map Committed (range_with_len 1 n) ++ Committed (n + 1) ∷ [] ≡ map Committed (range_with_len 1 (length (rows ++ row ∷ []))) =
    sym (map-range_with_len_more Committed 1 n (n + 1) next) ∙ ap (λ k. map Committed (range_with_len 1 k)) longer in
    λ k. record { set = set; opening = opening; rows = rows ++ row ∷ []; endings = endings k; active = []; begun = longer k; floor = 0 }

module _ (set : DraftTree) (opening : TableState) where
  pub right-push : (h : List Instance) (rows : List HistoryRow) (row : HistoryRow) → AreRightBehind set opening h rows → IsRightRow set opening (h ++ history_of rows) row →
      AreRightBehind set opening h (rows ++ row ∷ [])
  right-push h [] row before here = (subst (λ g. IsRightRow set opening g row) (append-nil h) here, tt)
  right-push h (r ∷ rows) row before here =
      let along : h ++ history_of (r ∷ rows) ≡ (h ++ instance_of r ∷ []) ++ history_of rows = sym (append_assoc h (instance_of r ∷ []) (history_of rows)) in
      (before.0, right-push (h ++ instance_of r ∷ []) rows row before.1 (subst (λ g. IsRightRow set opening g row) along here))

-- a row that is refused is the first that is wrong
pub refused_at : (v : BookView) (set : Draft) (opening : TableState) (yielded left rest all : List HistoryRow) (row : HistoryRow) (fault : AuditFault) → v ≡ audited set opening yielded →
    yielded ++ left ≡ all → left ≡ row ∷ rest → length all ≤ most_endings → AreRightBehind (draft_tree set) opening [] yielded → IsRowRefusal v row fault →
    IsAuditFault (draft_tree set) opening all fault
refused_at v set opening yielded left rest all row audit.Full book is first few right refused = absurd refused
refused_at v set opening yielded left rest all row audit.Memory book is first few right refused = few
refused_at v set opening yielded left rest all row (audit.Row number fault) book is first few right refused =
    let here : IsRowRefusal (audited set opening yielded) row (audit.Row number fault) = subst (λ (w : BookView). IsRowRefusal w row (audit.Row number fault)) book refused in
    let place : length yielded ≡ number = sym here.0 in
    let whole : yielded ++ row ∷ rest ≡ all = ap (λ l. yielded ++ l) (sym first) ∙ is in
    let taken : yielded ≡ take number all = sym (take_at yielded (row ∷ rest) (length yielded) refl) ∙ ap (take (length yielded)) whole ∙ ap (λ n. take n all) place in (
      few,
      record {
        before = subst (AreRightBehind (draft_tree set) opening []) taken right;
        wrong = row;
        at = ap (slice_get all) (sym place) ∙ ap (λ l. slice_get l (length yielded)) (sym whole) ∙ get_seam yielded rest row;
        is = subst (λ rows. IsRowFault (draft_tree set) opening (history_of rows) row fault) taken here.1;
      },
    )

-- there was room for each row
pub room_left : (v : BookView) (set : Draft) (opening : TableState) (yielded left rest all : List HistoryRow) (row : HistoryRow) → v ≡ audited set opening yielded →
    yielded ++ left ≡ all → left ≡ row ∷ rest → length v.endings < length all
room_left v set opening yielded left rest all row book is first =
    omega (arith, ap (λ (w : BookView). length w.endings) book, length-map-range_with_len Committed 1 (length yielded), ap length is, length-append yielded left, ap length first)
