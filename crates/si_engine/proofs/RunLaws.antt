-- Laws on the lines of events, one after another.
use Rattle.std.proofs.Common.{◌≡◌, Bool, true, false, Option, List, [], ◌∷◌, ◌++◌, ℕ, ℤ, ◌+◌, ◌<◌, length, get_or, drop, replicate, refl, subst, Result, Ok, Err, sym, ap, ◌∙◌, append_assoc, arith}
use Rattle.std.proofs.lemmas.List.{drop_more, length-map, length-replicate}
use Rattle.std.proofs.lemmas.List.Concat.{flat_map-cons}
use Rattle.std.specs.List.{zip}
use Rattle.prog_tree.specs.Syntax.{DraftTree}
use Rattle.prog_tree.specs.Table.{TableState}
use Rattle.prog_tree.specs.declared.cell.Cell.{Cell}
use Rattle.prog_tree.specs.declared.table.TableDecl.{TableDecl}
use Rattle.si_engine.specs.declared.event.Event.{Event}
use Rattle.si_engine.specs.declared.event.Reply.{Reply}
use Rattle.si_engine.specs.declared.output.finding.Serializability.{Serializability}
use Rattle.si_engine.specs.declared.input.script.Script.{Script}
use Rattle.prog_tree.specs.Tree.{draft_tree}
use Rattle.prog_tree.specs.declared.program.Draft.{Draft}
use Rattle.history_book.specs.History.{state_after}
use Rattle.history_book.specs.View.{BookView, state_in, history_of, instance_of}
use Rattle.si_engine.specs.Machine.{Machine, machine_step, machine_after, replies_of}
use Rattle.si_engine.proofs.OutputLaws.{adds_line}
use Rattle.si_engine.specs.Headline.{commit_in, commits_said}
use Rattle.si_engine.specs.Runs.{event_lines, row_lines, end_lines, run_lines, AddsLines, AddsFirst, AddsRun, IsRunOf, done, refused, stopped, IsUnreadRun, unread, IsRunReply}
use Rattle.si_engine.specs.Printed.{reply_line, printed_row}
use Rattle.si_engine.specs.Sources.{ForInput}
use Rattle.si_engine.specs.Script.{IsScript, IsScriptFault}
use Rattle.si_engine.specs.Writing.{IsJust, WritesOr}
use Rattle.si_engine.specs.declared.input.part_fault.PartFault.{PartFault}
use Rattle.si_engine.specs.declared.input.part_fault.PartFault.TheVariants as fault
use Rattle.si_engine.specs.declared.input.source.InputFault.TheVariants as input_fault

module _ (set : DraftTree) (opening : TableState) (event : Event) (events : List Event) (m next : Machine) (r : Reply) (step : (r, next) ≡ machine_step set opening event m) where
  first_line : event_lines set opening (event ∷ events) m ≡ reply_line set.tables event r ∷ event_lines set opening events next
  first_line = sym (ap (λ (s : Reply × Machine). reply_line set.tables event s.0 ∷ event_lines set opening events s.1) step)

  -- the lines of the events that are left, of which the first is made
  pub next_lines : (all made : List (List ℕ)) → all ≡ made ++ event_lines set opening (event ∷ events) m → all ≡ (made ++ reply_line set.tables event r ∷ []) ++ event_lines set opening events next
  next_lines all made is =
      is
      ∙ (ap (λ lines. made ++ lines) first_line
      ∙ sym (append_assoc made (reply_line set.tables event r ∷ []) (event_lines set opening events next)))

  pub first_after : machine_after set opening (event ∷ events) m ≡ machine_after set opening events next
  first_after = sym (ap (λ (s : Reply × Machine). machine_after set opening events s.1) step)

  pub first_reply : replies_of set opening (event ∷ events) m ≡ r ∷ replies_of set opening events next
  first_reply = sym (ap (λ (s : Reply × Machine). s.0 ∷ replies_of set opening events s.1) step)

  pub first_commit : commits_said (zip (event ∷ events) (replies_of set opening (event ∷ events) m))
      ≡ commit_in (event, r) ++ commits_said (zip events (replies_of set opening events next))
  first_commit =
      ap (λ replies. commits_said (zip (event ∷ events) replies)) first_reply
      ∙ flat_map-cons commit_in (event, r) (zip events (replies_of set opening events next))

-- the line of the next row is added behind those of the first ones
pub next_row :
    (set : DraftTree) (rows : TableState) (i : ℕ) (d : Cell × ℤ) (tables : List TableDecl) (told : List (List ℕ)) (s t u : List ℕ) → i < length rows → tables ≡ set.tables →
    row_lines set rows ≡ told ++ row_lines set (drop i rows) → AddsLines told s t → u ≡ t ++ printed_row tables (get_or rows i d).0 (get_or rows i d).1 →
    (more : List (List ℕ)) × (row_lines set rows ≡ more ++ row_lines set (drop (i + 1) rows)) × AddsLines more s u
next_row set rows i d tables told s t u within same lines added written =
    let line = printed_row set.tables (get_or rows i d).0 (get_or rows i d).1 in (
      told ++ line ∷ [],
      lines
          ∙ (ap (λ (m : TableState). told ++ row_lines set m) (drop_more rows i d within)
          ∙ sym (append_assoc told (line ∷ []) (row_lines set (drop (i + 1) rows)))),
      adds_line told line s t u added (written ∙ ap (λ ts. t ++ printed_row ts (get_or rows i d).0 (get_or rows i d).1) same),
    )

-- the lines of the rows that a book leaves
pub rows_left : (v : BookView) (d : Draft) (rows : TableState) → d ≡ v.set → rows ≡ state_in v (length v.rows)
    → row_lines (draft_tree d) rows ≡ end_lines (draft_tree v.set) v.opening (history_of v.rows)
rows_left v d rows same is =
    ap (λ s. row_lines (draft_tree s) rows) same
    ∙ (ap (row_lines (draft_tree v.set)) is
    ∙ ap (λ n. row_lines (draft_tree v.set) (state_after (draft_tree v.set) v.opening (history_of v.rows) n)) (sym (length-map v.rows instance_of)))

-- ---- runs of the bytes of a source

-- there are inputs past any length
pub longer_than : (n : ℕ) → (input : List ℕ) × (n < length input)
longer_than n = (replicate (n + 1) 0, subst (λ (k : ℕ). n < k) (sym (length-replicate (n + 1) 0)) (omega arith))

module _ (set : DraftTree) (left : Option (List ℕ)) where
  pub run_refused : (f : PartFault) (out : List ℕ) → out ≡ [] → ForInput left (λ part. IsScriptFault set part f) → ForInput left (λ part. IsRunOf set part out (Err f))
  run_refused f out empty (part, can, wrong) = (part, can, subst (λ (o : List ℕ). IsRunOf set part o (Err f)) (sym empty) (refused f wrong))

  pub run_stopped : (script : Script) (written : List ℕ) → ForInput left (λ part. IsScript set part script) → AddsFirst (run_lines set script) [] written
      → ForInput left (λ part. IsRunOf set part written (Err (fault.Input input_fault.Memory)))
  run_stopped script written (part, can, is) first = (part, can, stopped script is written first)

  pub run_done : (script : Script) (finding : Serializability) (written : List ℕ) → ForInput left (λ part. IsScript set part script) → AddsRun set script finding [] written
      → ForInput left (λ part. IsRunOf set part written (Ok finding))
  run_done script finding written (part, can, is) all = (part, can, done script is finding written all)

  -- what a run replies, whether or not the source failed
  pub run_replies : (failed : Bool) (written : List ℕ) (ended : Result Serializability PartFault)
      → (failed ≡ false → ForInput left (λ part. IsRunOf set part written ended)) → (failed ≡ true → IsUnreadRun written ended)
      → IsRunReply set left failed written ended
  run_replies false written ended run none = run refl
  run_replies true written ended run none = none refl

pub run_unread : (f : PartFault) (out : List ℕ) → out ≡ [] → f ≡ fault.Input input_fault.ReadFault → IsUnreadRun out (Err f)
run_unread f out empty is =
    subst (λ (o : List ℕ). IsUnreadRun o (Err f)) (sym empty) (subst (λ (g : PartFault). IsUnreadRun [] (Err g)) (sym is) unread)

-- just these bytes and this end were meant, and they are so
pub writes_just : {E : Type 0} (lost : E) (P : List ℕ → E → Type 0) (bytes : List ℕ) (end : E) (failed : Bool) (old new : Option (List ℕ)) (ended : E)
    → P bytes end → WritesOr lost (IsJust bytes end) failed old new ended → WritesOr lost P failed old new ended
writes_just lost P bytes end false old new ended is (written, just, appends) =
    (written, subst (λ (w : List ℕ). P w ended) (sym just.0) (subst (P bytes) (sym just.1) is), appends)
writes_just lost P bytes end true old new ended is (lost_is, written, meant, just, appends) =
    (lost_is, written, meant, subst (λ (w : List ℕ). P w meant) (sym just.0) (subst (P bytes) (sym just.1) is), appends)
