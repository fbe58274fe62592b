-- Laws on how a command stops, and on what is then written.
use Rattle.std.proofs.Common.{◌≡◌, ◌⊎◌, inl, inr, ◌≤◌, ◌<◌, ◌-◌, ◌^◌, ◌+◌, ◌++◌, ℕ, Bool, true, false, List, [], ◌∷◌, length, map, take, drop, take-append-drop, take_at, append_assoc, append-nil, arith, Option, Some, None, Result, Ok, Err, IfOk, IfSome, refl, sym, subst, ap, ◌∙◌}
use Rattle.std.proofs.KnownBytes.{Appends-nil, Appends-trans}
use Rattle.std.proofs.lemmas.List.FromFn.{length-map-range_with_len}
use Rattle.std.specs.Io.KnownBytes.{Appends}
use Rattle.prog_tree.specs.declared.program.Draft.{Draft}
use Rattle.prog_tree.specs.Syntax.{DraftTree}
use Rattle.prog_tree.specs.Tree.{draft_tree}
use Rattle.history_book.specs.declared.instances.row.Ending.TheVariants as ending
use Rattle.history_book.specs.declared.instances.row.HistoryRow.{HistoryRow}
use Rattle.history_book.specs.Audit.{audited}
use Rattle.history_book.specs.TrueBook.{IsTrueBook}
use Rattle.history_book.specs.View.{BookView, history_of}
use Rattle.std.specs.List.{range_with_len}
use Rattle.si_engine.specs.declared.output.finding.Serializability.{Serializability}
use Rattle.si_engine.specs.declared.input.item_list.ItemList.{ItemList}
use Rattle.si_engine.specs.declared.input.line_fault.LineFault.{LineFault}
use Rattle.si_engine.specs.declared.input.line_fault.LineFault.TheVariants as l
use Rattle.si_engine.specs.declared.input.part_fault.PartFault.{PartFault}
use Rattle.si_engine.specs.declared.input.part_fault.PartFault.TheVariants as s
use Rattle.si_engine.specs.declared.input.source.InputFault.{InputFault}
use Rattle.si_engine.specs.declared.input.source.InputFault.TheVariants as i
use Rattle.si_engine.specs.Limits.{input_limit}
use Rattle.si_engine.specs.Sources.{CanGive, ForInput}
use Rattle.si_engine.specs.Records.{records_of}
use Rattle.si_engine.specs.LineFaults.{Fails}
use Rattle.si_engine.specs.Runs.{end_lines, AddsEnd, AddsFirst, IsRunOf, IsRunReply, IsOrderedReply}
use Rattle.si_engine.specs.Runs as r
use Rattle.si_engine.specs.Sayings.{IsPartFault}
use Rattle.si_engine.specs.Script.{script_of}
use Rattle.si_engine.specs.Writing.{AppendsFront, WritesOr}
use Rattle.si_engine.proofs.RunLaws.{longer_than}
use Rattle.si_engine.proofs.SinkLaws.{front_behind, writes_as, writes_or_as}
use Rattle.sirob.specs.declared.command_line.Mode.{Mode}
use Rattle.sirob.specs.declared.command_line.Mode.TheVariants.{Check, Certify, Verify, Repair, Run, Audit, Work}
use Rattle.sirob.specs.declared.command_fault.CommandFault.{CommandFault}
use Rattle.sirob.specs.declared.command_fault.CommandFault.TheVariants as fault
use Rattle.sirob.specs.declared.status.Status.{Status}
use Rattle.sirob.specs.declared.status.Status.TheVariants as status
use Rattle.sirob.specs.FaultLines.{fault_line, is_memory}
use Rattle.sirob.specs.InputFaults.{IsAnalysedFor, IsFaultOf, IsFaultOfInput, IsFaultOfPart}
use Rattle.sirob.specs.Inputs.{parts_wanted, IsRobust, MayRun, IsAudited, IsChecked}
use Rattle.sirob.specs.Output.{Gives, GivesPart, GivesFirstPart, MayEnd, StopsBehind, at_once, behind_lines, memory_line, IsAnswer, done, at_fault, stopped, IsUnread, IsReply, WritesWithStatus}
use Rattle.sirob.specs.Output as u
use Rattle.sirob.specs.Status.{status_of}
use Rattle.sirob.specs.Stops.{IsUnanalysedBy, IsUnrepairedBy, IsStop, IsReadFault, Ends, well, in_fault, in_memory, IsSetAndPart, IsPartStop, IsPartDone, IsFaultOfJobs, IsInputDone, IsSourceDone, WritesWithEnd, as_command, write_lost}

-- ---- how reading an input stops

-- a fault of the input stands before the first line
pub stops_at_once : (mode : Mode) (input : List ℕ) (f : CommandFault) → (is_memory f ≡ false → IsFaultOf mode input f) → IsStop mode input f []
stops_at_once mode input f h = ((λ no_memory. (h no_memory, refl)), (λ memory. at_once))

-- reading this input stopped
stops_at : (mode : Mode) (f : InputFault) (input : List ℕ) (failed : Bool)
    → (f ≡ i.TooLong → input_limit < length input) → (f ≡ i.ReadFault → failed ≡ true) → failed ≡ false → IsStop mode input (fault.Input f) []
stops_at mode i.TooLong input failed long fails works = stops_at_once mode input (fault.Input i.TooLong) (λ e. long refl)
stops_at mode i.ReadFault input failed long fails works =
    let never : true ≡ false = sym (fails refl) ∙ works in absurd (cc)
stops_at mode i.Memory input failed long fails works = stops_at_once mode input (fault.Input i.Memory) (λ e. absurd (cc))

-- reading stopped
stops_reading :
    (mode : Mode) (f : InputFault) (left : Option (List ℕ)) (failed : Bool)
    → (f ≡ i.TooLong → IfSome left (λ all. input_limit < length all)) → (f ≡ i.ReadFault → failed ≡ true) → failed ≡ false
    → ForInput left (λ input. IsStop mode input (fault.Input f) [])
stops_reading mode f None failed long fails works =
    let input = longer_than input_limit in (input.0, tt, stops_at mode f input.0 failed (λ e. input.1) fails works)
stops_reading mode f (Some bytes) failed long fails works = (bytes, refl, stops_at mode f bytes failed long fails works)

-- a fault up to the text is one of the input
pub fault_up_to_text : (mode : Mode) (wanted : ℕ) (input : List ℕ) (f : CommandFault) → parts_wanted mode ≡ wanted → IsFaultOfInput wanted input f → IsFaultOf mode input f
fault_up_to_text mode wanted input (fault.Input f) is wrong = subst (λ (n : ℕ). IsFaultOfInput n input (fault.Input f)) (sym is) wrong
fault_up_to_text mode wanted input (fault.Split f) is wrong = subst (λ (n : ℕ). IsFaultOfInput n input (fault.Split f)) (sym is) wrong
fault_up_to_text mode wanted input (fault.Text f) is wrong = subst (λ (n : ℕ). IsFaultOfInput n input (fault.Text f)) (sym is) wrong
fault_up_to_text mode wanted input (fault.Check f) is wrong = subst (λ (n : ℕ). IsFaultOfInput n input (fault.Check f)) (sym is) wrong
fault_up_to_text mode wanted input (fault.Analysis f) is (text, others, divided, count, wrong) = absurd wrong
fault_up_to_text mode wanted input (fault.Repair f) is (text, others, divided, count, wrong) = absurd wrong
fault_up_to_text mode wanted input (fault.Json f) is (text, others, divided, count, wrong) = absurd wrong
fault_up_to_text mode wanted input (fault.Certificate f) is (text, others, divided, count, wrong) = absurd wrong
fault_up_to_text mode wanted input (fault.Part f) is (text, others, divided, count, wrong) = absurd wrong
fault_up_to_text mode wanted input (fault.Audit f) is (text, others, divided, count, wrong) = absurd wrong
fault_up_to_text mode wanted input (fault.Work f) is (text, others, divided, count, wrong) = absurd wrong

-- a set that is not analysed is the fault of its input
pub unanalysed_set : (input : List ℕ) (set : DraftTree) → IsChecked input set → (f : CommandFault) → IsUnanalysedBy set f → IsFaultOf Certify input f
unanalysed_set input set checked f (g, is, wrong) =
    subst (λ (e : CommandFault). IsFaultOf Certify input e) (sym is) (tt, set, [], checked, refl, wrong)

-- and so it is where a part stands behind it
pub part_unanalysed : (mode : Mode) (set : DraftTree) (part : List ℕ) (f : CommandFault) → IsAnalysedFor mode → IsUnanalysedBy set f
    → IsFaultOfPart mode set part f
part_unanalysed mode set part f analysed (g, is, wrong) =
    subst (λ (e : CommandFault). IsFaultOfPart mode set part e) (sym is) (analysed, wrong)

-- nor is one that is not repaired
pub unrepaired_set : (promote : Bool) (input : List ℕ) (set : DraftTree) → IsChecked input set → (f : CommandFault) → IsUnrepairedBy promote set f
    → IsFaultOf (Repair promote) input f
unrepaired_set promote input set checked f (inl (g, is, wrong)) =
    subst (λ (e : CommandFault). IsFaultOf (Repair promote) input e) (sym is) (tt, set, [], checked, refl, wrong)
unrepaired_set promote input set checked f (inr (g, is, wrong)) =
    subst (λ (e : CommandFault). IsFaultOf (Repair promote) input e) (sym is) (set, checked, wrong)

-- the canonical text could not be made
pub stops_printing : (mode : Mode) (input : List ℕ) → IsStop mode input (fault.Input i.Memory) []
stops_printing mode input = ((λ no_memory. absurd (cc)), (λ memory. at_once))

-- ---- how a second part ends

-- a fault of the part stands before the first line
pub part_at_once : (mode : Mode) (set : DraftTree) (part : List ℕ) (f : CommandFault) → (is_memory f ≡ false → IsFaultOfPart mode set part f) → IsPartStop mode set part f []
part_at_once mode set part f h = ((λ no_memory. (h no_memory, refl)), (λ memory. inl refl))

-- a fault of a line, where memory did not lack
fault_read : {Y : Type 0} (read : Result Y LineFault) (f : LineFault) → Fails f read → is_memory (fault.Part (s.Line f)) ≡ false → read ≡ Err f
fault_read read (l.BadLine n) wrong no_memory = wrong
fault_read read (l.UnknownName n) wrong no_memory = wrong
fault_read read (l.WrongKeys n) wrong no_memory = wrong
fault_read read (l.LateRow n) wrong no_memory = wrong
fault_read read (l.RepeatedRow n) wrong no_memory = wrong
fault_read read (l.TooManyEvents n) wrong no_memory = wrong
fault_read read l.Memory wrong no_memory = absurd (cc)

-- a fault of a part that is no longer than an input may be is one of its lines
part_fails : {Y : Type 0} (read : Result Y LineFault) (part : List ℕ) (Q : PartFault → Type 0) → length part ≤ input_limit
    → ((f : LineFault) → read ≡ Err f → Q (s.Line f)) → (f : PartFault) → IsPartFault read part f → is_memory (fault.Part f) ≡ false → Q f
part_fails read part Q within told (s.Input i.TooLong) wrong no_memory = absurd (omega (arith, wrong, within))
part_fails read part Q within told (s.Input i.ReadFault) wrong no_memory = absurd wrong
part_fails read part Q within told (s.Input i.Memory) wrong no_memory = absurd (cc)
part_fails read part Q within told (s.Line f) wrong no_memory = told f (fault_read read f wrong.1 no_memory)
part_fails read part Q within told s.WriteFault wrong no_memory = absurd wrong

-- a run of the script that a part is
script_done : (robust : Bool) (set : DraftTree) (part : List ℕ) → MayRun robust set → length part ≤ input_limit
    → (written : List ℕ) (inner : Result Serializability PartFault) → IsRunOf set part written inner → IfOk inner (MayEnd robust)
    → IsPartDone (Run robust) set part written (as_command inner)
script_done robust set part may within _ _ (r.done script is finding written adds) ends = (inl (may, (finding, ends, script, is.read, adds, refl)), tt)
script_done robust set part may within _ _ (r.refused f wrong) ends =
    let told = part_fails (script_of set part) part (λ g. IsFaultOfPart (Run robust) set part (fault.Part g)) within (λ g e. (may, e)) f wrong in
    (tt, part_at_once (Run robust) set part (fault.Part f) told)
script_done robust set part may within _ _ (r.stopped script is written first) ends = (tt, ((λ no_memory. absurd (cc)), (λ memory. inr (may, script, is.read, first))))

-- what a run writes of the bytes at hand
abbrev IsReplyOn : (robust : Bool) → DraftTree → List ℕ → (broken : Bool) → List ℕ → Result Serializability PartFault → Type 0
IsReplyOn false set left broken = IsRunReply set (Some left) broken
IsReplyOn true set left broken = IsOrderedReply set (Some left) broken

-- of a run on any set no end is asked
ends_freely : (inner : Result Serializability PartFault) → IfOk inner (MayEnd false)
ends_freely (Ok finding) = tt
ends_freely (Err f) = tt

-- a run of the bytes at hand
reply_done : (robust : Bool) (set : DraftTree) (left part : List ℕ) → MayRun robust set → left ≡ part → length part ≤ input_limit
    → (written : List ℕ) (inner : Result Serializability PartFault) → IsReplyOn robust set left false written inner → IsPartDone (Run robust) set part written (as_command inner)
reply_done false set left part may same within written inner (input, is, run) =
    script_done false set part may within written inner (subst (λ (p : List ℕ). IsRunOf set p written inner) (is ∙ same) run) (ends_freely inner)
reply_done true set left part may same within written inner ((input, is, run), order) =
    script_done true set part may within written inner (subst (λ (p : List ℕ). IsRunOf set p written inner) (is ∙ same) run) order

-- a fault of the lines of jobs is one of the part of a robust set
pub fault_of_lines : (workers : ℕ) (set : DraftTree) (part : List ℕ) (f : CommandFault) → IsRobust set → IsFaultOfJobs set part f
    → IsFaultOfPart (Work workers) set part f
fault_of_lines workers set part f robust (g, is, wrong) =
    subst (λ (e : CommandFault). IsFaultOfPart (Work workers) set part e) (sym is) (robust, wrong)

-- ---- how an audit ends

-- records that a book was made of are audited
audit_sound : (set : Draft) (part : List ℕ) (records : ItemList HistoryRow) (book : BookView) → records_of (draft_tree set) part ≡ Ok records
    → book ≡ audited set records.rows records.items → IsTrueBook book → IsAudited (draft_tree set) part records
audit_sound set part records book read is is_true =
    let v : IsTrueBook (audited set records.rows records.items) = subst (λ (b : BookView). IsTrueBook b) is is_true in
    let count : length (map ending.Committed (range_with_len 1 (length records.items))) ≡ length records.items =
    length-map-range_with_len ending.Committed 1 (length records.items) in
    record { read = read; few = omega (arith, v.few, count); lawful = v.lawful; replies = v.rows }

-- its rows and the last line were added to nothing
pub audit_given : (set : Draft) (part : List ℕ) (records : ItemList HistoryRow) (book : BookView) (finding : Serializability) (before written : List ℕ)
    → records_of (draft_tree set) part ≡ Ok records → book ≡ audited set records.rows records.items → IsTrueBook book → before ≡ []
    → AddsEnd (draft_tree book.set) book.opening (history_of book.rows) finding before written → GivesPart Audit (draft_tree set) part written (status_of finding)
audit_given set part records book finding before written read is is_true none adds =
    let ends = subst (λ (b : BookView). AddsEnd (draft_tree b.set) b.opening (history_of b.rows) finding before written) is adds in (
      finding,
      records,
      audit_sound set part records book read is is_true,
      subst (λ (t : List ℕ). AddsEnd (draft_tree set) records.rows (history_of records.items) finding t written) none ends,
      refl,
    )

-- some first of its rows were
pub audit_stopped : (set : Draft) (part : List ℕ) (records : ItemList HistoryRow) (book : BookView) (before written : List ℕ)
    → records_of (draft_tree set) part ≡ Ok records → book ≡ audited set records.rows records.items → IsTrueBook book → before ≡ []
    → AddsFirst (end_lines (draft_tree book.set) book.opening (history_of book.rows)) before written → IsPartStop Audit (draft_tree set) part (fault.Input i.Memory) written
audit_stopped set part records book before written read is is_true none adds =
    let first = subst (λ (b : BookView). AddsFirst (end_lines (draft_tree b.set) b.opening (history_of b.rows)) before written) is adds in (
      (λ no_memory. absurd (cc)),
      (λ memory. inr (
        records,
        audit_sound set part records book read is is_true,
        subst (λ (t : List ℕ). AddsFirst (end_lines (draft_tree set) records.rows (history_of records.items)) t written) none first,
      )),
    )

-- ---- from a second part to its input

-- what a part means, its input means
part_given : (mode : Mode) (input : List ℕ) (set : DraftTree) (part : List ℕ) → IsSetAndPart input set part
    → (ended : Status) (written : List ℕ) → GivesPart mode set part written ended → Gives mode input written ended
part_given Check input set part has ended written gives = absurd gives
part_given Certify input set part has ended written gives = absurd gives
part_given Verify input set part has ended written gives = (set, part, has.has, gives)
part_given (Repair promote) input set part has ended written gives = absurd gives
part_given (Run robust) input set part has ended written gives = (set, part, has.has, gives)
part_given Audit input set part has ended written gives = (set, part, has.has, gives)
part_given (Work workers) input set part has ended written gives = (set, part, has.has, gives)

-- what is wrong with a part, is wrong with its input
fault_of_part : (mode : Mode) (input : List ℕ) (set : DraftTree) (part : List ℕ) → parts_wanted mode ≡ 2 → IsSetAndPart input set part
    → (f : CommandFault) → IsFaultOfPart mode set part f → IsFaultOf mode input f
fault_of_part mode input set part two has (fault.Analysis f) wrong = (wrong.0, set, part ∷ [], has.has, sym two, wrong.1)
fault_of_part mode input set part two has (fault.Repair f) wrong = absurd wrong
fault_of_part mode input set part two has (fault.Json f) wrong = (set, part, has.has, wrong)
fault_of_part mode input set part two has (fault.Certificate f) wrong = (set, part, has.has, wrong)
fault_of_part mode input set part two has (fault.Part f) wrong = (set, part, has.has, wrong)
fault_of_part mode input set part two has (fault.Audit f) wrong = (set, part, has.has, wrong)
fault_of_part mode input set part two has (fault.Work f) wrong = (set, part, has.has, wrong)
fault_of_part mode input set part two has (fault.Input f) wrong = absurd wrong
fault_of_part mode input set part two has (fault.Split f) wrong = absurd wrong
fault_of_part mode input set part two has (fault.Text f) wrong = absurd wrong
fault_of_part mode input set part two has (fault.Check f) wrong = absurd wrong

part_behind : (mode : Mode) (input : List ℕ) (set : DraftTree) (part : List ℕ) → IsSetAndPart input set part
    → (written : List ℕ) → (written ≡ []) ⊎ GivesFirstPart mode set part written → StopsBehind mode input written
part_behind mode input set part has written (inl none) = subst (λ (l : List ℕ). StopsBehind mode input l) (sym none) at_once
part_behind mode input set part has written (inr first) = behind_lines written (set, part, has.has, first)

-- the end of a part is that of its input
part_is_input : (mode : Mode) (input : List ℕ) (set : DraftTree) (part : List ℕ) → parts_wanted mode ≡ 2 → IsSetAndPart input set part
    → (written : List ℕ) (ended : Result Status CommandFault) → IsPartDone mode set part written ended → IsInputDone mode input written ended
part_is_input mode input set part two has written (Ok ended) given = (part_given mode input set part has ended written given.0, tt)
part_is_input mode input set part two has written (Err f) given = (
  tt,
  (
    (λ no_memory. let wrong = given.1.0 no_memory in (fault_of_part mode input set part two has f wrong.0, wrong.1)),
    (λ memory. part_behind mode input set part has written (given.1.1 memory)),
  ),
)

-- ---- what is written

-- some first of the bytes are some first of them and others
pub front_before : (old new : Option (List ℕ)) (first second : List ℕ) → AppendsFront old new first → AppendsFront old new (first ++ second)
front_before old new first second (n, appends) =
    let front = take n first in
    let parted : front ++ (drop n first ++ second) ≡ first ++ second = sym (append_assoc front (drop n first) second) ∙ ap (λ l. l ++ second) (take-append-drop n first) in
    let same : take (length front) (first ++ second) ≡ front = ap (take (length front)) (sym parted) ∙ take_at front (drop n first ++ second) (length front) refl in
    (length front, subst (Appends old new) (sym same) appends)

-- ---- what a command replies

-- the answer to an input, with the line behind it
answered : (mode : Mode) (input lines : List ℕ) (ended : Result Status CommandFault) (written : List ℕ) (end : Status)
    → IsInputDone mode input lines ended → Ends ended written end → IsAnswer mode input (lines ++ written) end
answered mode input lines _ _ _ given (well end) = subst (λ (l : List ℕ). IsAnswer mode input l end) (sym (append-nil lines)) (done lines end given.0)
answered mode input lines _ _ _ given (in_fault f no_memory) =
    let wrong = given.1.0 no_memory in
    subst (λ (l : List ℕ). IsAnswer mode input (l ++ fault_line f) status.Faulty) (sym wrong.1) (at_fault f no_memory wrong.0)
answered mode input lines _ _ _ given (in_memory f) = go (is_memory f) refl
  where
    go : (b : Bool) → is_memory f ≡ b → IsAnswer mode input (lines ++ memory_line) status.Memory
    go true memory = stopped lines (given.1.1 memory)
    go false no_memory = subst (λ (l : List ℕ). IsAnswer mode input (l ++ memory_line) status.Memory) (sym (given.1.0 no_memory).1) (stopped [] at_once)

unread : (ended : Result Status CommandFault) (written : List ℕ) (end : Status) → IsReadFault ended → Ends ended written end → IsUnread written end
unread _ _ _ is (well end) = absurd (cc)
unread _ _ _ is (in_fault f no_memory) = let same : f ≡ fault.Input i.ReadFault = cc in subst (λ (g : CommandFault). IsUnread (fault_line g) status.Faulty) (sym same) u.at_fault
unread _ _ _ is (in_memory f) = u.stopped

replied : (mode : Mode) (left : Option (List ℕ)) (failed : Bool) (lines : List ℕ) (ended : Result Status CommandFault) (written : List ℕ) (end : Status)
    → IsSourceDone mode left failed lines ended → Ends ended written end → IsReply mode left failed (lines ++ written) end
replied mode left false lines ended written end (input, can, given) ends = (input, can, answered mode input lines ended written end given ends)
replied mode left true lines ended written end (is, none) ends =
    subst (λ (l : List ℕ). IsUnread (l ++ written) end) (sym none) (unread ended written end is ends)

-- some line can stand behind each end
some_end : (ended : Result Status CommandFault) → (written : List ℕ) × (end : Status) × Ends ended written end
some_end (Ok end) = ([], end, well end)
some_end (Err f) = (memory_line, status.Memory, in_memory f)

-- the sink failed on the way
pub lost : (mode : Mode) (left : Option (List ℕ)) (source_failed failed : Bool) (old new : Option (List ℕ)) (ended : Result Status CommandFault)
    → failed ≡ true → WritesWithEnd (IsSourceDone mode left source_failed) failed old new ended → WritesWithStatus (IsReply mode left source_failed) failed old new status.Faulty
lost mode left source_failed false old new ended fails writes = absurd (cc)
lost mode left source_failed true old new ended fails (lost_is, lines, meant, given, appends) =
    let behind = some_end meant in
    (refl, lines ++ behind.0, behind.1, replied mode left source_failed lines meant behind.0 behind.1 given behind.2, front_before old new lines behind.0 appends)

-- the sink took all lines
pub whole : (mode : Mode) (left : Option (List ℕ)) (source_failed mid_failed failed : Bool) (old mid new : Option (List ℕ)) (ended : Result Status CommandFault) (end : Status)
    → mid_failed ≡ false → WritesWithEnd (IsSourceDone mode left source_failed) mid_failed old mid ended → WritesWithStatus (Ends ended) failed mid new end
    → WritesWithStatus (IsReply mode left source_failed) failed old new end
whole mode left source_failed true failed old mid new ended end works given behind = absurd (cc)
whole mode left source_failed false false old mid new ended end works (lines, given, appends) (written, ends, more) =
    (lines ++ written, replied mode left source_failed lines ended written end given ends, Appends-trans old mid new lines written appends more)
whole mode left source_failed false true old mid new ended end works (lines, given, appends) (faulty, written, meant, ends, more) =
    (faulty, lines ++ written, meant, replied mode left source_failed lines ended written meant given ends, front_behind old mid new lines written appends more)

-- some answer can be given to each source
some_reply : (mode : Mode) (left : Option (List ℕ)) (failed : Bool) → IsReply mode left failed memory_line status.Memory
some_reply mode None false = ([], tt, stopped [] at_once)
some_reply mode (Some bytes) false = (bytes, refl, stopped [] at_once)
some_reply mode left true = u.stopped

-- the sink failed before
pub not_begun : (mode : Mode) (left : Option (List ℕ)) (source_failed failed : Bool) (old : Option (List ℕ)) → failed ≡ true → WritesWithStatus (IsReply mode left source_failed) failed old old status.Faulty
not_begun mode left source_failed false old fails = absurd (cc)
not_begun mode left source_failed true old fails = (refl, memory_line, status.Memory, some_reply mode left source_failed, (0, Appends-nil old))

-- ---- from a part up to its source

-- the bytes at hand were pulled too seldom to fail
pub not_broken : (broken : Bool) (pulls before : ℕ) → (broken ≡ true → pulls ≡ 2 ^ 64 - 1) → pulls ≤ before + 16777217 → before ≡ 0 → broken ≡ false
not_broken false pulls before counted few none = refl
not_broken true pulls before counted few none = let all = counted refl in absurd (omega (arith, all, few, none))

pub part_run : (robust : Bool) (set : DraftTree) (left part : List ℕ) (broken failed : Bool) (old new : Option (List ℕ)) (inner : Result Serializability PartFault)
    → MayRun robust set → left ≡ part → length part ≤ input_limit → broken ≡ false → WritesOr (Err s.WriteFault) (IsReplyOn robust set left broken) failed old new inner
    → WritesWithEnd (IsPartDone (Run robust) set part) failed old new (as_command inner)
part_run robust set left part true failed old new inner may same within works writes = absurd (cc)
part_run robust set left part false failed old new inner may same within works writes =
    writes_or_as as_command (Err s.WriteFault) (IsReplyOn robust set left false) (IsPartDone (Run robust) set part) failed old new inner
    (reply_done robust set left part may same within) writes

-- a fault before anything is written
pub input_stopped : (mode : Mode) (input : List ℕ) (f : CommandFault) (failed : Bool) (old : Option (List ℕ)) → failed ≡ false → IsStop mode input f []
    → WritesWithEnd (IsInputDone mode input) failed old old (Err f)
input_stopped mode input f true old works stop = absurd (cc)
input_stopped mode input f false old works stop = ([], (tt, stop), Appends-nil old)

-- a fault of a set or its part before anything is written
pub part_stopped : (mode : Mode) (set : DraftTree) (part : List ℕ) (f : CommandFault) (failed : Bool) (old : Option (List ℕ)) → failed ≡ false
    → (is_memory f ≡ false → IsFaultOfPart mode set part f) → WritesWithEnd (IsPartDone mode set part) failed old old (Err f)
part_stopped mode set part f true old works wrong = absurd (cc)
part_stopped mode set part f false old works wrong = ([], (tt, part_at_once mode set part f wrong), Appends-nil old)

pub done_of_part : (mode : Mode) (input : List ℕ) (set : DraftTree) (part : List ℕ) (failed : Bool) (old new : Option (List ℕ)) (ended : Result Status CommandFault)
    → parts_wanted mode ≡ 2 → IsSetAndPart input set part → WritesWithEnd (IsPartDone mode set part) failed old new ended
    → WritesWithEnd (IsInputDone mode input) failed old new ended
done_of_part mode input set part failed old new ended two has writes =
    writes_as (Err write_lost) (IsPartDone mode set part) (IsInputDone mode input) failed old new ended (part_is_input mode input set part two has) writes

-- the source could not be read
unread_source : (mode : Mode) (f : InputFault) (left : Option (List ℕ)) (source_failed : Bool)
    → (f ≡ i.TooLong → IfSome left (λ all. input_limit < length all)) → (f ≡ i.ReadFault → source_failed ≡ true) → (source_failed ≡ true → f ≡ i.ReadFault)
    → IsSourceDone mode left source_failed [] (Err (fault.Input f))
unread_source mode f left true long fails is = (ap (λ (g : InputFault). Err (fault.Input g)) (is refl), refl)
unread_source mode f left false long fails is =
    let stop = stops_reading mode f left false long fails refl in
    (stop.0, stop.1, (tt, stop.2))

pub read_stopped : (mode : Mode) (f : InputFault) (left : Option (List ℕ)) (source_failed failed : Bool) (old : Option (List ℕ)) → failed ≡ false
    → (f ≡ i.TooLong → IfSome left (λ all. input_limit < length all)) → (f ≡ i.ReadFault → source_failed ≡ true) → (source_failed ≡ true → f ≡ i.ReadFault)
    → WritesWithEnd (IsSourceDone mode left source_failed) failed old old (Err (fault.Input f))
read_stopped mode f left source_failed true old works long fails is = absurd (cc)
read_stopped mode f left source_failed false old works long fails is = ([], unread_source mode f left source_failed long fails is, Appends-nil old)

-- the source was read
pub done_of_source : (mode : Mode) (left : Option (List ℕ)) (source_failed : Bool) (items input : List ℕ) (failed : Bool) (old new : Option (List ℕ)) (ended : Result Status CommandFault)
    → input ≡ items → CanGive left items → (source_failed ≡ true → ⊥) → WritesWithEnd (IsInputDone mode input) failed old new ended
    → WritesWithEnd (IsSourceDone mode left source_failed) failed old new ended
done_of_source mode left true items input failed old new ended same can works writes = absurd (works refl)
done_of_source mode left false items input failed old new ended same can works writes =
    writes_as (Err write_lost) (IsInputDone mode input) (IsSourceDone mode left false) failed old new ended turn writes
  where
    turn : (written : List ℕ) (end : Result Status CommandFault) → IsInputDone mode input written end → IsSourceDone mode left false written end
    turn written end given = (items, can, subst (λ (l : List ℕ). IsInputDone mode l written end) same given)
