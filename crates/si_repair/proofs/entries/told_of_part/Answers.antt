use Rattle.std.proofs.Common.{sym, subst, arith, ◌∙◌, ap}
use Rattle.std.specs.Prelude.{Some}
use Rattle.prog_paths.specs.declared.accesses.questions.Question.{Question}
use Rattle.conflict_pairs.specs.Interning.{IsServed}
use Rattle.conflict_pairs.proofs.Serving.{served-at}
use Rattle.conflict_pairs.proofs.Zipped.{AllZip-lengths}
use Rattle.dep_graph.proofs.Entries.{entry_at}
use Rattle.robust_cert.specs.Sharing.{entries_told}
use Rattle.si_repair.specs.Certificates.{AskedFits, told_of, Gives}
use Rattle.si_repair.proofs.Fitting.{entry_fits, told_more, told_end, numbered_more, within_more}
use Rattle.si_repair.proofs.entries.told_of_part.Goals as goal

pub push_told-requires-clause-fits : goal.push_told-requires-clause-fits
push_told-requires-clause-fits c =
    let at = entry_at c.args.part.now.entries c.loop-n.n (omega arith) in
    subst (λ (q : Question). AskedFits q) (sym (c.question.ensures at.entry at.is)) (entry_fits c.args.part.now.entries c.requires.few c.loop-n.n at.entry at.is)

pub push_told-requires-clause-room : goal.push_told-requires-clause-room
push_told-requires-clause-room c = omega (arith, c.loop-n-test.true, c.len-n-end.ensures, c.loop-n.invariant.len, c.loop-n.invariant.room)

pub index-number-requires : goal.index-number-requires
index-number-requires c =
    let given = c.args.given.now in
    let each = AllZip-lengths (IsServed Gives given.values.items) c.args.part.now.verdicts given.numbers.items c.requires.given.served in
    omega (arith, each, c.verdict_number.ensures.within)

pub loop-n-preserved : goal.loop-n-preserved
loop-n-preserved c =
    let part = c.args.part.now in
    let given = c.args.given.now in
    let reasons = given.values.items in
    let old = c.loop-n.told.items in
    let new = c.push_told.new.told.items in
    let at = entry_at part.entries c.loop-n.n (omega arith) in
    let judged = c.verdict.ensures at.entry at.is in
    let its = served-at Gives reasons part.verdicts given.numbers.items c.verdict_number.result c.verdict.result.now c.index-number.result.now c.index-number.result.now c.requires.given.served (c.verdict_number.ensures.verdict at.entry at.is ∙ ap Some (sym judged)) c.index-number.ensures in
    record {
      entries =
          told_more (entries_told reasons old) (entries_told reasons new) (told_of part.entries) part.entries c.loop-n.n at.entry c.question.result c.verdict.result.now at.is (c.question.ensures at.entry at.is) judged
          (numbered_more old new reasons c.question.result c.verdict.result.now c.index-number.result.now its c.push_told.ensures.added) c.loop-n.invariant.entries;
      within = within_more old new reasons c.question.result c.verdict.result.now c.index-number.result.now its c.push_told.ensures.added c.loop-n.invariant.within;
      len = omega (arith, c.push_told.ensures.len, c.loop-n.invariant.len);
      room = omega (arith, c.push_told.ensures.capacity, c.loop-n.invariant.room);
    }

pub returns-clause-entries : goal.returns-clause-entries
returns-clause-entries c =
    let part = c.args.part.now in
    told_end (entries_told c.args.given.now.values.items c.loop-n.told.items) (told_of part.entries) part.entries c.loop-n.n (omega arith) c.loop-n.invariant.entries
