use Rattle.std.proofs.Common.{◌≡◌, List, ap, sym, subst, ◌∙◌}
use Rattle.prog_paths.specs.declared.accesses.places.Placed.{Placed}
use Rattle.prog_paths.specs.declared.accesses.questions.Question.{Question}
use Rattle.prog_paths.specs.Questions.{asked_among, questions_of}
use Rattle.conflict_pairs.specs.declared.verdicts.Verdict.{Verdict}
use Rattle.conflict_pairs.specs.Listed.{AreJudged}
use Rattle.si_repair.specs.Certificates.{AreGiven}
use Rattle.si_repair.proofs.Fitting.{verdicts_fit}
use Rattle.si_repair.proofs.entries.entries_of.Goals as goal

pub reasons_of-requires : goal.reasons_of-requires
reasons_of-requires c = verdicts_fit c.args.table.now.paths c.verdicts.result.now c.requires c.verdicts.ensures.right

pub told_of_some-requires-clause-given : goal.told_of_some-requires-clause-given
told_of_some-requires-clause-given c =
    subst (λ (l : List Verdict). AreGiven l c.in_ok-given.given.values.items c.in_ok-given.given.numbers.items) c.verdicts.ensures.verdicts c.in_ok-given.ensures

pub returns : goal.returns
returns c =
    let table = c.args.table.now in
    let firsts = c.places.result.now in
    let told = c.in_ok-told.ensures in
    let whole : asked_among firsts table.places ≡ questions_of table.paths = ap (λ (l : List Placed). asked_among firsts l) (sym c.places.ensures.places) ∙ c.places.ensures.all in
    record {
      judged = told.judged;
      are = subst (λ (qs : List Question). AreJudged table.paths told.judged qs) whole told.are;
      is = c.of.ensures ∙ told.is;
    }
