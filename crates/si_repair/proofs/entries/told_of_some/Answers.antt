use Rattle.std.proofs.Common.{List, ap, sym, subst}
use Rattle.std.specs.Prelude.{All}
use Rattle.prog_paths.specs.Listing.{IsAskedOf}
use Rattle.prog_paths.specs.Questions.{asked_among}
use Rattle.conflict_pairs.specs.declared.verdicts.Verdict.{Verdict}
use Rattle.conflict_pairs.specs.Listed.{AreJudged}
use Rattle.conflict_pairs.specs.Table.{Judged, Table}
use Rattle.si_repair.specs.Certificates.{AreGiven}
use Rattle.si_repair.proofs.entries.told_of_some.Goals as goal

pub told_of_part-requires-clause-few : goal.told_of_part-requires-clause-few
told_of_part-requires-clause-few c =
    let paths = c.args.table.now.paths in
    record {
      paths = paths;
      few = c.requires.few;
      asked = subst (λ (l : List Judged). All (λ e. IsAskedOf paths e.question) l) (sym (ap (λ (t : Table). t.entries) c.part.ensures)) c.in_ok-listed.ensures.judged.asked;
    }

pub told_of_part-requires-clause-given : goal.told_of_part-requires-clause-given
told_of_part-requires-clause-given c =
    subst (λ (l : List Verdict). AreGiven l c.args.given.now.values.items c.args.given.now.numbers.items) (sym (ap (λ (t : Table). t.verdicts) c.part.ensures)) c.requires.given

pub returns : goal.returns
returns c =
    let table = c.args.table.now in
    record {
      judged = c.part.result.entries;
      are = subst (λ (l : List Judged). AreJudged table.paths l (asked_among c.args.firsts.now table.places)) (sym (ap (λ (t : Table). t.entries) c.part.ensures)) c.in_ok-listed.ensures.judged;
      is = c.in_ok-told.ensures.entries;
      within = c.in_ok-told.ensures.within;
    }
