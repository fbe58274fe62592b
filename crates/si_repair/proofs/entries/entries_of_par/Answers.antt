use Rattle.std.proofs.Common.{◌≡◌, List, ap, sym, subst, ◌∙◌}
use Rattle.std.specs.Prelude.{All}
use Rattle.prog_paths.specs.declared.accesses.places.Placed.{Placed}
use Rattle.prog_paths.specs.declared.accesses.questions.Question.{Question}
use Rattle.prog_paths.specs.Places.{IsAt}
use Rattle.prog_paths.specs.Questions.{asked_among, questions_of}
use Rattle.conflict_pairs.specs.Listed.{AreJudged}
use Rattle.si_repair.specs.Telling.{firsts_in}
use Rattle.si_repair.proofs.Fitting.{verdicts_fit}
use Rattle.si_repair.proofs.entries.entries_of_par.Goals as goal

pub reasons_of-requires : goal.reasons_of-requires
reasons_of-requires g c = verdicts_fit c.args.table.now.paths c.verdicts.result.now c.requires c.verdicts.ensures.right

pub tell_parts-requires-clause-firsts : goal.tell_parts-requires-clause-firsts
tell_parts-requires-clause-firsts g c _ _ =
    subst (λ (l : List Placed). All (λ p. IsAt c.args.table.now.paths p) l) (sym c.in_ok-parts.ensures) c.places.ensures.stand

pub of-requires : goal.of-requires
of-requires g c =
    let table = c.args.table.now in
    (c.in_ok-told.ensures table.paths c.in_ok-given.given.values.items table.places c.tell_parts.ensures.told).within

pub returns : goal.returns
returns g c =
    let table = c.args.table.now in
    let told = c.in_ok-told.ensures table.paths c.in_ok-given.given.values.items table.places c.tell_parts.ensures.told in
    let firsts = firsts_in c.tell_parts.new.parts.items in
    let whole : asked_among firsts table.places ≡ questions_of table.paths =
    ap (λ (l : List Placed). asked_among l table.places) (c.tell_parts.ensures.firsts ∙ c.in_ok-parts.ensures ∙ c.places.ensures.places)
    ∙ sym (ap (λ (l : List Placed). asked_among l l) c.places.ensures.places)
    ∙ c.places.ensures.all in
    record {
      judged = told.judged;
      are = subst (λ (qs : List Question). AreJudged table.paths told.judged qs) whole told.are;
      is = c.of.ensures ∙ told.is;
    }
