use Rattle.std.proofs.Common.{sym, subst}
use Rattle.std.specs.Prelude.{All, IfOk}
use Rattle.std.proofs.lemmas.Result.{IfOk-weaker}
use Rattle.prog_paths.specs.Places.{IsAt}
use Rattle.prog_paths.specs.Questions.{asked_among}
use Rattle.conflict_pairs.specs.Classed.{Classed}
use Rattle.conflict_pairs.specs.Listed.{AreChangersOf, AreJudged, IsListedIn, entries_in}
use Rattle.conflict_pairs.proofs.Collecting.{some_asked}
use Rattle.conflict_pairs.proofs.Numbered.{judged-from, listed-from}
use Rattle.conflict_pairs.proofs.classed.ClassTable.listed_of.Goals as goal

pub listed_of-requires-clause-firsts : goal.listed_of-requires-clause-firsts
listed_of-requires-clause-firsts c = subst (λ (t : Classed). All (λ p. IsAt t.paths p) c.args.firsts.now) (sym c.self.view_is) c.requires.firsts

pub listed_of-requires-clause-changers : goal.listed_of-requires-clause-changers
listed_of-requires-clause-changers c = subst (λ (t : Classed). AreChangersOf t.places c.args.changers.now) (sym c.self.view_is) c.requires.changers

pub returns-clause-listed : goal.returns-clause-listed
returns-clause-listed c =
    let inside = c.self.inside in
    let places = inside.classes.places.items in
    subst (λ (t : Classed). IfOk c.listed_of.result (λ listed. IsListedIn t.places t.verdicts listed)) c.self.view_is
    (IfOk-weaker c.listed_of.result _ _ (λ listed h. listed-from inside.paths.now inside.judged.values.items places listed (asked_among c.args.firsts.now places) h) c.listed_of.ensures)

pub returns-clause-judged : goal.returns-clause-judged
returns-clause-judged c =
    let inside = c.self.inside in
    let paths = inside.paths.now in
    let places = inside.classes.places.items in
    let firsts = c.args.firsts.now in
    let at = subst (λ (t : Classed). All (λ p. IsAt t.paths p) firsts) (sym c.self.view_is) c.requires.firsts in
    let asked = some_asked paths firsts places c.self.invariant.classes.places_are at in
    subst (λ (t : Classed). IfOk c.listed_of.result (λ listed. AreJudged t.paths (entries_in t.places t.verdicts listed) (asked_among firsts t.places))) c.self.view_is
    (IfOk-weaker c.listed_of.result _ _ (λ listed h. judged-from paths inside.judged.values.items places listed (asked_among firsts places) h c.self.invariant.single asked) c.listed_of.ensures)
