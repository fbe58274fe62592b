use Rattle.prog_paths.proofs.Own.{law_of_own_unknowns, law_of_covers, law_of_times, law_of_values}
use Rattle.prog_paths.proofs.laws.law_of_own_unknowns.Goals as goal

pub returns-clause-own : goal.returns-clause-own
returns-clause-own c = law_of_own_unknowns

pub returns-clause-covers : goal.returns-clause-covers
returns-clause-covers c = law_of_covers

pub returns-clause-times : goal.returns-clause-times
returns-clause-times c = law_of_times

pub returns-clause-values : goal.returns-clause-values
returns-clause-values c = law_of_values
