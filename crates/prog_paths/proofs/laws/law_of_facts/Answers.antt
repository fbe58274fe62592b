use Rattle.prog_paths.proofs.Facts.{law_of_meeting, law_of_consistency, law_of_equal_terms}
use Rattle.prog_paths.proofs.laws.law_of_facts.Goals as goal

pub returns-clause-meeting : goal.returns-clause-meeting
returns-clause-meeting c = law_of_meeting

pub returns-clause-consistent : goal.returns-clause-consistent
returns-clause-consistent c = law_of_consistency

pub returns-clause-equal : goal.returns-clause-equal
returns-clause-equal c = law_of_equal_terms
