use Rattle.analysis_words.proofs.pointed.point_at_access.Goals as goal

pub returns-in_default-clause-none : goal.returns-in_default-clause-none
returns-in_default-clause-none c = rw c.in_default.is at c.access_place.ensures.none

pub returns-clause-said : goal.returns-clause-said
returns-clause-said c = record {
  at = c.in-Some.place;
  stands = rw c.in-Some.is at c.access_place.ensures.found;
  points = rw c.bytes.ensures at c.in_ok-words.ensures;
}
