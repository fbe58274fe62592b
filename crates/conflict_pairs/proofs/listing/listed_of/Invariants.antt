use Rattle.std.proofs.Common.{◌≡◌, length, take}
use Rattle.prog_paths.specs.Questions.{asked_among}
use Rattle.conflict_pairs.specs.Listed.{AreQuestionsListed}
use Rattle.conflict_pairs.proofs.listing.listed_of.Given as goal

-- what the accesses so far ask is listed
abbrev pub invariant-loop-first : goal.invariant-loop-first
invariant-loop-first l = record {
  size : length l.answers.items ≡ length l.asked.rows.items;
  listed : AreQuestionsListed l.paths l.judged.values.items l.classes.places.items l.listed (asked_among (take l.first-index l.firsts) l.classes.places.items);
}
