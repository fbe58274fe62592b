use Rattle.std.proofs.Common.{ℕ, ◌≡◌, ◌++◌, List, string_bytes, take}
use Rattle.prog_tree.specs.Tree.{draft_tree}
use Rattle.text_places.specs.Listing.{TellsEach}
use Rattle.run_words.specs.JobSpots.{IsSpot}
use Rattle.run_words.specs.LostJobs.{TellsJob}
use Rattle.run_words.proofs.lost_jobs.push_jobs.Given as goal

-- the lines so far are added, and before the last spot begin as many jobs as it says
abbrev pub invariant-loop-index : goal.invariant-loop-index
invariant-loop-index l =
    (lines : List ℕ)
    × TellsEach (TellsJob (draft_tree l.set) l.told) (take l.index l.numbers) lines
    × (string_bytes l.out ≡ string_bytes l.fn.out ++ lines) × IsSpot l.told.part.bytes.now l.last
