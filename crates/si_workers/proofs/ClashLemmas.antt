-- Clashes of every call are told, where the tallies of those that are kept and told count alike.
use Rattle.std.proofs.Common.{◌↔◌, ℕ, ◌<◌, List, length}
use Rattle.history_book.specs.declared.instances.row.Ending.{Ending}
use Rattle.si_engine.specs.Headline.{Call}
use Rattle.si_workers.specs.KeptAndTold.{Tidings, is_clash_of, clashes_kept, clashes_told}
use Rattle.si_workers.specs.Keys.{call_at, call_cmp}
use Rattle.si_workers.specs.Outcomes.{AreClashesTold}
use Rattle.si_workers.specs.Tally.{AreSameCounts, Tallies, count_in, most}
use Rattle.si_workers.specs.declared.keys.CallKey.{CallKey}
use Rattle.si_workers.proofs.CountLemmas.{same_counts}

-- a key of a call
abbrev key_of : Call → CallKey
key_of call = record { program = call.program; args = record { ref_ptr = (0, 0); now = call.args } }

pub same_tallies :
    (E : List Ending) (T : Tidings) (kept told : List (CallKey × ℕ)) → length E < most → Tallies call_cmp (λ q. clashes_kept (call_at q) E) kept →
    Tallies call_cmp (λ q. clashes_told (call_at q) T) told → AreSameCounts call_cmp kept told ↔ AreClashesTold E T
same_tallies E T kept told few is_kept is_told =
    let at = λ (q : CallKey). same_counts (is_clash_of (call_at q)) E (clashes_told (call_at q) T) (count_in call_cmp kept q) (count_in call_cmp told q) few (is_kept q) (is_told q) in (
      λ same call. (at (key_of call)).0 (same (key_of call)),
      λ all q. (at q).1 (all (call_at q)),
    )
