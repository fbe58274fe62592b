use Rattle.std.proofs.Common.{◌≡◌, ◌≤◌, count_by, drop, length}
use Rattle.fault_words.specs.Blocks.{closes, is_left_open, last_before, opens}
use Rattle.fault_words.proofs.open_blocks.open_block.Given as goal

-- no block is left open from the place on
abbrev pub invariant-loop-place : goal.invariant-loop-place
invariant-loop-place l = record {
  within : l.place ≤ length l.plain;
  begun : l.begun ≡ count_by opens (drop l.place l.plain);
  ended : l.ended ≡ count_by closes (drop l.place l.plain);
  none : last_before (λ place. is_left_open (drop place l.plain)) (length l.plain)
      ≡ last_before (λ place. is_left_open (drop place l.plain)) l.place;
}

abbrev pub decreases-loop-place : goal.decreases-loop-place
decreases-loop-place l = l.place
