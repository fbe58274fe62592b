use Rattle.std.proofs.Common.{◌≡◌, ◌<◌, ◌+◌}
use Rattle.text_places.specs.Places.{line_number}
use Rattle.text_places.proofs.place.line_front.Given as goal

-- so many line feeds are left to be met
abbrev pub invariant-loop-place : goal.invariant-loop-place
invariant-loop-place l = record {
  some : 0 < l.left;
  left : line_number l.text l.place + l.left ≡ l.fn.line;
}
