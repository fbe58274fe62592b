use Rattle.std.proofs.Common.{◌≡◌, ◌+◌}
use Rattle.text_places.specs.Landmarks.{landmarks_before}
use Rattle.text_places.proofs.landmark.numbered.Given as goal

-- so many are left of those from the start on
abbrev pub invariant-loop-place : goal.invariant-loop-place
invariant-loop-place l = landmarks_before l.kind l.text l.place + l.left ≡ landmarks_before l.kind l.text l.start + l.number
