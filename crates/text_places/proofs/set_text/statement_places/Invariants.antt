use Rattle.std.proofs.Common.{◌≡◌}
use Rattle.text_places.specs.Landmarks.{places_before, statements_ahead}
use Rattle.text_places.specs.declared.landmark.Landmark.TheVariants.{Statement}
use Rattle.text_places.proofs.set_text.statement_places.Given as goal

-- those before the place
abbrev pub invariant-loop-place : goal.invariant-loop-place
invariant-loop-place l = record {
  statements : l.statements.items ≡ places_before Statement l.text l.place;
  ahead : l.ahead.items ≡ statements_ahead l.text l.place;
}
