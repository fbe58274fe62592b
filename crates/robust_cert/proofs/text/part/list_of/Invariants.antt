use Rattle.std.proofs.Common.{◌≡◌, map, take}
use Rattle.std.specs.Prelude.{All}
use Rattle.serde_json.specs.View.{view}
use Rattle.robust_cert.proofs.text.part.list_of.Given as goal

-- the items so far are taken
abbrev pub invariant-loop-item : goal.invariant-loop-item
invariant-loop-item g l = record {
  fits : All g.T.JsonPart.fits l.parts.items;
  same : map view (take l.item-index l.item-items) ≡ map g.T.JsonPart.json l.parts.items;
}
