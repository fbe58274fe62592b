use Rattle.std.proofs.Common.{◌≡◌, ◌++◌, map}
use Rattle.std.specs.Prelude.{All}
use Rattle.std.specs.Vec.Iter.{into_iter_items}
use Rattle.serde_json.specs.View.{view}
use Rattle.robust_cert.specs.Json.{entry_data, EntryFits}
use Rattle.robust_cert.proofs.text.shape.entries_of.Given as goal

-- the items so far are taken, and the others are left
abbrev pub invariant-loop-item : goal.invariant-loop-item
invariant-loop-item l = record {
  fits : All EntryFits l.entries;
  same : map view l.yielded ≡ map entry_data l.entries;
  whole : l.fn.items.items ≡ l.yielded ++ into_iter_items l.item-iterator;
}
