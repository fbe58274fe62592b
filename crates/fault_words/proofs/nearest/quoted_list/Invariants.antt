use Rattle.std.proofs.Common.{◌≡◌, map, take, string_bytes}
use Rattle.text_places.specs.Listing.{listed}
use Rattle.fault_words.specs.Nearest.{quoted}
use Rattle.fault_words.proofs.nearest.quoted_list.Given as goal

-- the names so far
abbrev pub invariant-loop-name : goal.invariant-loop-name
invariant-loop-name l = string_bytes l.list ≡ listed (map quoted (map (λ name. name.now) (take l.name-index l.names)))
