use Rattle.std.proofs.Common.{◌≡◌, Contains, IfSome, length, map, option_map, take}
use Rattle.std.proofs.Common.{◌≤◌}
use Rattle.fault_words.specs.Nearest.{most_meant}
use Rattle.fault_words.proofs.Nearer.{IsBest, fewest_by}
use Rattle.fault_words.proofs.nearest.nearest_name.Given as goal

-- the best so far is a name, and of those so far the nearest
abbrev pub invariant-loop-name : goal.invariant-loop-name
invariant-loop-name l = record {
  among : IfSome l.best (Contains l.names);
  best : IsBest l.word (map (λ name. name.now) (take l.name-index l.names)) (option_map (λ name. name.now) l.best);
  fewest : l.fewest ≡ fewest_by l.word (option_map (λ name. name.now) l.best);
  short : length l.word ≤ most_meant;
}
