use Rattle.std.proofs.Common.{◌≡◌, ◌+◌, ◌≤◌, drop}
use Rattle.std.specs.Option.{option_map}
use Rattle.prog_text.specs.Limits.{too_deep, too_deep_from}
use Rattle.prog_text.proofs.limits.too_deep.Given as goal

-- what is left to look at decides, with both counts within their limits
abbrev pub invariant-loop-index : goal.invariant-loop-index
invariant-loop-index l = record {
  brackets : l.brackets ≤ 16;
  operators : l.operators ≤ 32;
  same : option_map (λ n. l.index + n) (too_deep_from l.brackets l.operators (drop l.index l.tokens)) ≡ too_deep l.tokens;
}
