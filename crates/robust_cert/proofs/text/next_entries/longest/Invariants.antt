use Rattle.std.proofs.Common.{◌≤◌, length, take, String, string_bytes}
use Rattle.std.specs.Prelude.{All}
use Rattle.std.specs.declared.alloc.Global.{Global}
use Rattle.robust_cert.proofs.text.next_entries.longest.Given as goal

-- no tail so far is longer
abbrev pub invariant-loop-tail : goal.invariant-loop-tail
invariant-loop-tail l = All (λ (t : String Global). length (string_bytes t) ≤ l.longest) (take l.tail-index l.tails)
