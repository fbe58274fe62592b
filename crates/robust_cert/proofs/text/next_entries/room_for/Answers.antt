use Rattle.std.proofs.Common.{◌≤◌, ◌+◌, length, String, string_bytes, arith}
use Rattle.std.proofs.lemmas.List.Elements.{All-weaker}
use Rattle.std.specs.declared.alloc.Global.{Global}
use Rattle.robust_cert.proofs.text.next_entries.room_for.Goals as goal

pub returns : goal.returns
returns c =
    All-weaker (λ (t : String Global). length (string_bytes t) ≤ c.longest-most.result) (λ (t : String Global). length (string_bytes t) + 64 ≤ c.in-Some.room)
    (λ (t : String Global) (h : length (string_bytes t) ≤ c.longest-most.result). omega (arith, h)) c.args.tails.now c.longest-most.ensures
