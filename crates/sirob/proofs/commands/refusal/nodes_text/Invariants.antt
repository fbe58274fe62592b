use Rattle.std.proofs.Common.{◌≡◌, take, string_bytes}
use Rattle.si_engine.specs.LastLine.{spaced_numbers}
use Rattle.sirob.proofs.commands.refusal.nodes_text.Given as goal

-- the nodes so far are written
abbrev pub invariant-loop-node : goal.invariant-loop-node
invariant-loop-node l = string_bytes l.text ≡ spaced_numbers (take l.node-index l.nodes)
