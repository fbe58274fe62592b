use Rattle.std.proofs.Common.{◌≡◌, length, map, bytes_eq}
use Rattle.std.specs.Map.{lookup}
use Rattle.prog_text.proofs.lexing.words.lookup.Given as goal

abbrev pub invariant-loop-table : goal.invariant-loop-table
invariant-loop-table l = lookup (bytes_eq l.bytes) (map (λ entry. (entry.0.now, entry.1)) l.table)
    ≡ lookup (bytes_eq l.bytes) (map (λ entry. (entry.0.now, entry.1)) l.initial.table)

abbrev pub decreases-loop-table : goal.decreases-loop-table
decreases-loop-table l = length l.table
