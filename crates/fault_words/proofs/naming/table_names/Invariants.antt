use Rattle.std.proofs.Common.{◌≡◌, map, take}
use Rattle.fault_words.proofs.naming.table_names.Given as goal

-- the names of the tables so far
abbrev pub invariant-loop-table : goal.invariant-loop-table
invariant-loop-table l = map (λ name. name.now) l.names.items ≡ map (λ d. d.name) (take l.table-index l.draft.tables.items)
