use Rattle.std.proofs.Common.{◌≡◌, [], ◌++◌, map, drop}
use Rattle.prog_check.specs.Faults.{tables_fault}
use Rattle.prog_check.proofs.heads.check_tables.Given as goal

-- the tables that are left have the first fault of all
abbrev pub invariant-loop-table : goal.invariant-loop-table
invariant-loop-table l = record {
  named : l.names ++ map (λ d. d.name) (drop l.table-index l.tables) ≡ map (λ d. d.name) l.tables;
  fault : tables_fault l.names (map (λ d. d.name) (drop l.table-index l.tables)) ≡ tables_fault [] (map (λ d. d.name) l.tables);
}
