use Rattle.std.proofs.Common.{◌≡◌, ◌↔◌, length}
use Rattle.prog_tree.proofs.table.same_tables.Given as goal

-- as many tables are left in both, and they are the same exactly where all are
abbrev pub invariant-loop-table : goal.invariant-loop-table
invariant-loop-table l = record {
  length : length l.table-iterator.a.rest.now ≡ length l.table-iterator.b.rest.now;
  rest : (l.table-iterator.a.rest.now ≡ l.table-iterator.b.rest.now) ↔ (l.tables ≡ l.others);
}
