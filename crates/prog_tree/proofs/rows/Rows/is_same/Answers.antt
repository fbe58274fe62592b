use Rattle.std.proofs.Common.{rules}
use Rattle.std.proofs.lemmas.Map.Lookups.{btree_map_eq-Decides}
use Rattle.std.specs.Ordering.{int_eq}
use Rattle.prog_tree.specs.contracts.cell.CellPartialEq.TheImpl.{ghosts}
use Rattle.prog_tree.proofs.rows.Rows.is_same.Goals as goal

pub returns : goal.returns
returns c =
    let same = btree_map_eq-Decides {E = ghosts.eq} {F = int_eq} (λ a b. search rules) (λ a b. search rules) c.self.inside.rows c.other.inside.rows _ c.eq.ensures in
    rw (← c.self.view_is, ← c.other.view_is) same
