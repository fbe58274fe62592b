use Rattle.prog_tree.specs.Table.{Cells}
use Rattle.std.specs.Prelude.{IfSome}
use Rattle.prog_tree.specs.declared.cell.Region.{Region}
use Rattle.version_store.specs.Blocks.{AreEndedIn, StaysTrue}
use Rattle.version_store.specs.StandsFor.{VersionChain}
use Rattle.version_store.proofs.EndLaws.{EndsGone}
use Rattle.version_store.proofs.blocks.Blocks.end_changed.Given as goal

abbrev pub invariant-loop-cell : goal.invariant-loop-cell
invariant-loop-cell l = record {
  ended : EndsGone l.number l.changes.cells l.cell-iterator l.self;
  done : IfSome l.done (λ (region : Region). AreEndedIn l.number region l.self);
  stays : (chains : Cells VersionChain) → StaysTrue chains l.fn.self l.self;
}
