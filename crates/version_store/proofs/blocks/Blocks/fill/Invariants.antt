use Rattle.version_store.specs.Blocks.{StaysTrue}
use Rattle.version_store.specs.Reading.{AllRise}
use Rattle.version_store.proofs.blocks.Blocks.fill.Given as goal

abbrev pub invariant-loop-part : goal.invariant-loop-part
invariant-loop-part l = AllRise l.chains → StaysTrue l.chains l.fn.self l.self
