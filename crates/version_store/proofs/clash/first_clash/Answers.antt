use Rattle.version_store.specs.Reading.{number_at}
use Rattle.version_store.specs.Told.{told}
use Rattle.version_store.specs.Touches.{touches_left}
use Rattle.version_store.proofs.ClashLaws.{finds_more, finds_all}
use Rattle.version_store.proofs.clash.first_clash.Goals as goal
use Rattle.version_store.proofs.TouchLaws.{touches_of}

pub loop-cell-preserved : goal.loop-cell-preserved
loop-cell-preserved c =
    finds_more (number_at c.args.chains.now) c.args.start (touches_of c.args.changes.now) c.loop-cell.yielded
    (touches_left c.loop-cell.cell-iterator.changed c.loop-cell.cell-iterator.kept) (touches_left c.next.new.self.changed c.next.new.self.kept) c.in-Some.cell c.in-Some.field-0-1
    (told c.loop-cell.least) (told c.clash_at-clash.result) (told c.lesser_clash-least.result) c.in-Some.ensures.steps c.clash_at-clash.ensures c.lesser_clash-least.ensures c.loop-cell.invariant

pub returns : goal.returns
returns c =
    finds_all (number_at c.args.chains.now) c.args.start c.args.changes.now c.loop-cell.yielded (touches_left c.loop-cell.cell-iterator.changed c.loop-cell.cell-iterator.kept)
    (told c.loop-cell.least) c.in-None.ensures.steps.0 c.loop-cell.invariant
