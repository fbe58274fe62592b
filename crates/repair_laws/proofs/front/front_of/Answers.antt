use Rattle.std.proofs.Common.{length}
use Rattle.repair_laws.specs.Front.{HasColumns}
use Rattle.repair_laws.proofs.Putting.{met_at}
use Rattle.repair_laws.proofs.front.front_of.Goals as goal

pub keeps_for-requires : goal.keeps_for-requires
keeps_for-requires c =
    met_at (HasColumns c.args.program (length c.args.params.now)) c.args.made.now c.loop-new_table.new_table-index c.new_table-item.result c.loop-new_table-test.true c.new_table-item.is c.requires
