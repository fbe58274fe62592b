use Rattle.version_store.proofs.ApartLaws.{apart_taken}
use Rattle.version_store.proofs.BlockLaws.{taken_true}
use Rattle.version_store.proofs.blocks.Blocks.remove.Goals as goal

pub invariant_of-self : goal.invariant_of-self
invariant_of-self c = apart_taken c.self.inside.slots.entries c.remove.new.self.entries c.args.key.now c.remove.ensures.updates.0 c.self.invariant

pub returns : goal.returns
returns c =
    let m = c.self.inside.slots.entries in
    let n = c.remove.new.self.entries in
    rw (← c.self.view_is) (record {
      gone = c.remove.ensures.updates.0;
      stays = λ chains floor all. taken_true floor chains m n c.args.key.now c.remove.ensures.updates.0 all;
    })
