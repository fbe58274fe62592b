use Rattle.std.proofs.Common.{subst, sym}
use Rattle.version_store.specs.Blocks.{IsTrueBlock}
use Rattle.version_store.proofs.BlockLaws.{true_from}
use Rattle.version_store.proofs.block.Slot.add.Goals as goal

pub returns-clause-true_slot : goal.returns-clause-true_slot
returns-clause-true_slot c = λ floor chains fresh holds. (
  subst (IsTrueBlock floor chains c.args.self.now.region) (sym c.replace-newest.ensures.after) (true_from floor chains _ _ fresh),
  subst (IsTrueBlock floor chains c.args.self.now.region) (sym c.replace-newest.ensures.value) holds.0,
)

pub returns-then-block-self-clause-true_slot : goal.returns-then-block-self-clause-true_slot
returns-then-block-self-clause-true_slot c = λ floor chains fresh holds. (holds.0, true_from floor chains _ _ fresh)
