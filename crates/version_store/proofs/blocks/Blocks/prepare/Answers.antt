use Rattle.version_store.proofs.blocks.Blocks.prepare.Goals as goal

pub loop-part-preserved : goal.loop-part-preserved
loop-part-preserved c = λ rise floor all. c.make.ensures rise floor (c.loop-part.invariant rise floor all)

pub returns-in_err-make : goal.returns-in_err-make
returns-in_err-make c = λ rise floor all. c.make.ensures rise floor (c.loop-part.invariant rise floor all)
