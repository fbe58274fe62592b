use Rattle.version_store.proofs.blocks.Blocks.fill.Goals as goal

pub loop-part-preserved : goal.loop-part-preserved
loop-part-preserved c = λ rise floor all. c.insert.ensures.stays c.args.chains.now (c.in_ok-walked.ensures.says rise) floor (c.loop-part.invariant rise floor all)

pub returns-in_err-insert : goal.returns-in_err-insert
returns-in_err-insert c = λ rise floor all. c.insert.ensures.stays c.args.chains.now (c.in_ok-walked.ensures.says rise) floor (c.loop-part.invariant rise floor all)
