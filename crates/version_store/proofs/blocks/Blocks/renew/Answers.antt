use Rattle.version_store.proofs.blocks.Blocks.renew.Goals as goal

pub returns-then-walked-le-MOST_CELLS : goal.returns-then-walked-le-MOST_CELLS
returns-then-walked-le-MOST_CELLS c = λ rise floor all. c.add.ensures.stays c.args.chains.now (c.in_ok-walked.ensures.says rise) floor all

pub returns : goal.returns
returns c = λ rise floor all. c.fill.ensures rise floor (c.remove.ensures.stays c.args.chains.now floor all)
