use Rattle.version_store.proofs.CommitLaws.{cut_back}
use Rattle.version_store.proofs.chains.Chains.add_commit.Goals as goal

pub returns-in_default-clause-err : goal.returns-in_default-clause-err
returns-in_default-clause-err c =
    cut_back c.args.number c.args.changes.now c.args.self.now c.add_touches.new.self c.cut_touched.new.self c.in_default.ensures.err c.cut_touched.ensures.chains
