use Rattle.std.proofs.Common.{rules}
use Rattle.analysis_tests.proofs.certificates.text_tests.written_by_threads.Goals as goal

pub loop-pieces-smaller : goal.loop-pieces-smaller
loop-pieces-smaller g c = c.advance_par.ensures.fewer (c.has_more.ensures.more (search rules))
