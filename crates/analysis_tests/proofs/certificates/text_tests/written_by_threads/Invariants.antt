use Rattle.analysis_tests.proofs.certificates.text_tests.written_by_threads.Given as goal

abbrev pub decreases-loop-pieces : goal.decreases-loop-pieces
decreases-loop-pieces g l = l.pieces.steps
