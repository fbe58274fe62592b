use Rattle.history_book.proofs.FitLaws.{forward-runs, forward-fits}
use Rattle.history_book.proofs.laws.forward_orders_run_the_same.Goals as goal

pub returns-clause-same : goal.returns-clause-same
returns-clause-same c = forward-runs

pub returns-clause-fits : goal.returns-clause-fits
returns-clause-fits c = forward-fits
