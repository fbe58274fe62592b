use Rattle.job_counter.specs.Passes.{budget_of}
use Rattle.job_counter.proofs.Counter.draw.Given as goal

abbrev pub ghosts-draw_by : goal.ghosts-draw_by
ghosts-draw_by a = record { amount = budget_of a.self.now }
