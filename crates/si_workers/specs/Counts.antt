-- What is counted.
use Rattle.std.specs.Prelude.{List}
use Rattle.history_book.specs.declared.instances.row.Ending.{Ending}
use Rattle.si_workers.specs.KeptAndTold.{Tidings}

-- the endings of a book, and what is told of jobs
pub record Counted : Type 0 where
  pub endings : List Ending
  pub tidings : Tidings
