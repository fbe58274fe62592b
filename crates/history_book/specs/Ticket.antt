-- What contracts see of a ticket.
use Rattle.std.specs.Prelude.{ℕ}

-- how many begins succeeded before its own, and the number of commits that its instance sees
pub record TicketView : Type 0 where
  pub number : ℕ
  pub start : ℕ
