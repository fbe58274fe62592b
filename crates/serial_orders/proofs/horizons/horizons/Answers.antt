use Rattle.std.proofs.Common.{rules}
use Rattle.serial_orders.proofs.HorizonLaws.{raised_horizons}
use Rattle.serial_orders.proofs.horizons.horizons.Goals as goal

pub returns : goal.returns
returns c = search (rules, raised_horizons)
