use Rattle.std.proofs.Common.{◌∙◌, ℕ, subst, sym}
use Rattle.serial_orders.specs.Reduced.{AllRiseWithin}
use Rattle.serial_orders.proofs.TracePairs.{of_writers, all_rise_within}
use Rattle.serial_orders.proofs.TraceReach.{is_reduced}
use Rattle.serial_orders.proofs.reduced.reduced_precedence.Goals as goal

pub add_writers-requires : goal.add_writers-requires
add_writers-requires c =
    let traces = c.args.traces.now in
    let m = c.in_ok-writers.writers in
    let size = c.in_ok-precedence.ensures.commits in
    subst (λ (n : ℕ). AllRiseWithin n m) (sym size) (all_rise_within traces m (of_writers traces m c.in_ok-writers.ensures.ordered c.in_ok-writers.ensures.writers))

pub add_readers-requires-clause-within : goal.add_readers-requires-clause-within
add_readers-requires-clause-within c =
    let traces = c.args.traces.now in
    let m = c.in_ok-writers.writers in
    let size = c.in_ok-add_writers.ensures.commits ∙ c.in_ok-precedence.ensures.commits in
    subst (λ (n : ℕ). AllRiseWithin n m) (sym size) (all_rise_within traces m (of_writers traces m c.in_ok-writers.ensures.ordered c.in_ok-writers.ensures.writers))

pub returns-clause-reduced : goal.returns-clause-reduced
returns-clause-reduced c =
    let traces = c.args.traces.now in
    let m = c.in_ok-writers.writers in
    is_reduced traces m c.in_ok-precedence.precedence c.add_writers.new.precedence c.add_readers.new.precedence
    (of_writers traces m c.in_ok-writers.ensures.ordered c.in_ok-writers.ensures.writers) c.in_ok-writers.ensures.writers c.requires c.in_ok-precedence.ensures.free
    c.in_ok-add_writers.ensures c.in_ok-add_readers.ensures
