use Rattle.engine_tests.proofs.store.calls.alone.Goals as goal

pub from_vec-requires : goal.from_vec-requires
from_vec-requires c = c.in_ok-sort.ensures.sorted
