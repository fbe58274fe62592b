use Rattle.prog_paths.proofs.Changing.{start_at_most_end, cut_between}
use Rattle.prog_paths.proofs.accesses.changers.bounds.Goals as goal

pub returns-clause-rises : goal.returns-clause-rises
returns-clause-rises c = start_at_most_end c.args.table c.args.places.now c.count_below-start.result c.count_through-end.result (c.count_below-start.ensures.cut c.requires) (c.count_through-end.ensures.cut c.requires) c.count_below-start.ensures.bound

pub returns-clause-cut : goal.returns-clause-cut
returns-clause-cut c = cut_between c.args.table c.args.places.now c.count_below-start.result c.count_through-end.result (c.count_below-start.ensures.cut c.requires) (c.count_through-end.ensures.cut c.requires) c.count_below-start.ensures.bound c.count_through-end.ensures.bound
