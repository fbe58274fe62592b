use Rattle.std.proofs.Common.{◌∙◌}
use Rattle.std.specs.BTreeMap.{IsFromIterResult}
use Rattle.std.proofs.lemmas.Iterator.Adapters.{fact_from_collect, YieldsList-from_vec}
use Rattle.prog_tree.specs.Table.{cell_cmp}
use Rattle.version_store.proofs.chains.map_of.Goals as goal

pub returns : goal.returns
returns c =
    fact_from_collect (IsFromIterResult cell_cmp) c.collect.result c.collect.ensures.ran
    (YieldsList-from_vec c.args.chains.items c.into_iter.ensures.rest (c.into_iter.ensures.len ∙ c.args.chains.ok.0))
