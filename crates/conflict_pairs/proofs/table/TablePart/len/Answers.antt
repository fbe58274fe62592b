use Rattle.std.proofs.Common.{length, sym, ap, ◌∙◌}
use Rattle.conflict_pairs.specs.Table.{Table}
use Rattle.conflict_pairs.proofs.Paired.{pairs-length}
use Rattle.conflict_pairs.proofs.table.TablePart.len.Goals as goal

pub returns : goal.returns
returns c =
    let inside = c.self.inside in
    c.len.ensures ∙ inside.listed.now.pairs.ok.0
    ∙ sym (pairs-length inside.classes.now.verdicts inside.classes.now.places inside.listed.now.pairs.items inside.listed.now.numbers.items c.self.invariant.one_each)
    ∙ ap (λ (t : Table). length t.entries) c.self.view_is
