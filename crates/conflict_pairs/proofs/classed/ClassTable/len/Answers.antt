use Rattle.std.proofs.Common.{length, ap, ◌∙◌, sym}
use Rattle.conflict_pairs.specs.Classed.{Classed}
use Rattle.conflict_pairs.proofs.ClassAnswers.{answers-length, long-each}
use Rattle.conflict_pairs.proofs.classed.ClassTable.len.Goals as goal

pub returns : goal.returns
returns c =
    let inside = c.self.inside in
    c.len.ensures ∙ inside.asked.pairs.ok.0
    ∙ sym (answers-length inside.classes inside.judged.values.items inside.asked.pairs.items inside.judged.numbers.items (long-each inside.paths.now inside.classes inside.asked inside.judged c.self.invariant))
    ∙ ap (λ (t : Classed). length t.answers) c.self.view_is
