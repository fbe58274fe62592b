use Rattle.std.proofs.Common.{◌≢◌, ◌∙◌, [], ap, length, sym}
use Rattle.std.proofs.lemmas.Bool.{eqb-false}
use Rattle.analysis_words.specs.Ways.IsWaysText.{Tried}
use Rattle.analysis_words.proofs.ways.ways_of.Goals as goal

pub returns : goal.returns
returns c =
    let long = eqb-false (length c.as_slice.result.now) 0 (sym c.is_empty.ensures ∙ c.if-is_empty.false) in
    let has_pairs : c.args.plan.now.pairs ≢ [] = λ none. long (ap length (c.as_slice.ensures ∙ none)) in
    Tried has_pairs c.in_ok-by_tables.by_tables c.in_ok-by_keeps.by_keeps c.in_ok-by_tables.ensures c.in_ok-by_keeps.ensures c.ways_text.ensures
