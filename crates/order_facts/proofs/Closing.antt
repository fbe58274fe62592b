-- The matrix, fact by fact.
use Rattle.std.proofs.Common.{◌≡◌, ◌∙◌, ℕ, List, ◌∷◌, drop, length, ◌<◌, ◌+◌, ◌||◌, ◌&&◌, refl, arith}
use Rattle.std.proofs.lemmas.List.{drop_more}
use Rattle.order_facts.specs.declared.steps.Node.TheVariants.{Mine}
use Rattle.order_facts.specs.declared.steps.Fact.{Fact}
use Rattle.order_facts.specs.Reaches.{reaches, fact_at}
use Rattle.order_facts.specs.Matrix.{IsMatrixOf}
use Rattle.order_facts.specs.Square.{Grid, entry, JoinsThrough}

-- the matrix with one more fact joined is the matrix of one more fact
pub IsMatrixOf-joined : (facts : List Fact) (old new : Grid) (at : ℕ) → at < length facts → IsMatrixOf old facts (drop (at + 1) facts) → JoinsThrough old new at → IsMatrixOf new facts (drop at facts)
unfolding reaches
IsMatrixOf-joined facts old new at inside m j = record { size = j.size ∙ m.size; entries = entries }
  where
    rest : List Fact
    rest = drop (at + 1) facts

    more : drop at facts ≡ fact_at facts at ∷ rest
    more = drop_more facts at (record { lo = Mine 0; hi = Mine 0 }) inside

    entries : (i k : ℕ) → i < new.size → k < new.size → entry new i k ≡ reaches (drop at facts) (fact_at facts i).hi (fact_at facts k).lo
    entries i k p q =
        let in_row : i < old.size = omega (arith, j.size) in
        let in_column : k < old.size = omega (arith, j.size) in
        let between : at < old.size = omega (arith, m.size) in
        let joined : entry new i k ≡ (entry old i k || (entry old i at && entry old at k)) = j.entries i k in_row in_column in
        rw (more, joined, m.entries i k in_row in_column, m.entries i at in_row between, m.entries at k between in_column) refl
