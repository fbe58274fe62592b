-- Laws of walks over rows in pieces.
use Rattle.std.proofs.Common.{◌≡◌, ◌↔◌, ◌∙◌, Bool, IsTrue, [], ◌∷◌, ◌++◌, length, refl, rules, sym, nat_eq}
use Rattle.std.proofs.lemmas.Bool.{eqb-true}
use Rattle.prog_tree.specs.Table.{TableState}

-- nothing is left of a walk exactly where its piece has no rows
pub nothing_left : (rows behind all : TableState) (empty : Bool) → (rows ≡ [] → behind ≡ []) → rows ++ behind ≡ all → empty ≡ nat_eq (length rows) 0 → IsTrue empty ↔ (all ≡ [])
nothing_left [] behind all empty none is tells = (λ e. sym is ∙ none refl, λ e. search rules)
nothing_left (row ∷ rows) behind all empty none is tells = (λ e. let zero = eqb-true (length (row ∷ rows)) 0 (sym tells ∙ e) in absurd (cc), λ e. absurd (cc))
