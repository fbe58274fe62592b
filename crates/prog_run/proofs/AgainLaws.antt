-- What was found is held: a region that is at once looked at again has the same rows.
use Rattle.std.proofs.Common.{◌≡◌, ◌-◌, ℕ, zero, suc, List, [], ◌∷◌, length, ap, sym, subst, ◌∙◌}
use Rattle.std.specs.Prelude.{slice_get, Some}
use Rattle.prog_tree.specs.declared.cell.Cell.{Cell}
use Rattle.prog_tree.specs.declared.cell.Region.{Region}
use Rattle.prog_tree.specs.declared.look.Look.{Look}
use Rattle.prog_tree.specs.declared.look.Look.TheVariants as look
use Rattle.prog_tree.specs.Evaluation.{rows_left}
use Rattle.prog_tree.specs.Table.{TableState, rows_in}
use Rattle.prog_tree.proofs.TableStates.{none_left_out}
use Rattle.prog_run.specs.Looks.{IsFound, AreFound, last_look}

-- where all looks found what a table state holds, one of them did
pub one_found : (m : TableState) (looks : List Look) (n : ℕ) (l : Look) → slice_get looks n ≡ Some l → AreFound m looks → IsFound m l
one_found m [] n l at found = absurd (cc)
one_found m (k ∷ ks) zero l at found = let same : k ≡ l = cc in subst (IsFound m) same found.0
one_found m (k ∷ ks) (suc n) l at found = one_found m ks n l at found.1

-- a look whose parts are these
pub same_look : (looks : List Look) (looked region : Region) (own : List Cell) (rows : TableState) → last_look looks ≡ Some (look.Range looked own rows) → own ≡ [] → looked ≡ region →
    last_look looks ≡ Some (look.Range region [] rows)
same_look looks looked region own rows last none same =
    last
    ∙ ap (λ cells. Some (look.Range looked cells rows)) none
    ∙ ap (λ r. Some (look.Range r [] rows)) same

pub held_again : (looks : List Look) (region : Region) (rows : TableState) → last_look looks ≡ Some (look.Range region [] rows) → (m : TableState) → AreFound m looks → rows ≡ rows_in region m
held_again looks region rows last m found =
    let here : rows_left region [] m ≡ rows = one_found m looks (length looks - 1) (look.Range region [] rows) last found in
    sym here ∙ none_left_out (rows_in region m)
