-- Looks that found what a table state holds.
use Rattle.std.proofs.Common.{◌≡◌, ℕ, zero, suc, ◌+◌, ◌<◌, Bool, false, true≢false, List, [], ◌∷◌, length, take, get_or, ap, sym, ◌∙◌, subst, arith}
use Rattle.std.specs.Prelude.{Some, IsTrue, ◌↔◌}
use Rattle.std.proofs.lemmas.Option.{slice_get-get_or}
use Rattle.prog_tree.specs.declared.look.Look.{Look}
use Rattle.prog_tree.specs.Table.{TableState}
use Rattle.prog_run.specs.Looks.{IsFound, AreFound}
use Rattle.history_book.specs.Runs.{IsFirstForeign}

found_next : (m : TableState) (looks : List Look) (n : ℕ) (l : Look) → n < length looks → l ≡ get_or looks n l → AreFound m (take n looks) → IsFound m l →
    AreFound m (take (suc n) looks)
found_next m [] n l within is before here = absurd (omega arith)
found_next m (k ∷ ks) zero l within is before here = (subst (IsFound m) is here, tt)
found_next m (k ∷ ks) (suc n) l within is before here = (before.0, found_next m ks n l (omega arith) is before.1 here)

pub found_one_more : (m : TableState) (looks : List Look) (n : ℕ) (l : Look) → n < length looks → l ≡ get_or looks n l → AreFound m (take n looks) → IsFound m l →
    AreFound m (take (n + 1) looks)
found_one_more m looks n l within is before here =
    let same : suc n ≡ n + 1 = omega arith in
    subst (λ k. AreFound m (take k looks)) same (found_next m looks n l within is before here)

pub first_foreign : (m : TableState) (looks : List Look) (n : ℕ) (l : Look) (b : Bool) → n < length looks → l ≡ get_or looks n l → AreFound m (take n looks) →
    (IsTrue b ↔ IsFound m l) → b ≡ false → IsFirstForeign m looks n
first_foreign m looks n l b within is before tells not = record {
  found = before;
  look = l;
  at = slice_get-get_or looks n l within ∙ ap (λ (x : Look). Some x) (sym is);
  foreign = λ found. true≢false (sym (tells.1 found) ∙ not);
}
