-- When the accesses at two places of two paths are a question.
use Rattle.std.proofs.Common.{◌≡◌, ◌↔◌, ℕ, ◌<◌, Bool, true, refl, sym, subst, ◌∙◌, length, get_or, List}
use Rattle.std.specs.Prelude.{Some, slice_get}
use Rattle.std.proofs.lemmas.Option.{slice_get_within, slice_get-get_or, get_or_from_slice_get}
use Rattle.prog_check.specs.declared.path.Access.{Access}
use Rattle.prog_check.specs.declared.path.Path.{Path}
use Rattle.prog_paths.specs.Questions.{IsQuestion, two, between, asks}
use Rattle.prog_paths.proofs.Questions.{placed}
use Rattle.conflict_pairs.proofs.Meaning.{access-first, access-second}
use Rattle.prog_paths.proofs.Membership.{Asks-from_asks, asks-from_Asks}

pub first_within : (x y : Path) (a b : ℕ) → IsQuestion (two x y) (between a b) → a < length x.accesses
first_within x y a b q = slice_get_within x.accesses a q.mine (access-first x y a q.mine q.asked.at_mine)

pub second_within : (x y : Path) (a b : ℕ) → IsQuestion (two x y) (between a b) → b < length y.accesses
second_within x y a b q = slice_get_within y.accesses b q.theirs (access-second x y b q.theirs q.asked.at_theirs)

asks-question : (x y : Path) (a b : ℕ) (mine theirs : Access) → slice_get x.accesses a ≡ Some mine → slice_get y.accesses b ≡ Some theirs → asks (placed 0 a mine) (placed 1 b theirs) ≡ true → IsQuestion (two x y) (between a b)
asks-question x y a b mine theirs at_mine at_theirs e =
    let k = Asks-from_asks (placed 0 a mine) (placed 1 b theirs) e in
    record { mine = mine; theirs = theirs; asked = record { at_mine = (x, refl, at_mine); at_theirs = (y, refl, at_theirs); table = k.0 }; asks = k.1 }

question-asks : (x y : Path) (a b : ℕ) (d e : Access) → IsQuestion (two x y) (between a b) → asks (placed 0 a (get_or x.accesses a d)) (placed 1 b (get_or y.accesses b e)) ≡ true
question-asks x y a b d e q =
    let first = get_or_from_slice_get x.accesses a q.mine d (access-first x y a q.mine q.asked.at_mine) in
    let second = get_or_from_slice_get y.accesses b q.theirs e (access-second x y b q.theirs q.asked.at_theirs) in
    (λ i. asks (placed 0 a (first i)) (placed 1 b (second i))) ∙ asks-from_Asks (placed 0 a q.mine) (placed 1 b q.theirs) q.asked.table q.asks

-- the test is true just of questions
pub asks-exact : (x y : Path) (a b : ℕ) (xs ys : List Access) (d e : Access) (r : Bool) → xs ≡ x.accesses → ys ≡ y.accesses → a < length xs → b < length ys → r ≡ asks (placed 0 a (get_or xs a d)) (placed 1 b (get_or ys b e)) → (r ≡ true) ↔ IsQuestion (two x y) (between a b)
asks-exact x y a b xs ys d e r is_xs is_ys lt le is = (
  λ t. asks-question x y a b (get_or xs a d) (get_or ys b e)
      (subst (λ (l : List Access). slice_get l a ≡ Some (get_or xs a d)) is_xs (slice_get-get_or xs a d lt))
      (subst (λ (l : List Access). slice_get l b ≡ Some (get_or ys b e)) is_ys (slice_get-get_or ys b e le)) (sym is ∙ t),
  λ q. is ∙ (λ i. asks (placed 0 a (get_or (is_xs i) a d)) (placed 1 b (get_or (is_ys i) b e))) ∙ question-asks x y a b d e q,
)
