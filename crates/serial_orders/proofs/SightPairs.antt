-- Pairs of a reader's looks.
use Rattle.std.proofs.Common.{◌≡◌, ◌∙◌, ℕ, ◌+◌, ◌<◌, List, [], ◌∷◌, ◌++◌, length, drop, get_or, ap, sym, subst}
use Rattle.std.specs.Prelude.{Some, slice_get}
use Rattle.std.proofs.lemmas.List.{drop_more}
use Rattle.std.proofs.lemmas.Option.{none-some, same_Some}
use Rattle.prog_tree.specs.Table.{Cells}
use Rattle.serial_orders.specs.Reduced.{Pairs, AddsPairs, sight_pairs, sights_pairs, readers_pairs}
use Rattle.serial_orders.specs.TraceView.{TraceView}
use Rattle.serial_orders.specs.declared.trace.Sight.{Sight}
use Rattle.serial_orders.proofs.PairLaws.{Walk, walk_on, walk_skips}

module _ (reader start : ℕ) (writers : Cells (List ℕ)) (all : Pairs) (old : List (List ℕ)) where
  first_left : (looks : List Sight) (n : ℕ) (look : Sight) → n < length looks → look ≡ get_or looks n look → drop n looks ≡ look ∷ drop (n + 1) looks
  first_left looks n look within is = drop_more looks n look within ∙ ap (λ s. s ∷ drop (n + 1) looks) (sym is)

  -- what a look says was added
  pub look_on : (looks : List Sight) (n : ℕ) (look : Sight) (now next : List (List ℕ)) → n < length looks → look ≡ get_or looks n look →
      Walk (sights_pairs reader start writers (drop n looks)) all old now → AddsPairs (sight_pairs reader start writers look) now next →
      Walk (sights_pairs reader start writers (drop (n + 1) looks)) all old next
  look_on looks n look now next within is so_far adds =
      walk_on (sights_pairs reader start writers (drop n looks)) (sight_pairs reader start writers look) (sights_pairs reader start writers (drop (n + 1) looks)) all old now next
      (ap (λ ss. sights_pairs reader start writers ss) (first_left looks n look within is)) so_far adds

  again : (rest : List Sight) (look : Sight) (now : List (List ℕ)) → slice_get rest 0 ≡ Some look →
      Walk (sight_pairs reader start writers look ++ sights_pairs reader start writers rest) all old now → Walk (sights_pairs reader start writers rest) all old now
  again [] look now first so_far = absurd (none-some look first)
  again (s ∷ ss) look now first so_far =
      walk_skips (sight_pairs reader start writers s) (sights_pairs reader start writers ss) all old now
      (subst (λ (t : Sight). Walk (sight_pairs reader start writers t ++ sights_pairs reader start writers (s ∷ ss)) all old now) (sym (same_Some s look first)) so_far)

  -- the next look says the same
  pub look_again : (looks : List Sight) (n : ℕ) (look : Sight) (now : List (List ℕ)) → n < length looks → look ≡ get_or looks n look → slice_get (drop (n + 1) looks) 0 ≡ Some look →
      Walk (sights_pairs reader start writers (drop n looks)) all old now →
      Walk (sights_pairs reader start writers (drop (n + 1) looks)) all old now
  look_again looks n look now within is first so_far =
      again (drop (n + 1) looks) look now first
      (subst (λ (ss : List Sight). Walk (sights_pairs reader start writers ss) all old now) (first_left looks n look within is) so_far)

-- what the looks of a commit say was added
pub reader_on : (writers : Cells (List ℕ)) (all : Pairs) (old : List (List ℕ)) (traces : List TraceView) (n : ℕ) (t : TraceView) (now next : List (List ℕ)) →
    n < length traces → t ≡ get_or traces n t →
    Walk (readers_pairs writers (n + 1) (drop n traces)) all old now → AddsPairs (sights_pairs (n + 1) t.start writers t.looked) now next →
    Walk (readers_pairs writers (n + 1 + 1) (drop (n + 1) traces)) all old next
reader_on writers all old traces n t now next within is so_far adds =
    walk_on (readers_pairs writers (n + 1) (drop n traces)) (sights_pairs (n + 1) t.start writers t.looked) (readers_pairs writers (n + 1 + 1) (drop (n + 1) traces)) all old now next
    (ap (λ ts. readers_pairs writers (n + 1) ts) (drop_more traces n t within ∙ ap (λ s. s ∷ drop (n + 1) traces) (sym is))) so_far adds
