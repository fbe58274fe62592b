-- What walks that add pairs of commits keep.
use Rattle.std.proofs.Common.{◌≡◌, ◌∙◌, ◌==◌, ℕ, ◌&&◌, ◌||◌, List, [], ◌++◌, length, refl, ap, sym}
use Rattle.std.proofs.Math.Bool.{or_assoc, or_self_left, or-false}
use Rattle.std.proofs.lemmas.List.Folds.{list_any-append}
use Rattle.serial_orders.specs.Precedence.{precedes}
use Rattle.serial_orders.specs.Reduced.{Pairs, is_pair_among, AddsPairs}

pub among-append : (ps qs : Pairs) (i j : ℕ) → is_pair_among (ps ++ qs) i j ≡ (is_pair_among ps i j || is_pair_among qs i j)
among-append ps qs i j = list_any-append (λ (p : ℕ × ℕ). (i == p.0) && (j == p.1)) ps qs

-- with the pairs that are left, the lists are what they will be at the end
pub record Walk (rest all : Pairs) (old now : List (List ℕ)) : Type 0 where
  pub towards : (i j : ℕ) → (precedes now i j || is_pair_among rest i j) ≡ (precedes old i j || is_pair_among all i j)
  pub commits : length now ≡ length old

pub walk_begins : (all : Pairs) (old : List (List ℕ)) → Walk all all old old
walk_begins all old = record { towards = λ i j. refl; commits = refl }

pub walk_on : (left ps rest all : Pairs) (old now next : List (List ℕ)) → left ≡ ps ++ rest → Walk left all old now → AddsPairs ps now next → Walk rest all old next
walk_on left ps rest all old now next is walk adds = record {
  towards = λ i j.
      ap (λ b. b || is_pair_among rest i j) (adds.pairs i j)
      ∙ or_assoc (precedes now i j) (is_pair_among ps i j) (is_pair_among rest i j)
      ∙ ap (λ b. precedes now i j || b) (sym (among-append ps rest i j))
      ∙ ap (λ (qs : Pairs). precedes now i j || is_pair_among qs i j) (sym is)
      ∙ walk.towards i j;
  commits = adds.commits ∙ walk.commits;
}

-- pairs that stand among those that are left behind them need not be added
pub walk_skips : (ps rest all : Pairs) (old now : List (List ℕ)) → Walk (ps ++ (ps ++ rest)) all old now → Walk (ps ++ rest) all old now
walk_skips ps rest all old now walk = record {
  towards = λ i j.
      ap (λ b. precedes now i j || b)
      (among-append ps rest i j ∙ sym (or_self_left (is_pair_among ps i j) (is_pair_among rest i j)) ∙ ap (λ b. is_pair_among ps i j || b) (sym (among-append ps rest i j)) ∙ sym (among-append ps (ps ++ rest) i j))
      ∙ walk.towards i j;
  commits = walk.commits;
}

-- nothing was added
pub no_pair : (p : List (List ℕ)) → AddsPairs [] p p
no_pair p = record { commits = refl; pairs = λ i j. sym (or-false (precedes p i j)) }

pub both_pairs : (ps qs : Pairs) (old mid new : List (List ℕ)) → AddsPairs ps old mid → AddsPairs qs mid new → AddsPairs (ps ++ qs) old new
both_pairs ps qs old mid new first second = record {
  commits = second.commits ∙ first.commits;
  pairs = λ i j.
      second.pairs i j
      ∙ ap (λ b. b || is_pair_among qs i j) (first.pairs i j)
      ∙ or_assoc (precedes old i j) (is_pair_among ps i j) (is_pair_among qs i j)
      ∙ ap (λ b. precedes old i j || b) (sym (among-append ps qs i j));
}
