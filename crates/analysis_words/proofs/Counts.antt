-- Counts of covers: what changes where one of them grows, and which of them is the greatest.
use Rattle.std.proofs.Common.{◌≡◌, ◌≢◌, ◌∙◌, ◌+◌, ◌<◌, ◌≤◌, ◌==◌, ◌&&◌, ◌∷◌, [], ◌++◌, ℕ, zero, suc, Bool, true, false, cond, List, Vec, Option, None, Some, length, get_or, take, set, inl, inr, ◌⊎◌, refl, sym, ap, subst, arith, option_map, option_and_then, slice_get}
use Rattle.std.proofs.lemmas.Bool.Decides.{eqb_tells}
use Rattle.std.proofs.lemmas.List.{get_or-map, length-map, take_more}
use Rattle.std.proofs.lemmas.Option.{option_and_then_some, same_Some, slice_get_read, slice_get_within}
use Rattle.std.specs.declared.alloc.Global.{Global}
use Rattle.prog_check.specs.declared.path.Access.{Access}
use Rattle.prog_check.specs.declared.path.Path.{Path}
use Rattle.robust_cert.specs.declared.entries.Reason.{Reason}
use Rattle.robust_cert.specs.declared.entries.Told.{Told}
use Rattle.robust_cert.specs.Sharing.{Entry, entries_told, entry_told, entry_with, reason_at}
use Rattle.std.proofs.lemmas.List.Sums.{sum_by_push}
use Rattle.analysis_words.specs.declared.entry_counts.Covering.{Covering}
use Rattle.analysis_words.specs.Nodes.{access_at}
use Rattle.prog_paths.specs.StaticGraph.{Precedes}
use Rattle.analysis_words.specs.Counts.{AddsCounts, CountsCovers, IsMost, IsMostAmong, apart_count, count_at, cover_count, is_apart, is_in_cover, most_count, one_if}
use Rattle.prog_tree.proofs.Elements.{get-set_same, get-set_other}

-- ---- what stands at two numbers

-- the item of a number of the list of a row
abbrev pub item_at : {X Y : Type 0} → (X → List Y) → List X → ℕ → ℕ → Option Y
item_at f rows x a = option_and_then (λ r. slice_get (f r) a) (slice_get rows x)

-- two lists of rows to which one row each is added
pub rows-more : {X Y Z W : Type 0} (f : X → List Y) (g : Z → List W) (h : W → Y) (rows : List X) (others : List Z) (row : X) (other : Z)
    → length rows ≡ length others
    → ((x a : ℕ) → item_at f rows x a ≡ option_map h (item_at g others x a))
    → ((a : ℕ) → slice_get (f row) a ≡ option_map h (slice_get (g other) a))
    → (x a : ℕ) → item_at f (rows ++ row ∷ []) x a ≡ option_map h (item_at g (others ++ other ∷ []) x a)
rows-more f g h [] [] row other same so_far more zero a = more a
rows-more f g h [] [] row other same so_far more (suc x) a = refl
rows-more f g h [] (o ∷ others) row other same so_far more x a = absurd (omega (arith, same))
rows-more f g h (r ∷ rows) [] row other same so_far more x a = absurd (omega (arith, same))
rows-more f g h (r ∷ rows) (o ∷ others) row other same so_far more zero a = so_far 0 a
rows-more f g h (r ∷ rows) (o ∷ others) row other same so_far more (suc x) a =
    rows-more f g h rows others row other (omega (arith, same)) (λ y b. so_far (suc y) b) more x a

-- an item that is read twice
pub same-read : {X : Type 0} (xs : List X) (i : ℕ) (x y : X) → i < length xs → x ≡ get_or xs i x → y ≡ get_or xs i y → x ≡ y
same-read xs i x y lt p q = same_Some x y (sym (slice_get_read xs (length xs) i x refl lt p) ∙ slice_get_read xs (length xs) i y refl lt q)

-- 0 more is nothing more
pub none-more : (o : Option ℕ) → option_map (λ (n : ℕ). n + 0) o ≡ o
none-more None = refl
none-more (Some n) = ap Some (omega arith)

-- ---- more is counted

pub adds-same : (more others : ℕ → ℕ → ℕ) (old new : List (Vec ℕ Global)) → ((x a : ℕ) → more x a ≡ others x a) → AddsCounts more old new → AddsCounts others old new
adds-same more others old new same adds x a = adds x a ∙ ap (λ (m : ℕ). option_map (λ (n : ℕ). n + m) (count_at old x a)) (same x a)

-- the row of a node, where it is set
module _ (old : List (Vec ℕ Global)) (node : ℕ) (v w : Vec ℕ Global) (there : slice_get old node ≡ Some v) where
  at-row : (x a : ℕ) → x ≡ node → count_at old x a ≡ slice_get v.items a
  at-row x a e = ap (λ (o : Option (Vec ℕ Global)). option_and_then (λ (r : Vec ℕ Global). slice_get r.items a) o) (ap (slice_get old) e ∙ there)

  set-row : (x a : ℕ) → x ≡ node → count_at (set old node w) x a ≡ slice_get w.items a
  set-row x a e =
      ap (λ (o : Option (Vec ℕ Global)). option_and_then (λ (r : Vec ℕ Global). slice_get r.items a) o)
      (ap (slice_get (set old node w)) e ∙ get-set_same old node w (slice_get_within old node v there))

  set-others : (x a : ℕ) → x ≢ node → count_at (set old node w) x a ≡ count_at old x a
  set-others x a e = ap (λ (o : Option (Vec ℕ Global)). option_and_then (λ (r : Vec ℕ Global). slice_get r.items a) o) (get-set_other old node x w e)

  -- one count of the row grows by 1
  pub one-more : (access n : ℕ) → slice_get v.items access ≡ Some n → w.items ≡ set v.items access (n + 1) → AddsCounts (λ x a. one_if ((node == x) && (access == a))) old (set old node w)
  one-more access n is grown x a = go (eqb_tells node x) (eqb_tells access a)
    where
      within : access < length v.items
      within = slice_get_within v.items access n is

      go : ((node == x) ≡ true) × (node ≡ x) ⊎ ((node == x) ≡ false) × (node ≢ x) → ((access == a) ≡ true) × (access ≡ a) ⊎ ((access == a) ≡ false) × (access ≢ a)
          → count_at (set old node w) x a ≡ option_map (λ (m : ℕ). m + one_if ((node == x) && (access == a))) (count_at old x a)
      go (inr e) t =
          set-others x a (λ s. e.1 (sym s))
          ∙ sym (ap (λ (b : Bool). option_map (λ (m : ℕ). m + one_if (b && (access == a))) (count_at old x a)) e.0 ∙ none-more (count_at old x a))
      go (inl e) (inr t) =
          set-row x a (sym e.1) ∙ ap (λ (l : List ℕ). slice_get l a) grown ∙ get-set_other v.items access a (n + 1) (λ s. t.1 (sym s)) ∙ sym (at-row x a (sym e.1))
          ∙ sym (ap (λ (b : Bool). option_map (λ (m : ℕ). m + one_if (b && (access == a))) (count_at old x a)) e.0
          ∙ ap (λ (b : Bool). option_map (λ (m : ℕ). m + one_if b) (count_at old x a)) t.0 ∙ none-more (count_at old x a))
      go (inl e) (inl t) =
          set-row x a (sym e.1) ∙ ap (λ (l : List ℕ). slice_get l a) grown ∙ ap (slice_get (set v.items access (n + 1))) (sym t.1) ∙ get-set_same v.items access (n + 1) within
          ∙ sym (ap (λ (b : Bool). option_map (λ (m : ℕ). m + one_if (b && (access == a))) (count_at old x a)) e.0
          ∙ ap (λ (b : Bool). option_map (λ (m : ℕ). m + one_if b) (count_at old x a)) t.0
          ∙ ap (λ (o : Option ℕ). option_map (λ (m : ℕ). m + 1) o) (at-row x a (sym e.1) ∙ ap (slice_get v.items) (sym t.1) ∙ is))

  -- the counts of the row grow as told
  pub row-more : (more : ℕ → ℕ) → ((a : ℕ) → slice_get w.items a ≡ option_map (λ (n : ℕ). n + more a) (slice_get v.items a)) → AddsCounts (λ x a. cond (node == x) (more a) 0) old (set old node w)
  row-more more grown x a = go (eqb_tells node x)
    where
      go : ((node == x) ≡ true) × (node ≡ x) ⊎ ((node == x) ≡ false) × (node ≢ x) → count_at (set old node w) x a ≡ option_map (λ (m : ℕ). m + cond (node == x) (more a) 0) (count_at old x a)
      go (inr e) =
          set-others x a (λ s. e.1 (sym s))
          ∙ sym (ap (λ (b : Bool). option_map (λ (m : ℕ). m + cond b (more a) 0) (count_at old x a)) e.0 ∙ none-more (count_at old x a))
      go (inl e) =
          set-row x a (sym e.1) ∙ grown a
          ∙ sym (ap (λ (b : Bool). option_map (λ (m : ℕ). m + cond b (more a) 0) (count_at old x a)) e.0
          ∙ ap (λ (o : Option ℕ). option_map (λ (m : ℕ). m + more a) o) (at-row x a (sym e.1)))

-- ---- one entry more

pub counted-more : (paths : List Path) (es : List Entry) (e : Entry) (old new : List (Vec ℕ Global)) → CountsCovers paths es old
    → AddsCounts (λ x a. one_if (is_in_cover x a e.question e.reason)) old new → CountsCovers paths (es ++ e ∷ []) new
counted-more paths es e old new so_far adds x a =
    adds x a ∙ ap (λ (o : Option ℕ). option_map (λ (n : ℕ). n + one_if (is_in_cover x a e.question e.reason)) o) (so_far x a) ∙ one (access_at paths x a)
  where
    one : (o : Option Access) → option_map (λ (n : ℕ). n + one_if (is_in_cover x a e.question e.reason)) (option_map (λ (_ : Access). cover_count es x a) o)
        ≡ option_map (λ (_ : Access). cover_count (es ++ e ∷ []) x a) o
    one None = refl
    one (Some access) = ap Some (sym (sum_by_push (λ (d : Entry). cond (is_in_cover x a d.question d.reason) 1 0) es e))

-- the entries up to the next one, of this question and reason
module _ (rs : List Reason) (told : List Told) (k : ℕ) (t d : Told) (r : Reason) (lt : k < length told) (is : t ≡ get_or told k d) (reason : r ≡ reason_at rs t.reason) where
  entry-next : take (k + 1) (entries_told rs told) ≡ take k (entries_told rs told) ++ entry_with t.question r ∷ []
  entry-next =
      let es = entries_told rs told in
      let long = length-map told (entry_told rs) in
      let item : get_or es k (entry_told rs d) ≡ entry_with t.question r =
      get_or-map (entry_told rs) told k d (entry_told rs d) lt ∙ ap (entry_told rs) (sym is) ∙ ap (entry_with t.question) (sym reason) in
      take_more es k (entry_told rs d) (omega (arith, lt, long)) ∙ ap (λ (e : Entry). take k es ++ e ∷ []) item

  pub apart-next : apart_count (take (k + 1) (entries_told rs told)) ≡ apart_count (take k (entries_told rs told)) + one_if (is_apart r)
  apart-next = ap apart_count entry-next ∙ sum_by_push (λ (e : Entry). one_if (is_apart e.reason)) (take k (entries_told rs told)) (entry_with t.question r)

  pub counted-next : (paths : List Path) (old new : List (Vec ℕ Global)) → CountsCovers paths (take k (entries_told rs told)) old
      → AddsCounts (λ x a. one_if (is_in_cover x a t.question r)) old new → CountsCovers paths (take (k + 1) (entries_told rs told)) new
  counted-next paths old new so_far adds =
      subst (λ (l : List Entry). CountsCovers paths l new) (sym entry-next)
      (counted-more paths (take k (entries_told rs told)) (entry_with t.question r) old new so_far adds)

-- ---- the greatest count

below : (n m : ℕ) → m < n + 1 → m ≢ n → m < n
below zero zero lt other = absurd (other refl)
below zero (suc m) lt other = absurd (omega (arith, lt))
below (suc n) zero lt other = omega arith
below (suc n) (suc m) lt other = let less = below n m (omega (arith, lt)) (λ e. other (ap suc e)) in omega (arith, less)

module _ (count : (x a : ℕ) → Option ℕ) (node access : ℕ) (most : Option Covering) (so_far : IsMostAmong count (λ x a. Precedes x a node access) most) where
  -- one that stands before the next place stands before this one or here
  before-or-here : (x a : ℕ) → Precedes x a node (access + 1) → Precedes x a node access ⊎ (x ≡ node) × (a ≡ access)
  before-or-here x a (inl lt) = inl (inl lt)
  before-or-here x a (inr here) = near (eqb_tells a access)
    where
      near : ((a == access) ≡ true) × (a ≡ access) ⊎ ((a == access) ≡ false) × (a ≢ access) → Precedes x a node access ⊎ (x ≡ node) × (a ≡ access)
      near (inl e) = inr (here.0, e.1)
      near (inr e) = inl (inr (here.0, below access a here.1 e.1))

  here-is : (n : ℕ) → count node access ≡ Some n → (x a m : ℕ) → count x a ≡ Some m → x ≡ node → a ≡ access → m ≡ n
  here-is n is x a m at e f = same_Some m n (sym at ∙ ap (λ y. count y a) e ∙ ap (count node) f ∙ is)

  -- it stays, where the next one is not greater
  pub most-stays : (n : ℕ) → count node access ≡ Some n → n ≤ most_count most → IsMostAmong count (λ x a. Precedes x a node (access + 1)) most
  most-stays n is le = record {
    none_above = λ x a m before at. by x a m at (before-or-here x a before);
    found = so_far.found;
    first = so_far.first;
  }
    where
      by : (x a m : ℕ) → count x a ≡ Some m → Precedes x a node access ⊎ (x ≡ node) × (a ≡ access) → m ≤ most_count most
      by x a m at (inl before) = so_far.none_above x a m before at
      by x a m at (inr here) = let e = here-is n is x a m at here.0 here.1 in omega (arith, e, le)

  -- the next one takes its place, where it is greater
  pub most-grows : (n : ℕ) → count node access ≡ Some n → most_count most < n
      → IsMostAmong count (λ x a. Precedes x a node (access + 1)) (Some (record { node = node; access = access; count = n }))
  most-grows n is lt = record {
    none_above = λ x a m before at. by x a m at (before-or-here x a before);
    found = (is, some most lt);
    first = λ x a m at before. let le = so_far.none_above x a m before at in omega (arith, le, lt);
  }
    where
      some : (o : Option Covering) → most_count o < n → 0 < n
      some None h = h
      some (Some c) h = omega (arith, h)

      by : (x a m : ℕ) → count x a ≡ Some m → Precedes x a node access ⊎ (x ≡ node) × (a ≡ access) → m ≤ n
      by x a m at (inl before) = let le = so_far.none_above x a m before at in omega (arith, le, lt)
      by x a m at (inr here) = let e = here-is n is x a m at here.0 here.1 in omega (arith, e)

-- behind the last access of a node comes the next node
pub next-node : (count : (x a : ℕ) → Option ℕ) (node accesses : ℕ) (most : Option Covering) → ((x a n : ℕ) → count x a ≡ Some n → x ≡ node → a < accesses)
    → IsMostAmong count (λ x a. Precedes x a node accesses) most → IsMostAmong count (λ x a. Precedes x a (node + 1) 0) most
next-node count node accesses most within so_far = record {
  none_above = λ x a n before at. so_far.none_above x a n (by x a n at (eqb_tells x node) before) at;
  found = so_far.found;
  first = so_far.first;
}
  where
    by : (x a n : ℕ) → count x a ≡ Some n → ((x == node) ≡ true) × (x ≡ node) ⊎ ((x == node) ≡ false) × (x ≢ node) → Precedes x a (node + 1) 0 → Precedes x a node accesses
    by x a n at (inl e) before = inr (e.1, within x a n at e.1)
    by x a n at (inr e) (inl lt) = inl (below node x lt e.1)
    by x a n at (inr e) (inr here) = let none = here.1 in absurd (omega (arith, none))

-- nothing stands before the first place
pub none-yet : (count : (x a : ℕ) → Option ℕ) → IsMostAmong count (λ x a. Precedes x a 0 0) None
none-yet count = record { none_above = λ x a n before at. none x a n before; found = tt; first = tt }
  where
    none : (x a n : ℕ) → Precedes x a 0 0 → n ≤ 0
    none x a n (inl lt) = absurd (omega (arith, lt))
    none x a n (inr here) = let lt = here.1 in absurd (omega (arith, lt))

-- the row of a node that is read
pub row-read : (counts : List (Vec ℕ Global)) (node : ℕ) (v : Vec ℕ Global) → node < length counts → v ≡ get_or counts node v → (a : ℕ) → count_at counts node a ≡ slice_get v.items a
row-read counts node v lt is a = at-row counts node v v (slice_get_read counts (length counts) node v refl lt is) node a refl

-- every count stands before the node behind the last
pub all-counts : (counts : List (Vec ℕ Global)) (node : ℕ) (most : Option Covering) → length counts ≤ node → IsMostAmong (count_at counts) (λ x a. Precedes x a node 0) most → IsMost (count_at counts) most
all-counts counts node most le so_far = record {
  none_above = λ x a n any at. so_far.none_above x a n (inl (inside x a n at)) at;
  found = so_far.found;
  first = so_far.first;
}
  where
    inside : (x a n : ℕ) → count_at counts x a ≡ Some n → x < node
    inside x a n at =
        option_and_then_some (λ (r : Vec ℕ Global). slice_get r.items a) (slice_get counts x) n at
        (λ row is found. let lt = slice_get_within counts x row is in omega (arith, lt, le))

-- counts that are the same have the same greatest one
pub most-same : (count others : (x a : ℕ) → Option ℕ) → ((x a : ℕ) → count x a ≡ others x a) → (most : Option Covering) → IsMost count most → IsMost others most
most-same count others same None is = record { none_above = λ x a n any at. is.none_above x a n any (same x a ∙ at); found = tt; first = tt }
most-same count others same (Some m) is = record {
  none_above = λ x a n any at. is.none_above x a n any (same x a ∙ at);
  found = (sym (same m.node m.access) ∙ is.found.0, is.found.1);
  first = λ x a n at before. is.first x a n (same x a ∙ at) before;
}
