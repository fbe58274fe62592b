-- What is entered into tables one after the other.
use Rattle.std.proofs.Common.{◌≡◌, ◌≢◌, ℕ, ◌<◌, ◌≤◌, ◌+◌, ◌⊎◌, inl, inr, List, [], take, length, get_or, Bool, true, false, ◌||◌, ◌&&◌, refl, sym, ap, subst, ◌∙◌, arith}
use Rattle.std.specs.Prelude.{◌==◌}
use Rattle.std.specs.List.{list_any}
use Rattle.std.proofs.lemmas.Bool.Decides.{eqb_tells}
use Rattle.std.proofs.lemmas.List.Folds.{list_any_more}
use Rattle.std.proofs.Math.Bool.{or_assoc, or-false, and-or_distrib_left, and-or_distrib_right}
use Rattle.std.proofs.lemmas.Bool.{or_right}
use Rattle.order_facts.specs.Sets.{is_in, InsertsNode}
use Rattle.order_facts.specs.Square.{Grid, entry, IsEmptySquare, IsSquareOf, Enters, JoinsSet}
use Rattle.prog_paths.specs.declared.accesses.mark.EdgeTables.{EdgeTables}
use Rattle.conflict_pairs.specs.Classed.{ClassAnswer}
use Rattle.dep_graph.specs.Edges.{answer_edge, answer_vulnerable, is_one_of, EntersAnswer}

-- ---- one table

pub Enters-as : (old new : Grid) (t u : ℕ → ℕ → Bool) → ((i j : ℕ) → i < old.size → j < old.size → t i j ≡ u i j) → Enters old new t → Enters old new u
Enters-as old new t u same e = record { size = e.size; entries = λ i j p q. e.entries i j p q ∙ ap (λ (b : Bool). entry old i j || b) (same i j p q) }

pub Enters-nothing : (grid : Grid) (t : ℕ → ℕ → Bool) → ((i j : ℕ) → t i j ≡ false) → Enters grid grid t
Enters-nothing grid t none = record { size = refl; entries = λ i j p q. sym (ap (λ (b : Bool). entry grid i j || b) (none i j) ∙ or-false (entry grid i j)) }

pub Enters-then : (first old new : Grid) (t u : ℕ → ℕ → Bool) → Enters first old t → Enters old new u → Enters first new (λ i j. t i j || u i j)
Enters-then first old new t u d e = record {
  size = e.size ∙ d.size;
  entries = λ i j p q.
      e.entries i j (omega (arith, p, d.size)) (omega (arith, q, d.size))
      ∙ ap (λ (b : Bool). b || u i j) (d.entries i j p q)
      ∙ or_assoc (entry first i j) (t i j) (u i j);
}

-- one node more of some is joined to another one, or it to one node more
pub one-more-first : (nodes : List ℕ) (n : ℕ) → n < length nodes → (first old new : Grid) (x y : ℕ) → x ≡ get_or nodes n 0
    → Enters first old (λ i j. is_one_of (take n nodes) i && (y == j)) → Enters old new (λ i j. (x == i) && (y == j))
    → Enters first new (λ i j. is_one_of (take (n + 1) nodes) i && (y == j))
one-more-first nodes n inside first old new x y is before one =
    Enters-as first new _ _
    (λ i j p q.
    sym (and-or_distrib_right (is_one_of (take n nodes) i) (x == i) (y == j))
    ∙ ap (λ (b : Bool). b && (y == j)) (ap (λ (m : ℕ). is_one_of (take n nodes) i || m == i) is ∙ sym (list_any_more (λ m. m == i) nodes n 0 inside)))
    (Enters-then first old new _ _ before one)

pub one-more-second : (nodes : List ℕ) (n : ℕ) → n < length nodes → (first old new : Grid) (x y : ℕ) → y ≡ get_or nodes n 0
    → Enters first old (λ i j. (x == i) && is_one_of (take n nodes) j) → Enters old new (λ i j. (x == i) && (y == j))
    → Enters first new (λ i j. (x == i) && is_one_of (take (n + 1) nodes) j)
one-more-second nodes n inside first old new x y is before one =
    Enters-as first new _ _
    (λ i j p q.
    sym (and-or_distrib_left (x == i) (is_one_of (take n nodes) j) (y == j))
    ∙ ap (λ (b : Bool). (x == i) && b) (ap (λ (m : ℕ). is_one_of (take n nodes) j || m == j) is ∙ sym (list_any_more (λ m. m == j) nodes n 0 inside)))
    (Enters-then first old new _ _ before one)

-- ---- rows and sets

-- a row joins the nodes of a set
Enters-row : (old new : Grid) (row : ℕ) (members : List Bool) → JoinsSet old new row members → Enters old new (λ i j. row == i && is_in members j)
Enters-row old new row members joins = record { size = joins.size; entries = λ i j p q. by i j p q (eqb_tells row i) }
  where
    by : (i j : ℕ) → i < old.size → j < old.size → (((row == i) ≡ true) × (row ≡ i)) ⊎ (((row == i) ≡ false) × (row ≢ i)) → entry new i j ≡ (entry old i j || (row == i && is_in members j))
    by i j p q (inl e) =
        subst (λ (n : ℕ). entry new n j ≡ (entry old n j || (row == i && is_in members j))) e.1
        (joins.here j q ∙ ap (λ (b : Bool). entry old row j || (b && is_in members j)) (sym e.0))
    by i j p q (inr d) =
        joins.others i j p q (λ k. d.1 (sym k))
        ∙ sym (ap (λ (b : Bool). entry old i j || (b && is_in members j)) d.0 ∙ or-false (entry old i j))

module _ (nodes : List ℕ) (n : ℕ) (inside : n < length nodes) where
  node : ℕ
  node = get_or nodes n 0

  -- so one node more of some is joined to a set
  pub Enters-row_more : (first old new : Grid) (members : List Bool) (row : ℕ) → row ≡ get_or nodes n 0 → Enters first old (λ x y. is_one_of (take n nodes) x && is_in members y) → JoinsSet old new row members → Enters first new (λ x y. is_one_of (take (n + 1) nodes) x && is_in members y)
  Enters-row_more first old new members row is before joins =
      Enters-as first new _ _
      (λ i j p q.
      sym (and-or_distrib_right (is_one_of (take n nodes) i) (row == i) (is_in members j))
      ∙ ap (λ (b : Bool). b && is_in members j) (ap (λ (m : ℕ). is_one_of (take n nodes) i || m == i) is ∙ sym (list_any_more (λ m. m == i) nodes n 0 inside)))
      (Enters-then first old new _ _ before (Enters-row old new row members joins))

  -- a node beyond the table is none of it
  beyond : (i : ℕ) → i < get_or nodes n 0 → is_one_of (take (n + 1) nodes) i ≡ is_one_of (take n nodes) i
  beyond i l = list_any_more (λ m. m == i) nodes n 0 inside ∙ by (eqb_tells (get_or nodes n 0) i)
    where
      by : (((get_or nodes n 0 == i) ≡ true) × (get_or nodes n 0 ≡ i)) ⊎ (((get_or nodes n 0 == i) ≡ false) × (get_or nodes n 0 ≢ i)) → (is_one_of (take n nodes) i || get_or nodes n 0 == i) ≡ is_one_of (take n nodes) i
      by (inl e) = let k = e.1 in absurd (omega (arith, l, k))
      by (inr d) = ap (λ (b : Bool). is_one_of (take n nodes) i || b) d.0 ∙ or-false (is_one_of (take n nodes) i)

  pub Enters-row_beyond : (first old : Grid) (members : List Bool) → (old.size ≡ first.size) → old.size ≤ get_or nodes n 0 → Enters first old (λ x y. is_one_of (take n nodes) x && is_in members y) → Enters first old (λ x y. is_one_of (take (n + 1) nodes) x && is_in members y)
  Enters-row_beyond first old members same out before =
      Enters-as first old _ _ (λ i j p q. ap (λ (b : Bool). b && is_in members j) (sym (beyond i (omega (arith, p, same, out))))) before

  -- one node more is in a set
  pub in-more : (old new : List Bool) (size row m : ℕ) → row ≡ get_or nodes n 0 → length old ≡ size → InsertsNode old new row → m < size → is_in old m ≡ is_one_of (take n nodes) m → is_in new m ≡ is_one_of (take (n + 1) nodes) m
  in-more old new size row m is same inserts p before = by (eqb_tells row m) ∙ ap (λ (k : ℕ). is_one_of (take n nodes) m || k == m) is ∙ sym (list_any_more (λ k. k == m) nodes n 0 inside)
    where
      by : (((row == m) ≡ true) × (row ≡ m)) ⊎ (((row == m) ≡ false) × (row ≢ m)) → is_in new m ≡ (is_one_of (take n nodes) m || row == m)
      by (inl e) = subst (λ (k : ℕ). is_in new k ≡ true) e.1 inserts.here ∙ sym (or_right (is_one_of (take n nodes) m) (row == m) e.0)
      by (inr d) =
          inserts.others m (omega (arith, p, same)) (λ k. d.1 (sym k)) ∙ before
          ∙ sym (ap (λ (b : Bool). is_one_of (take n nodes) m || b) d.0 ∙ or-false (is_one_of (take n nodes) m))

  pub in-beyond : (set : List Bool) (size m : ℕ) → size ≤ get_or nodes n 0 → m < size → is_in set m ≡ is_one_of (take n nodes) m → is_in set m ≡ is_one_of (take (n + 1) nodes) m
  in-beyond set size m out p before = before ∙ sym (beyond m (omega (arith, out, p)))

-- ---- both tables

-- the tables give just what some answers give
pub record GiveAnswers (tables : EdgeTables) (nodes : ℕ) (answers : List ClassAnswer) : Type 0 where
  pub edges : IsSquareOf tables.edges nodes (λ x y. list_any (answer_edge x y) answers)
  pub vulnerable : IsSquareOf tables.vulnerable nodes (λ x y. list_any (answer_vulnerable x y) answers)

pub GiveAnswers-begun : (tables : EdgeTables) (nodes : ℕ) → IsEmptySquare tables.edges nodes → IsEmptySquare tables.vulnerable nodes → GiveAnswers tables nodes []
GiveAnswers-begun tables nodes edges vulnerable = record {
  edges = record { size_is = edges.size_is; entries = edges.entries };
  vulnerable = record { size_is = vulnerable.size_is; entries = vulnerable.entries };
}

module _ (answers : List ClassAnswer) (n : ℕ) (e : ClassAnswer) (inside : n < length answers) where
  one-more : (old new : Grid) (nodes : ℕ) (gives : ℕ → ℕ → ClassAnswer → Bool) → IsSquareOf old nodes (λ x y. list_any (gives x y) (take n answers)) → Enters old new (λ x y. gives x y (get_or answers n e)) → IsSquareOf new nodes (λ x y. list_any (gives x y) (take (n + 1) answers))
  one-more old new nodes gives d enters = record {
    size_is = enters.size ∙ d.size_is;
    entries = λ i j p q.
        enters.entries i j (omega (arith, p, d.size_is)) (omega (arith, q, d.size_is))
        ∙ ap (λ (b : Bool). b || gives i j (get_or answers n e)) (d.entries i j p q)
        ∙ sym (list_any_more (gives i j) answers n e inside);
  }

  pub GiveAnswers-more : (old new : EdgeTables) (nodes : ℕ) → GiveAnswers old nodes (take n answers) → EntersAnswer old new (get_or answers n e) → GiveAnswers new nodes (take (n + 1) answers)
  GiveAnswers-more old new nodes d enters = record {
    edges = one-more old.edges new.edges nodes answer_edge d.edges enters.edges;
    vulnerable = one-more old.vulnerable new.vulnerable nodes answer_vulnerable d.vulnerable enters.vulnerable;
  }
