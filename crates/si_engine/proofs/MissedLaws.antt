-- The last two steps of a cycle of dependencies are read-write dependencies between concurrent instances.
use Rattle.std.proofs.Common.{◌≡◌, ◌≢◌, ℕ, ◌<◌, ◌≤◌, eqb, true, false, not, List, [], ◌∷◌, ◌⊎◌, inl, inr, refl, ap, sym, subst, ◌∙◌, arith}
use Rattle.std.specs.Prelude.{Some, is_some}
use Rattle.std.specs.List.{AllByRecursion}
use Rattle.std.proofs.lemmas.Bool.Decides.{eqb_tells}
use Rattle.std.proofs.lemmas.Bool.{and_from, and_parts, eqb-false, not-true, or_left, or_right}
use Rattle.std.proofs.lemmas.List.Elements.{recursion_from_All}
use Rattle.prog_tree.specs.declared.cell.Cell.{Cell}
use Rattle.prog_tree.specs.ChangeSet.{touches_cell}
use Rattle.prog_tree.specs.Syntax.{DraftTree}
use Rattle.prog_tree.specs.Table.{TableState}
use Rattle.history_book.specs.Dependencies.{run_found, start_found, start_at, evaluation_at, write_write, write_read, read_write, depends}
use Rattle.history_book.specs.History.{Instance, nth_instance, state_after, evaluation, IsLawful}
use Rattle.serial_orders.specs.Orders.{LeadsTo}
use Rattle.history_book.proofs.DependencyLaws.{Looks, Changes, DependsOn, depends_tells, depends_within, found_at, start_at-below, to_read_write}
use Rattle.serial_orders.proofs.DependencyRelations.{WriteWriteBy, ReadWriteBy}
use Rattle.si_engine.specs.Robustness.{HasCommitted, AreConcurrent, Misses, EndsInMisses, LawOfLastSteps}

module _ (set : DraftTree) (opening : TableState) (h : List Instance) where
  -- the instance of a number changed or kept the cell
  abbrev pub Touched : ℕ → Cell → Type 0
  Touched n c = touches_cell (evaluation_at set opening h n).changes c ≡ true

  -- a missed change is a dependency
  pub misses_depends : (i j : ℕ) → i ≢ j → read_write set opening h i j ≡ true → depends set opening h i j ≡ true
  misses_depends i j other missed =
      and_from _ _ (apart (eqb_tells i j))
      (or_right (write_write set opening h i j) _ (or_right (write_read set opening h i j) _ missed))
    where
      apart : ((eqb i j ≡ true) × (i ≡ j)) ⊎ ((eqb i j ≡ false) × (i ≢ j)) → not (eqb i j) ≡ true
      apart (inl e) = absurd (other e.1)
      apart (inr e) = ap not e.0

module _ (set : DraftTree) (opening : TableState) (h : List Instance) (lawful : IsLawful set opening h) where
  touched_by : (n : ℕ) (b : Instance) (c : Cell) → nth_instance h n ≡ Some b → Touched set opening h n c →
      touches_cell (evaluation set opening h b).changes c ≡ true
  touched_by n b c found t =
      ap (λ o. touches_cell (run_found set o (state_after set opening h (start_found o))).changes c) (sym found) ∙ t

  -- the first committer wins
  pub first_wins : (i j : ℕ) (c : Cell) → HasCommitted h i → HasCommitted h j → start_at h j < i → i < j →
      Touched set opening h i c → Touched set opening h j c → ⊥
  first_wins i j c one other unseen before mine theirs =
      let a = found_at h i one in
      let b = found_at h j other in
      let start : b.0.start < i = subst (λ (n : ℕ). n < i) (ap start_found b.1) unseen in
      lawful.apart i j a.0 b.0 c a.1 b.1 start before (touched_by i a.0 c a.1 mine) (touched_by j b.0 c b.1 theirs)

  -- who changes what another one changed saw that change
  pub sees_overwritten : (i j : ℕ) → HasCommitted h i → HasCommitted h j → start_at h j < i →
      WriteWriteBy Cell (Changes set opening h) i j → ⊥
  sees_overwritten i j one other unseen w =
      first_wins i j w.cell one other unseen w.before (or_left _ _ (ap is_some w.first.1)) (or_left _ _ (ap is_some w.second.1))

  -- ---- the steps of a cycle

  abbrev Before : ℕ → ℕ → Type 0
  Before i j = depends set opening h i j ≡ true

  pub starts : (n : ℕ) → HasCommitted h n → start_at h n < n
  starts n one = start_at-below h lawful.starts n one

  pub depends_on : (i j : ℕ) → HasCommitted h j → Before i j → DependsOn set opening h i j
  depends_on i j one d = (depends_tells set opening h i j (starts j one)).0 d

  misses : (i j : ℕ) → AreConcurrent h i j →
      ReadWriteBy Cell (start_at h) (Looks set opening h) (Changes set opening h) i j → Misses set opening h i j
  misses i j both w = record { other = w.other; concurrent = both; missed = to_read_write set opening h i j w }

  -- what stands before the least one is later, so it looked at what the least one changed, and missed the change
  into_least : (b c : ℕ) → HasCommitted h c → c ≤ b → DependsOn set opening h b c → Misses set opening h b c
  into_least b c one least (inl w) = let k = w.before in absurd (omega arith)
  into_least b c one least (inr (inl w)) = let k = w.seen in let l = starts c one in absurd (omega arith)
  into_least b c one least (inr (inr w)) = let u = w.unseen in let l = starts c one in misses b c (u, omega arith) w

  -- and so did what stands before that
  into_next : (a b c : ℕ) → HasCommitted h a → HasCommitted h b → c ≤ a → start_at h b < c → DependsOn set opening h a b →
      Misses set opening h a b
  into_next a b c one other least missed (inl w) = absurd (sees_overwritten a b one other (omega arith) w)
  into_next a b c one other least missed (inr (inl w)) = let k = w.seen in absurd (omega arith)
  into_next a b c one other least missed (inr (inr w)) = let u = w.unseen in misses a b (u, omega arith) w

  along : (c i j : ℕ) (js : List ℕ) → c ≤ i → AllByRecursion (λ n. c < n) (j ∷ js) →
      LeadsTo (depends set opening h) (i ∷ j ∷ js) c → EndsInMisses set opening h (i ∷ j ∷ js) c
  along c i j [] low above leads =
      let first = depends_within set opening h i j leads.0 in
      let second = depends_within set opening h j c leads.1 in
      let up = above.0 in
      let last = into_least j c second.1 (omega arith) (depends_on j c second.1 leads.1) in
      record {
        front = [];
        a = i;
        b = j;
        last_two = refl;
        earlier = into_next i j c first.0 first.1 low last.concurrent.0 (depends_on i j first.1 leads.0);
        last = last;
      }
  along c i j (k ∷ ks) low above leads =
      let up = above.0 in
      let later = along c j k ks (omega arith) above.1 leads.1 in
      record {
        front = i ∷ later.front;
        a = later.a;
        b = later.b;
        last_two = ap (λ (ns : List ℕ). i ∷ ns) later.last_two;
        earlier = later.earlier;
        last = later.last;
      }

  never_itself : (i : ℕ) → Before i i → ⊥
  never_itself i d = eqb-false i i (not-true (eqb i i) (and_parts _ _ d).0) refl

  around : (first : ℕ) (rest : List ℕ) → AllByRecursion (λ n. first < n) rest →
      LeadsTo (depends set opening h) (first ∷ rest) first → EndsInMisses set opening h (first ∷ rest) first
  around first [] above leads = absurd (never_itself first leads)
  around first (j ∷ js) above leads = along first first j js (omega arith) above leads

pub law_of_last_steps : LawOfLastSteps
law_of_last_steps set opening h lawful numbers cycle =
    subst (λ (ns : List ℕ). EndsInMisses set opening h ns cycle.first) (sym cycle.is)
    (around set opening h lawful cycle.first cycle.rest (recursion_from_All (λ n. cycle.first < n) cycle.rest cycle.least)
    (subst (λ (ns : List ℕ). LeadsTo (depends set opening h) ns cycle.first) cycle.is cycle.leads))
