-- The accesses that change a table: they are all that a question asks of.
use Rattle.std.proofs.Common.{◌≡◌, ℕ, ◌<◌, ◌≤◌, ◌+◌, ◌⊎◌, inl, inr, Bool, true, false, ◌||◌, ◌&&◌, List, [], ◌∷◌, length, get_or, take, drop, not, refl, sym, subst, ap, ◌∙◌, arith, cond, zero, suc, ◌-◌}
use Rattle.std.specs.Prelude.{if◌then◌else◌, nat_lt, nat_le, ◌==◌, None}
use Rattle.std.specs.List.{filter}
use Rattle.std.specs.List.Sorted.{IsPartitionPoint, IsStableByKey, ties}
use Rattle.std.specs.Ordering.{nat_cmp, is_lt}
use Rattle.std.proofs.lemmas.Bool.{true≢false, cases_eq, cases_lt, eq-eqb, ne_eqb, ltb-true, ltb-false, leb-true, leb-false}
use Rattle.std.specs.Cmp.{nat_cmp_is}
use Rattle.std.specs.declared.cmp.Ordering.TheVariants.{Less, Equal, Greater}
use Rattle.std.proofs.lemmas.List.Elements.{filter_agree}
use Rattle.prog_check.specs.declared.path.Kind.{Kind}
use Rattle.prog_check.specs.declared.path.Kind.TheVariants.{Reads, Sees, Lacks, Writes, Adds, Keeps}
use Rattle.prog_check.specs.declared.path.Term.TheVariants.{Param}
use Rattle.prog_paths.specs.declared.accesses.places.Placed.{Placed}
use Rattle.prog_paths.specs.declared.accesses.questions.Question.{Question}
use Rattle.prog_paths.specs.Questions.{asks, kinds_depend, both_write, is_in_order, question_between, asked_by}
use Rattle.prog_paths.specs.Tally.{of_table}
use Rattle.prog_paths.specs.Changers.{changes, changers_of}
use Rattle.prog_paths.proofs.Counted.{asks-other}

-- ---- what is asked of changers is what is asked of all

asks-unchanged : (k j : Kind) (o : Bool) → changes j ≡ false → (kinds_depend k j || (both_write k j && o)) ≡ false
asks-unchanged Reads Reads o e = refl
asks-unchanged Reads Sees o e = refl
asks-unchanged Reads Lacks o e = refl
asks-unchanged Reads Writes o e = absurd (true≢false e)
asks-unchanged Reads Adds o e = absurd (true≢false e)
asks-unchanged Reads Keeps o e = refl
asks-unchanged Sees Reads o e = refl
asks-unchanged Sees Sees o e = refl
asks-unchanged Sees Lacks o e = refl
asks-unchanged Sees Writes o e = absurd (true≢false e)
asks-unchanged Sees Adds o e = absurd (true≢false e)
asks-unchanged Sees Keeps o e = refl
asks-unchanged Lacks Reads o e = refl
asks-unchanged Lacks Sees o e = refl
asks-unchanged Lacks Lacks o e = refl
asks-unchanged Lacks Writes o e = absurd (true≢false e)
asks-unchanged Lacks Adds o e = absurd (true≢false e)
asks-unchanged Lacks Keeps o e = refl
asks-unchanged Writes Reads o e = refl
asks-unchanged Writes Sees o e = refl
asks-unchanged Writes Lacks o e = refl
asks-unchanged Writes Writes o e = absurd (true≢false e)
asks-unchanged Writes Adds o e = absurd (true≢false e)
asks-unchanged Writes Keeps o e = refl
asks-unchanged Adds Reads o e = refl
asks-unchanged Adds Sees o e = refl
asks-unchanged Adds Lacks o e = refl
asks-unchanged Adds Writes o e = absurd (true≢false e)
asks-unchanged Adds Adds o e = absurd (true≢false e)
asks-unchanged Adds Keeps o e = refl
asks-unchanged Keeps Reads o e = refl
asks-unchanged Keeps Sees o e = refl
asks-unchanged Keeps Lacks o e = refl
asks-unchanged Keeps Writes o e = absurd (true≢false e)
asks-unchanged Keeps Adds o e = absurd (true≢false e)
asks-unchanged Keeps Keeps o e = refl

asks-not : (first second : Placed) → changes second.access.kind ≡ false → asks first second ≡ false
asks-not first second e = go (first.access.table == second.access.table) (asks-unchanged first.access.kind second.access.kind (is_in_order first second) e)
  where
    go : (b : Bool) → (kinds_depend first.access.kind second.access.kind || (both_write first.access.kind second.access.kind && is_in_order first second)) ≡ false → (b && (kinds_depend first.access.kind second.access.kind || (both_write first.access.kind second.access.kind && is_in_order first second))) ≡ false
    go true h = h
    go false h = refl

pub asked_changers : (first : Placed) (places : List Placed) → asked_by first (changers_of first.access.table places) ≡ asked_by first places
asked_changers first [] = refl
asked_changers first (p ∷ places) = go (cases_eq p.access.table first.access.table) (changes p.access.kind) refl (asked_changers first places)
  where
    left_out : asks first p ≡ false → asked_by first (changers_of first.access.table places) ≡ asked_by first places → asked_by first (changers_of first.access.table places) ≡ asked_by first (p ∷ places)
    left_out un h = h ∙ ap (λ (b : Bool). if b then question_between first p ∷ asked_by first places else asked_by first places) (sym un)

    go : (p.access.table ≡ first.access.table) ⊎ (p.access.table ≡ first.access.table → ⊥) → (b : Bool) → changes p.access.kind ≡ b → asked_by first (changers_of first.access.table places) ≡ asked_by first places → asked_by first (changers_of first.access.table (p ∷ places)) ≡ asked_by first (p ∷ places)
    go (inl e) true c h =
        (λ i. asked_by first (cond (eq-eqb p.access.table first.access.table e i && c i) (p ∷ changers_of first.access.table places) (changers_of first.access.table places)))
        ∙ ap (λ (l : List Question). if asks first p then question_between first p ∷ l else l) h
    go (inl e) false c h =
        (λ i. asked_by first (cond (eq-eqb p.access.table first.access.table e i && c i) (p ∷ changers_of first.access.table places) (changers_of first.access.table places)))
        ∙ left_out (asks-not first p c) h
    go (inr d) b c h =
        ap (λ (t : Bool). asked_by first (cond (t && changes p.access.kind) (p ∷ changers_of first.access.table places) (changers_of first.access.table places))) (ne_eqb p.access.table first.access.table d)
        ∙ left_out (asks-other first p (λ e. d (sym e))) h

-- some that are the changers of the access's table stand for all
pub seconds_ask : (first : Placed) (places changers seconds : List Placed) → seconds ≡ of_table first.access.table changers → ((table : ℕ) → of_table table changers ≡ changers_of table places) → asked_by first seconds ≡ asked_by first places
seconds_ask first places changers seconds e h = ap (asked_by first) (e ∙ h first.access.table) ∙ asked_changers first places

-- ---- a stable order by table keeps the accesses of each table

is_less : (x y : ℕ) → x < y → is_lt (nat_cmp x y) ≡ true
is_less x y lt = sym (ap is_lt (nat_cmp_is x y Less lt))

is_no_less : (x y : ℕ) → y ≤ x → is_lt (nat_cmp x y) ≡ false
is_no_less x y le = go (cases_lt y x)
  where
    go : (y < x) ⊎ (x ≤ y) → is_lt (nat_cmp x y) ≡ false
    go (inl lt) = sym (ap is_lt (nat_cmp_is x y Greater lt))
    go (inr ge) = sym (ap is_lt (nat_cmp_is x y Equal (omega (arith, le, ge))))

tied : (table other : ℕ) → (not (is_lt (nat_cmp table other)) && not (is_lt (nat_cmp other table))) ≡ (other == table)
tied table other = go (cases_lt table other) (cases_lt other table)
  where
    go : (table < other) ⊎ (other ≤ table) → (other < table) ⊎ (table ≤ other) → (not (is_lt (nat_cmp table other)) && not (is_lt (nat_cmp other table))) ≡ (other == table)
    go (inl lt) _ = ap (λ b. not b && not (is_lt (nat_cmp other table))) (is_less table other lt) ∙ sym (ne_eqb other table (λ e. omega (arith, lt, e)))
    go (inr le) (inl lt) = (λ i. not (is_no_less table other le i) && not (is_less other table lt i)) ∙ sym (ne_eqb other table (λ e. omega (arith, lt, e)))
    go (inr le) (inr ge) = (λ i. not (is_no_less table other le i) && not (is_no_less other table ge i)) ∙ sym (eq-eqb other table (omega (arith, le, ge)))

abbrev some_access : ℕ → Placed
some_access table = record {
  node = 0;
  number = 0;
  access = record {
    kind = Reads;
    table = table;
    first = record { low = Param 0; high = Param 0 };
    second = None;
    place = 0;
    sure = false;
  };
}

filter_twice : (p q : Placed → Bool) (xs : List Placed) → filter p (filter q xs) ≡ filter (λ x. p x && q x) xs
filter_twice p q [] = refl
filter_twice p q (x ∷ xs) = go (p x) (q x) refl (filter_twice p q xs)
  where
    go : (a b : Bool) → p x ≡ a → filter p (filter q xs) ≡ filter (λ y. p y && q y) xs → filter p (cond b (x ∷ filter q xs) (filter q xs)) ≡ cond (a && b) (x ∷ filter (λ y. p y && q y) xs) (filter (λ y. p y && q y) xs)
    go true true e h = ap (λ c. cond c (x ∷ filter p (filter q xs)) (filter p (filter q xs))) e ∙ ap (λ (l : List Placed). x ∷ l) h
    go true false e h = h
    go false true e h = ap (λ c. cond c (x ∷ filter p (filter q xs)) (filter p (filter q xs))) e ∙ h
    go false false e h = h

pub changers_sorted : (table : ℕ) (places changers sorted : List Placed) → changers ≡ filter (λ p. changes p.access.kind) places → IsStableByKey (λ (p : Placed). p.access.table) nat_cmp changers sorted → of_table table sorted ≡ changers_of table places
changers_sorted table places changers sorted e stable =
    let same' = λ (p : Placed). tied table p.access.table in
    filter_agree (λ (p : Placed). p.access.table == table) (ties (λ (x y : Placed). is_lt (nat_cmp x.access.table y.access.table)) (some_access table)) (λ p. sym (same' p)) sorted
    ∙ stable (some_access table)
    ∙ filter_agree (ties (λ (x y : Placed). is_lt (nat_cmp x.access.table y.access.table)) (some_access table)) (λ (p : Placed). p.access.table == table) same' changers
    ∙ ap (of_table table) e
    ∙ filter_twice (λ (p : Placed). p.access.table == table) (λ (p : Placed). changes p.access.kind) places

-- ---- the accesses of a table among those that stand by table

cut : (table : ℕ) (xs : List Placed) (start n : ℕ) → ((k : ℕ) (d : Placed) → k < start → (get_or xs k d).access.table < table) → ((k : ℕ) (d : Placed) → start ≤ k → k < start + n → (get_or xs k d).access.table ≡ table) → ((k : ℕ) (d : Placed) → start + n ≤ k → k < length xs → table < (get_or xs k d).access.table) → start + n ≤ length xs → take n (drop start xs) ≡ of_table table xs
cut table [] zero zero a b c le = refl
cut table [] zero (suc n) a b c le = absurd (omega (arith, le))
cut table [] (suc start) n a b c le = absurd (omega (arith, le))
cut table (x ∷ xs) zero zero a b c le =
    let differs = c 0 x (omega arith) (omega arith) in
    cut table xs zero zero (λ k d lt. absurd (omega (arith, lt))) (λ k d lo lt. absurd (omega (arith, lt))) (λ k d lo lt. c (suc k) d (omega arith) (omega (arith, lt))) (omega arith)
    ∙ sym (ap (λ t. cond t (x ∷ of_table table xs) (of_table table xs)) (ne_eqb x.access.table table (λ e. omega (arith, differs, e))))
cut table (x ∷ xs) zero (suc n) a b c le =
    let equal = b 0 x (omega arith) (omega arith) in
    ap (λ (l : List Placed). x ∷ l)
    (cut table xs zero n (λ k d lt. absurd (omega (arith, lt))) (λ k d lo lt. b (suc k) d (omega arith) (omega (arith, lt))) (λ k d lo lt. c (suc k) d (omega (arith, lo)) (omega (arith, lt))) (omega (arith, le)))
    ∙ sym (ap (λ t. cond t (x ∷ of_table table xs) (of_table table xs)) (eq-eqb x.access.table table equal))
cut table (x ∷ xs) (suc start) n a b c le =
    let differs = a 0 x (omega arith) in
    cut table xs start n (λ k d lt. a (suc k) d (omega (arith, lt))) (λ k d lo lt. b (suc k) d (omega (arith, lo)) (omega (arith, lt))) (λ k d lo lt. c (suc k) d (omega (arith, lo)) (omega (arith, lt))) (omega (arith, le))
    ∙ sym (ap (λ t. cond t (x ∷ of_table table xs) (of_table table xs)) (ne_eqb x.access.table table (λ e. omega (arith, differs, e))))

pub start_at_most_end : (table : ℕ) (xs : List Placed) (start end : ℕ) → IsPartitionPoint (λ (p : Placed). nat_lt p.access.table table ≡ true) (λ (p : Placed). nat_lt p.access.table table ≡ false) xs start → IsPartitionPoint (λ (p : Placed). nat_le p.access.table table ≡ true) (λ (p : Placed). nat_le p.access.table table ≡ false) xs end → start ≤ length xs → start ≤ end
start_at_most_end table xs start end s e le = go (cases_lt end start)
  where
    d : Placed
    d = some_access table

    go : (end < start) ⊎ (start ≤ end) → start ≤ end
    go (inl lt) =
        let a = ltb-true (get_or xs end d).access.table table (s.0 end d (omega arith) lt) in
        let b = leb-false (get_or xs end d).access.table table (e.1 end d (omega arith) (omega (arith, lt, le))) in
        absurd (omega (arith, a, b))
    go (inr h) = h

pub cut_out : (table : ℕ) (xs : List Placed) (start n : ℕ) → IsPartitionPoint (λ (p : Placed). nat_lt p.access.table table ≡ true) (λ (p : Placed). nat_lt p.access.table table ≡ false) xs start → IsPartitionPoint (λ (p : Placed). nat_le p.access.table table ≡ true) (λ (p : Placed). nat_le p.access.table table ≡ false) xs (start + n) → start + n ≤ length xs → take n (drop start xs) ≡ of_table table xs
cut_out table xs start n s e le =
    cut table xs start n
    (λ k d lt. ltb-true (get_or xs k d).access.table table (s.0 k d (omega arith) lt))
    (λ k d lo lt.
    let a = leb-true (get_or xs k d).access.table table (e.0 k d (omega arith) lt) in
    let b = ltb-false (get_or xs k d).access.table table (s.1 k d lo (omega (arith, lt, le))) in
    omega (arith, a, b))
    (λ k d lo lt. leb-false (get_or xs k d).access.table table (e.1 k d lo lt))
    le

pub cut_between : (table : ℕ) (xs : List Placed) (start end : ℕ) → IsPartitionPoint (λ (p : Placed). nat_lt p.access.table table ≡ true) (λ (p : Placed). nat_lt p.access.table table ≡ false) xs start → IsPartitionPoint (λ (p : Placed). nat_le p.access.table table ≡ true) (λ (p : Placed). nat_le p.access.table table ≡ false) xs end → start ≤ length xs → end ≤ length xs → take (end - start) (drop start xs) ≡ of_table table xs
cut_between table xs start end s e le le' =
    let rises = start_at_most_end table xs start end s e le in
    let is : end ≡ start + (end - start) = omega (arith, rises) in
    cut_out table xs start (end - start) s
    (subst (λ n. IsPartitionPoint (λ (p : Placed). nat_le p.access.table table ≡ true) (λ (p : Placed). nat_le p.access.table table ≡ false) xs n) is e)
    (omega (arith, rises, le'))
