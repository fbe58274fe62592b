-- Which reason is told, and that it is one.
use Rattle.std.proofs.Common.{◌≡◌, ◌∙◌, ◌≢◌, ◌⊎◌, inl, inr, ◌+◌, ℕ, zero, suc, ◌<◌, ◌≤◌, nat_lt, ◌==◌, Bool, true, false, true≢false, cond, not, ◌&&◌, ◌||◌, if◌then◌else◌, List, [], ◌∷◌, drop, length, get_or, refl, ap, sym, subst, arith}
use Rattle.std.specs.Prelude.{nat_le, find, Option, Some, None, IfSome, is_some, Contains, option_map, option_and_then}
use Rattle.std.specs.Option.{option_or}
use Rattle.std.specs.List.{list_any}
use Rattle.std.proofs.lemmas.Bool.{and_from, and_parts, or_left, or_right, le-leb, leb-true, lt-ltb, ltb-true, ne_eqb}
use Rattle.std.proofs.lemmas.Bool.Decides.{eqb_tells}
use Rattle.std.proofs.Math.Bool.{or_assoc}
use Rattle.prog_tree.specs.declared.cell.Cell.{Cell}
use Rattle.prog_tree.specs.declared.cell.Region.{Region}
use Rattle.prog_tree.specs.Table.{is_same_cell, is_cell_among}
use Rattle.prog_tree.proofs.TableStates.{cell_is}
use Rattle.prog_tree.proofs.CellSets.{same-itself}
use Rattle.serial_orders.specs.Reasons.{Changed, Looked, LookedAlone, LookedIn, PutsBefore, IsReason, changed_before, change_reason, by_change, missed_by, missed_at, by_look, told_reason}
use Rattle.serial_orders.specs.TraceView.{TraceView}
use Rattle.serial_orders.specs.Traces.{takes_in, looked_at, changed_at, trace_at, some_changed, changes_again, sees_change, misses_change, trace_depends}
use Rattle.serial_orders.specs.declared.reason.OrderReason.{OrderReason}
use Rattle.serial_orders.specs.declared.reason.OrderReason.TheVariants as reason
use Rattle.serial_orders.specs.declared.trace.Sight.{Sight}
use Rattle.serial_orders.specs.declared.trace.Sight.TheVariants as sight
use Rattle.serial_orders.proofs.TestLaws.{any_at}

-- ---- the first that passes a test

module _ {X : Type 0} (p : X → Bool) where
  found_here : (xs : List X) (n : ℕ) (other : X) → n < length xs → p (get_or xs n other) ≡ true → find p (drop n xs) ≡ Some (get_or xs n other)
  found_here [] n other inside passes = absurd (omega (arith, inside))
  found_here (x ∷ xs) zero other inside passes = ap (λ b. cond b (Some x) (find p xs)) passes
  found_here (x ∷ xs) (suc n) other inside passes = found_here xs n other (omega (arith, inside)) passes

  found_behind : (xs : List X) (n : ℕ) (other : X) → n < length xs → p (get_or xs n other) ≡ false → find p (drop (suc n) xs) ≡ find p (drop n xs)
  found_behind [] n other inside fails = absurd (omega (arith, inside))
  found_behind (x ∷ xs) zero other inside fails = sym (ap (λ b. cond b (Some x) (find p xs)) fails)
  found_behind (x ∷ xs) (suc n) other inside fails = found_behind xs n other (omega (arith, inside)) fails

  any_found : (xs : List X) → is_some (find p xs) ≡ list_any p xs
  any_found [] = refl
  any_found (x ∷ xs) = go (p x) ∙ ap (λ b. p x || b) (any_found xs)
    where
      go : (b : Bool) → is_some (cond b (Some x) (find p xs)) ≡ (b || is_some (find p xs))
      go true = refl
      go false = refl

map_some : {X Y : Type 0} (f : X → Y) (o : Option X) → is_some (option_map f o) ≡ is_some o
map_some f None = refl
map_some f (Some x) = refl

-- ---- loops over cells

some_by : {X : Type 0} (b : Bool) (x : X) (o : Option X) → o ≡ (if b then Some x else None) → is_some o ≡ true → b ≡ true
some_by true x o is some = refl
some_by false x o is some = absurd (true≢false (sym some ∙ ap is_some is))

-- the reason for this cell of those that the first changed is the one for the first such cell
pub change_told : (i j : ℕ) (a b : TraceView) (cs : List Cell) (n : ℕ) (other : Cell) (o : Option OrderReason) → cs ≡ a.changed →
    find (changed_before i j b) (drop n cs) ≡ find (changed_before i j b) cs → n < length cs →
    o ≡ (if changed_before i j b (get_or cs n other) then Some (change_reason i j b (get_or cs n other)) else None) → is_some o ≡ true →
    o ≡ by_change i j a b
change_told i j a b cs n other o are left inside is some =
    let p = changed_before i j b in
    let f = change_reason i j b in
    let c = get_or cs n other in
    let passes = some_by (p c) (f c) o is some in
    is
    ∙ ap (λ t. if t then Some (f c) else None) passes
    ∙ ap (option_map f) (sym (found_here p cs n other inside passes) ∙ left ∙ ap (find p) are)

looked_found : (t : TraceView) (c : Cell) → is_some (missed_at t c) ≡ looked_at t c
looked_found t c = map_some (λ s. missed_by s c) (find (λ s. takes_in s c) t.looked) ∙ any_found (λ s. takes_in s c) t.looked

-- the reason for this cell of those that the second changed is the one for the first such cell
pub look_told : (j : ℕ) (a b t : TraceView) (cs : List Cell) (n : ℕ) (other : Cell) (o : Option OrderReason) → a.start < j → cs ≡ b.changed →
    find (looked_at a) (drop n cs) ≡ find (looked_at a) cs → n < length cs → t ≡ a → o ≡ missed_at t (get_or cs n other) → is_some o ≡ true →
    o ≡ by_look j a b
look_told j a b t cs n other o early are left inside same is some =
    let c = get_or cs n other in
    let this = is ∙ ap (λ u. missed_at u c) same in
    let passes = sym (looked_found a c) ∙ ap is_some (sym this) ∙ some in
    this
    ∙ ap (option_and_then (missed_at a)) (sym (found_here (looked_at a) cs n other inside passes) ∙ left ∙ ap (find (looked_at a)) are)
    ∙ ap (λ late. if late then option_and_then (missed_at a) (find (looked_at a) b.changed) else None) (sym (lt-ltb a.start j early))

-- a cell at which the first did not look is passed over
pub look_passed : (a t : TraceView) (cs : List Cell) (n : ℕ) (other : Cell) (o : Option OrderReason) →
    find (looked_at a) (drop n cs) ≡ find (looked_at a) cs → n < length cs → t ≡ a → o ≡ missed_at t (get_or cs n other) → is_some o ≡ false →
    find (looked_at a) (drop (n + 1) cs) ≡ find (looked_at a) cs
look_passed a t cs n other o left inside same is none =
    let c = get_or cs n other in
    let fails = sym (looked_found a c) ∙ ap is_some (sym (is ∙ ap (λ u. missed_at u c) same)) ∙ none in
    let next : n + 1 ≡ suc n = omega arith in
    ap (λ k. find (looked_at a) (drop k cs)) next ∙ found_behind (looked_at a) cs n other inside fails ∙ left

-- ---- looks that missed a change

-- a cell that stands among others is one of them
among_at : (cs : List Cell) (n : ℕ) (other : Cell) → n < length cs → is_cell_among cs (get_or cs n other) ≡ true
among_at [] n other inside = absurd (omega (arith, inside))
among_at (c ∷ cs) zero other inside = or_left (is_same_cell c c) (is_cell_among cs c) (same-itself c)
among_at (c ∷ cs) (suc n) other inside =
    let d = get_or cs n other in
    or_right (is_same_cell d c) (is_cell_among cs d) (among_at cs n other (omega (arith, inside)))

missed_puts : (i j : ℕ) (a b : TraceView) (c : Cell) (s : Sight) → a.start < j → Changed b c → Contains a.looked s → takes_in s c ≡ true →
    PutsBefore i j a b (missed_by s c)
missed_puts i j a b c (sight.One looked) early changed has takes =
    (early, subst (λ x. Contains a.looked (sight.One x)) (cell_is looked c takes) has, changed)
missed_puts i j a b c (sight.Range region own) early changed has takes = (early, (own, has, takes), changed)

-- ---- the reason that is told is one

found_in : {X : Type 0} (p : X → Bool) (xs : List X) → IfSome (find p xs) (λ x. Contains xs x × (p x ≡ true))
found_in p [] = tt
found_in p (x ∷ xs) = go (p x) refl (found_in p xs)
  where
    later : (o : Option _) → IfSome o (λ y. Contains xs y × (p y ≡ true)) → IfSome o (λ y. Contains (x ∷ xs) y × (p y ≡ true))
    later None h = tt
    later (Some y) h = ((suc h.0.0, (let inside = h.0.1 in omega (arith, inside)), h.0.2), h.1)

    go : (b : Bool) → p x ≡ b → IfSome (find p xs) (λ y. Contains xs y × (p y ≡ true)) → IfSome (cond b (Some x) (find p xs)) (λ y. Contains (x ∷ xs) y × (p y ≡ true))
    go true is h = ((zero, omega arith, refl), is)
    go false is h = later (find p xs) h

mapped : {X Y : Type 0} (P : X → Type 0) (Q : Y → Type 0) (f : X → Y) (o : Option X) → IfSome o P → ((x : X) → P x → Q (f x)) → IfSome (option_map f o) Q
mapped P Q f None h step = tt
mapped P Q f (Some x) h step = step x h

chained : {X Y : Type 0} (P : X → Type 0) (Q : Y → Type 0) (f : X → Option Y) (o : Option X) → IfSome o P → ((x : X) → P x → IfSome (f x) Q) → IfSome (option_and_then f o) Q
chained P Q f None h step = tt
chained P Q f (Some x) h step = step x h

either : (Q : OrderReason → Type 0) (x y : Option OrderReason) → IfSome x Q → IfSome y Q → IfSome (option_or x y) Q
either Q None y first second = second
either Q (Some r) y first second = first

among_contained : (cs : List Cell) (c : Cell) → Contains cs c → is_cell_among cs c ≡ true
among_contained cs c h = subst (λ d. is_cell_among cs d ≡ true) h.2 (among_at cs h.0 c h.1)

module _ (i j : ℕ) (a b : TraceView) where
  change_puts : (c : Cell) → Changed a c → changed_before i j b c ≡ true → PutsBefore i j a b (change_reason i j b c)
  change_puts c changed before = go (nat_lt i j && changed_at b c) refl before
    where
      go : (both : Bool) → (nat_lt i j && changed_at b c) ≡ both → (both || (nat_le i b.start && looked_at b c)) ≡ true →
          PutsBefore i j a b (if both then reason.Both c else reason.Saw c)
      go true is h = let parts = and_parts (nat_lt i j) (changed_at b c) is in (ltb-true i j parts.0, changed, parts.1)
      go false is h = let parts = and_parts (nat_le i b.start) (looked_at b c) h in (leb-true i b.start parts.0, changed, parts.1)

  by_change_puts : IfSome (by_change i j a b) (PutsBefore i j a b)
  by_change_puts =
      mapped (λ c. Contains a.changed c × (changed_before i j b c ≡ true)) (PutsBefore i j a b) (change_reason i j b) (find (changed_before i j b) a.changed)
      (found_in (changed_before i j b) a.changed)
      (λ c h. change_puts c (among_contained a.changed c h.0) h.1)

  missed_at_puts : a.start < j → (c : Cell) → Changed b c → IfSome (missed_at a c) (PutsBefore i j a b)
  missed_at_puts early c changed =
      mapped (λ s. Contains a.looked s × (takes_in s c ≡ true)) (PutsBefore i j a b) (λ s. missed_by s c) (find (λ s. takes_in s c) a.looked)
      (found_in (λ s. takes_in s c) a.looked)
      (λ s h. missed_puts i j a b c s early changed h.0 h.1)

  by_look_puts : IfSome (by_look j a b) (PutsBefore i j a b)
  by_look_puts = go (nat_lt a.start j) refl
    where
      go : (early : Bool) → nat_lt a.start j ≡ early → IfSome (if early then option_and_then (missed_at a) (find (looked_at a) b.changed) else None) (PutsBefore i j a b)
      go false is = tt
      go true is =
          chained (λ c. Contains b.changed c × (looked_at a c ≡ true)) (PutsBefore i j a b) (missed_at a) (find (looked_at a) b.changed)
          (found_in (looked_at a) b.changed)
          (λ c h. missed_at_puts (ltb-true a.start j is) c (among_contained b.changed c h.0))

pub told_is_reason : (traces : List TraceView) (i j : ℕ) → IfSome (told_reason traces i j) (IsReason traces i j)
told_is_reason traces i j = go (eqb_tells i j)
  where
    puts : (o : Option OrderReason) → i ≢ j → IfSome o (PutsBefore i j (trace_at traces i) (trace_at traces j)) → IfSome o (IsReason traces i j)
    puts None apart h = tt
    puts (Some r) apart h = (apart, h)

    go : (((i == j) ≡ true) × (i ≡ j)) ⊎ (((i == j) ≡ false) × (i ≢ j)) → IfSome (told_reason traces i j) (IsReason traces i j)
    go (inl same) =
        subst (λ t. IfSome (if t then None else option_or (by_change i j (trace_at traces i) (trace_at traces j)) (by_look j (trace_at traces i) (trace_at traces j))) (IsReason traces i j)) (sym same.0) tt
    go (inr apart) =
        let x = by_change i j (trace_at traces i) (trace_at traces j) in
        let y = by_look j (trace_at traces i) (trace_at traces j) in
        subst (λ t. IfSome (if t then None else option_or x y) (IsReason traces i j)) (sym apart.0)
        (puts (option_or x y) apart.1 (either (PutsBefore i j (trace_at traces i) (trace_at traces j)) x y (by_change_puts i j (trace_at traces i) (trace_at traces j)) (by_look_puts i j (trace_at traces i) (trace_at traces j))))

-- ---- a test that has one of two parts

regrouped : (a b x y m n : Bool) → (((a && x) || (b && y)) || ((a && m) || (b && n))) ≡ ((a && (x || m)) || (b && (y || n)))
regrouped false false x y m n = refl
regrouped false true x true m n = refl
regrouped false true x false m n = refl
regrouped true false true y m n = refl
regrouped true false false y m n = refl
regrouped true true true y m n = refl
regrouped true true false true true n = refl
regrouped true true false true false n = refl
regrouped true true false false m n = refl

any_of_two : (a b : Bool) (p q : Cell → Bool) (cs : List Cell) → list_any (λ c. (a && p c) || (b && q c)) cs ≡ ((a && list_any p cs) || (b && list_any q cs))
any_of_two false false p q [] = refl
any_of_two false true p q [] = refl
any_of_two true false p q [] = refl
any_of_two true true p q [] = refl
any_of_two a b p q (c ∷ cs) =
    ap (λ rest. ((a && p c) || (b && q c)) || rest) (any_of_two a b p q cs) ∙ regrouped a b (p c) (q c) (list_any p cs) (list_any q cs)

-- whether a cell that the first changed puts it before the second
pub by_changes : (traces : List TraceView) (i j : ℕ) →
    list_any (changed_before i j (trace_at traces j)) (trace_at traces i).changed ≡ (changes_again traces i j || sees_change traces i j)
by_changes traces i j =
    let b = trace_at traces j in
    any_of_two (nat_lt i j) (nat_le i b.start) (changed_at b) (looked_at b) (trace_at traces i).changed

-- ---- one is told wherever there is one

or_some : (x y : Option OrderReason) → is_some (option_or x y) ≡ (is_some x || is_some y)
or_some None y = refl
or_some (Some r) y = refl

chained_some : {X Y : Type 0} (p : X → Bool) (f : X → Option Y) (xs : List X) → ((x : X) → is_some (f x) ≡ p x) → is_some (option_and_then f (find p xs)) ≡ list_any p xs
chained_some p f [] same = refl
chained_some p f (x ∷ xs) same = go (p x) refl ∙ ap (λ b. p x || b) (chained_some p f xs same)
  where
    go : (b : Bool) → p x ≡ b → is_some (option_and_then f (cond b (Some x) (find p xs))) ≡ (b || is_some (option_and_then f (find p xs)))
    go true is = same x ∙ is
    go false is = refl

by_look_some : (j : ℕ) (a b : TraceView) → is_some (by_look j a b) ≡ (nat_lt a.start j && some_changed (looked_at a) b)
by_look_some j a b = go (nat_lt a.start j)
  where
    go : (early : Bool) → is_some (if early then option_and_then (missed_at a) (find (looked_at a) b.changed) else None) ≡ (early && list_any (looked_at a) b.changed)
    go true = chained_some (looked_at a) (missed_at a) b.changed (looked_found a)
    go false = refl

pub told_tells : (traces : List TraceView) (i j : ℕ) → is_some (told_reason traces i j) ≡ trace_depends traces i j
told_tells traces i j =
    go (i == j)
    ∙ ap (λ found. not (i == j) && found)
    (or_some (by_change i j a b) (by_look j a b)
    ∙ (λ k. by_change_some k || by_look_some j a b k)
    ∙ or_assoc (changes_again traces i j) (sees_change traces i j) (misses_change traces i j))
  where
    a : TraceView
    a = trace_at traces i

    b : TraceView
    b = trace_at traces j

    by_change_some : is_some (by_change i j (trace_at traces i) (trace_at traces j)) ≡ (changes_again traces i j || sees_change traces i j)
    by_change_some =
        map_some (change_reason i j (trace_at traces j)) (find (changed_before i j (trace_at traces j)) (trace_at traces i).changed)
        ∙ any_found (changed_before i j (trace_at traces j)) (trace_at traces i).changed
        ∙ by_changes traces i j

    go : (same : Bool) → is_some (if same then None else option_or (by_change i j (trace_at traces i) (trace_at traces j)) (by_look j (trace_at traces i) (trace_at traces j))) ≡ (not same && is_some (option_or (by_change i j (trace_at traces i) (trace_at traces j)) (by_look j (trace_at traces i) (trace_at traces j))))
    go true = refl
    go false = refl

-- ---- a reason is of a dependency

module _ (p : Sight → Bool) (s : Sight) (passes : p s ≡ true) where
  any_contained : (ss : List Sight) (n : ℕ) → n < length ss → get_or ss n s ≡ s → list_any p ss ≡ true
  any_contained [] n inside is = absurd (omega (arith, inside))
  any_contained (t ∷ ts) zero inside is = or_left (p t) (list_any p ts) (subst (λ x. p x ≡ true) (sym is) passes)
  any_contained (t ∷ ts) (suc n) inside is = or_right (p t) (list_any p ts) (any_contained ts n (omega (arith, inside)) is)

looked_alone : (t : TraceView) (c : Cell) → LookedAlone t c → Looked t c
looked_alone t c h = any_contained (λ s. takes_in s c) (sight.One c) (same-itself c) t.looked h.0 h.1 h.2

looked_in : (t : TraceView) (region : Region) (c : Cell) → LookedIn t region c → Looked t c
looked_in t region c h = any_contained (λ s. takes_in s c) (sight.Range region h.0) h.2 t.looked h.1.0 h.1.1 h.1.2

-- one of the two tests for a change that was missed
missed_tells : (i j : ℕ) (a b : TraceView) (c : Cell) → a.start < j → Looked a c → Changed b c → (nat_lt a.start j && some_changed (looked_at a) b) ≡ true
missed_tells i j a b c early looked changed =
    and_from (nat_lt a.start j) (some_changed (looked_at a) b) (lt-ltb a.start j early) (any_at (looked_at a) b.changed c changed looked)

module _ (traces : List TraceView) (i j : ℕ) where
  abbrev a : TraceView
  a = trace_at traces i

  abbrev b : TraceView
  b = trace_at traces j

  abbrev again : Bool
  again = changes_again traces i j

  abbrev sees : Bool
  sees = sees_change traces i j

  abbrev misses : Bool
  misses = misses_change traces i j

  before_by : (r : OrderReason) → PutsBefore i j a b r → (again || (sees || misses)) ≡ true
  before_by (reason.Both c) h =
      let found = any_at (changed_at b) a.changed c h.1 h.2 in
      or_left again (sees || misses) (and_from (nat_lt i j) (some_changed (changed_at b) a) (lt-ltb i j h.0) found)
  before_by (reason.Saw c) h =
      let found = any_at (looked_at b) a.changed c h.1 h.2 in
      or_right again (sees || misses) (or_left sees misses (and_from (nat_le i b.start) (some_changed (looked_at b) a) (le-leb i b.start h.0) found))
  before_by (reason.Missed c) h =
      or_right again (sees || misses) (or_right sees misses (missed_tells i j a b c h.0 (looked_alone a c h.1) h.2))
  before_by (reason.MissedIn region c) h =
      or_right again (sees || misses) (or_right sees misses (missed_tells i j a b c h.0 (looked_in a region c h.1) h.2))

  pub reason_depends : (r : OrderReason) → IsReason traces i j r → trace_depends traces i j ≡ true
  reason_depends r h = and_from (not (i == j)) (again || (sees || misses)) (ap not (ne_eqb i j h.0)) (before_by r h.1)

-- both numbers are those of commits
pub reason_numbers : (traces : List TraceView) (i j : ℕ) (r : OrderReason) → IsReason traces i j r → (1 ≤ i) × (1 ≤ j)
reason_numbers traces zero j (reason.Both c) h = absurd (true≢false (sym h.1.1))
reason_numbers traces zero j (reason.Saw c) h = absurd (true≢false (sym h.1.1))
reason_numbers traces zero j (reason.Missed c) h = let inside = h.1.1.1 in absurd (omega (arith, inside))
reason_numbers traces zero j (reason.MissedIn region c) h = let inside = h.1.1.1.1 in absurd (omega (arith, inside))
reason_numbers traces (suc i) zero (reason.Both c) h = absurd (true≢false (sym h.1.2))
reason_numbers traces (suc i) zero (reason.Saw c) h = absurd (true≢false (sym h.1.2))
reason_numbers traces (suc i) zero (reason.Missed c) h = absurd (true≢false (sym h.1.2))
reason_numbers traces (suc i) zero (reason.MissedIn region c) h = absurd (true≢false (sym h.1.2))
reason_numbers traces (suc i) (suc j) r h = (omega arith, omega arith)
