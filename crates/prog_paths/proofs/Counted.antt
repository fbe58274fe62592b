-- How many questions the accesses of a table ask, with one access more behind them.
use Rattle.std.proofs.Common.{◌≡◌, ℕ, ◌+◌, ◌⊎◌, inl, inr, Bool, true, false, ◌||◌, ◌&&◌, List, [], ◌∷◌, ◌++◌, length, refl, sym, subst, ap, ◌∙◌, arith, length-append, cond}
use Rattle.std.specs.Prelude.{if◌then◌else◌, nat_lt, nat_le, ◌==◌}
use Rattle.std.proofs.lemmas.Bool.{cases_eq, eq-eqb, ne_eqb, le-leb, and_from, or_right}
use Rattle.std.proofs.lemmas.List.{append-nil}
use Rattle.std.proofs.lemmas.List.Elements.{All-head, All-tail, filter-append}
use Rattle.std.proofs.lemmas.List.Sums.{sum_by-append, sum_by-cons}
use Rattle.prog_check.specs.declared.path.Kind.{Kind}
use Rattle.prog_check.specs.declared.path.Kind.TheVariants.{Reads, Sees, Lacks, Writes, Adds, Keeps}
use Rattle.prog_paths.specs.declared.accesses.places.Placed.{Placed}
use Rattle.prog_paths.specs.declared.accesses.tally.AccessTally.{AccessTally}
use Rattle.prog_paths.specs.Questions.{asks, kinds_depend, both_write, is_in_order, question_between, asked_by, asked_among}
use Rattle.prog_paths.specs.Tally.{IsTally, StandsBehind, is_read, is_look, is_write, is_add, of_table, count_of, capped}
use Rattle.prog_paths.proofs.Questions.{asked_by-append, asked_among-append}

-- ---- lengths

pub asked_by-cons : (first second : Placed) (xs : List Placed) → length (asked_by first (second ∷ xs)) ≡ cond (asks first second) 1 0 + length (asked_by first xs)
asked_by-cons first second xs = go (asks first second)
  where
    go : (b : Bool) → length (if b then question_between first second ∷ asked_by first xs else asked_by first xs) ≡ cond b 1 0 + length (asked_by first xs)
    go true = omega arith
    go false = omega arith

pub among-cons : (x : Placed) (xs ys : List Placed) → length (asked_among (x ∷ xs) ys) ≡ length (asked_by x ys) + length (asked_among xs ys)
among-cons x xs ys = length-append (asked_by x ys) (asked_among xs ys)

-- what some ask of one access more
among-behind : (xs ys : List Placed) (p : Placed) → length (asked_among xs (ys ++ p ∷ [])) ≡ length (asked_among xs ys) + length (asked_among xs (p ∷ []))
among-behind [] ys p = refl
among-behind (x ∷ xs) ys p =
    let whole = among-cons x xs (ys ++ p ∷ []) in
    let old = among-cons x xs ys in
    let more = among-cons x xs (p ∷ []) in
    let split : length (asked_by x (ys ++ p ∷ [])) ≡ length (asked_by x ys) + length (asked_by x (p ∷ [])) = ap length (asked_by-append x ys (p ∷ [])) ∙ length-append (asked_by x ys) (asked_by x (p ∷ [])) in
    let rest = among-behind xs ys p in
    omega (arith, whole, old, more, split, rest)

-- ---- what an access adds to the questions of those before it, and to their own

-- the questions between an access and so many others of its table
abbrev pub gain : Kind → ℕ → ℕ → ℕ → ℕ → ℕ
gain Reads reads looks writes adds = writes + adds
gain Sees reads looks writes adds = adds
gain Lacks reads looks writes adds = adds
gain Writes reads looks writes adds = reads + writes
gain Adds reads looks writes adds = reads + looks
gain Keeps reads looks writes adds = 0

-- the questions of an access to itself
abbrev pub own : Kind → ℕ
own Writes = 1
own _ = 0

pair_gain : (k j : Kind) → cond (kinds_depend k j || (both_write k j && false)) 1 0 + cond (kinds_depend j k || (both_write j k && true)) 1 0 ≡ gain k (cond (is_read j) 1 0) (cond (is_look j) 1 0) (cond (is_write j) 1 0) (cond (is_add j) 1 0)
pair_gain Reads Reads = refl
pair_gain Reads Sees = refl
pair_gain Reads Lacks = refl
pair_gain Reads Writes = refl
pair_gain Reads Adds = refl
pair_gain Reads Keeps = refl
pair_gain Sees Reads = refl
pair_gain Sees Sees = refl
pair_gain Sees Lacks = refl
pair_gain Sees Writes = refl
pair_gain Sees Adds = refl
pair_gain Sees Keeps = refl
pair_gain Lacks Reads = refl
pair_gain Lacks Sees = refl
pair_gain Lacks Lacks = refl
pair_gain Lacks Writes = refl
pair_gain Lacks Adds = refl
pair_gain Lacks Keeps = refl
pair_gain Writes Reads = refl
pair_gain Writes Sees = refl
pair_gain Writes Lacks = refl
pair_gain Writes Writes = refl
pair_gain Writes Adds = refl
pair_gain Writes Keeps = refl
pair_gain Adds Reads = refl
pair_gain Adds Sees = refl
pair_gain Adds Lacks = refl
pair_gain Adds Writes = refl
pair_gain Adds Adds = refl
pair_gain Adds Keeps = refl
pair_gain Keeps Reads = refl
pair_gain Keeps Sees = refl
pair_gain Keeps Lacks = refl
pair_gain Keeps Writes = refl
pair_gain Keeps Adds = refl
pair_gain Keeps Keeps = refl

own_gain : (k : Kind) → cond (kinds_depend k k || (both_write k k && true)) 1 0 ≡ own k
own_gain Reads = refl
own_gain Sees = refl
own_gain Lacks = refl
own_gain Writes = refl
own_gain Adds = refl
own_gain Keeps = refl

gain-none : (k : Kind) → 0 ≡ gain k 0 0 0 0
gain-none Reads = refl
gain-none Sees = refl
gain-none Lacks = refl
gain-none Writes = refl
gain-none Adds = refl
gain-none Keeps = refl

gain-add : (k : Kind) (r l w a s m v b : ℕ) → gain k (r + s) (l + m) (w + v) (a + b) ≡ gain k r l w a + gain k s m v b
gain-add Reads r l w a s m v b = omega arith
gain-add Sees r l w a s m v b = omega arith
gain-add Lacks r l w a s m v b = omega arith
gain-add Writes r l w a s m v b = omega arith
gain-add Adds r l w a s m v b = omega arith
gain-add Keeps r l w a s m v b = omega arith

gain-capped : (k : Kind) (q r l w a : ℕ) → capped (capped q + (own k + gain k (capped r) (capped l) (capped w) (capped a))) ≡ capped (q + (own k + gain k r l w a))
gain-capped Reads q r l w a = omega arith
gain-capped Sees q r l w a = omega arith
gain-capped Lacks q r l w a = omega arith
gain-capped Writes q r l w a = omega arith
gain-capped Adds q r l w a = omega arith
gain-capped Keeps q r l w a = omega arith

-- ---- two accesses

asks-same : (first second : Placed) (order : Bool) → first.access.table ≡ second.access.table → is_in_order first second ≡ order → asks first second ≡ (kinds_depend first.access.kind second.access.kind || (both_write first.access.kind second.access.kind && order))
asks-same first second order table e =
    ap (λ (b : Bool). b && (kinds_depend first.access.kind second.access.kind || (both_write first.access.kind second.access.kind && is_in_order first second))) (eq-eqb first.access.table second.access.table table)
    ∙ ap (λ (b : Bool). kinds_depend first.access.kind second.access.kind || (both_write first.access.kind second.access.kind && b)) e

pub asks-other : (first second : Placed) → (first.access.table ≡ second.access.table → ⊥) → asks first second ≡ false
asks-other first second differs =
    ap (λ (b : Bool). b && (kinds_depend first.access.kind second.access.kind || (both_write first.access.kind second.access.kind && is_in_order first second))) (ne_eqb first.access.table second.access.table differs)

own-asked : (p : Placed) → cond (asks p p) 1 0 ≡ own p.access.kind
own-asked p =
    let order = or_right (nat_lt p.node p.node) _ (and_from (p.node == p.node) (nat_le p.number p.number) (eq-eqb p.node p.node refl) (le-leb p.number p.number (omega arith))) in
    ap (λ (b : Bool). cond b 1 0) (asks-same p p true refl order) ∙ own_gain p.access.kind

-- ---- counts

count-first : (kinds : Kind → Bool) (table : ℕ) (q : Placed) (xs : List Placed) → count_of kinds table (q ∷ xs) ≡ cond ((q.access.table == table) && kinds q.access.kind) 1 0 + count_of kinds table xs
count-first kinds table q xs = sum_by-cons (λ (p : Placed). cond ((p.access.table == table) && kinds p.access.kind) 1 0) q xs

count-same : (kinds : Kind → Bool) (table : ℕ) (q : Placed) (xs : List Placed) → (q.access.table == table) ≡ true → count_of kinds table (q ∷ xs) ≡ cond (kinds q.access.kind) 1 0 + count_of kinds table xs
count-same kinds table q xs e = count-first kinds table q xs ∙ ap (λ (b : Bool). cond (b && kinds q.access.kind) 1 0 + count_of kinds table xs) e

count-other : (kinds : Kind → Bool) (table : ℕ) (q : Placed) (xs : List Placed) → (q.access.table == table) ≡ false → count_of kinds table (q ∷ xs) ≡ count_of kinds table xs
count-other kinds table q xs e =
    let first = count-first kinds table q xs ∙ ap (λ (b : Bool). cond (b && kinds q.access.kind) 1 0 + count_of kinds table xs) e in
    omega (arith, first)

count-behind : (kinds : Kind → Bool) (table : ℕ) (places : List Placed) (p : Placed) → count_of kinds table (places ++ p ∷ []) ≡ count_of kinds table places + count_of kinds table (p ∷ [])
count-behind kinds table places p = sum_by-append (λ (q : Placed). cond ((q.access.table == table) && kinds q.access.kind) 1 0) places (p ∷ [])

of_table-same : (table : ℕ) (q : Placed) (xs : List Placed) → (q.access.table == table) ≡ true → of_table table (q ∷ xs) ≡ q ∷ of_table table xs
of_table-same table q xs e = ap (λ (b : Bool). cond b (q ∷ of_table table xs) (of_table table xs)) e

of_table-other : (table : ℕ) (q : Placed) (xs : List Placed) → (q.access.table == table) ≡ false → of_table table (q ∷ xs) ≡ of_table table xs
of_table-other table q xs e = ap (λ (b : Bool). cond b (q ∷ of_table table xs) (of_table table xs)) e

of_table-behind : (table : ℕ) (places : List Placed) (p : Placed) → of_table table (places ++ p ∷ []) ≡ of_table table places ++ of_table table (p ∷ [])
of_table-behind table places p = filter-append (λ (q : Placed). q.access.table == table) places (p ∷ [])

-- what an access and those of its table before it ask each other
abbrev gained_from : Placed → List Placed → ℕ
gained_from p xs = gain p.access.kind (count_of is_read p.access.table xs) (count_of is_look p.access.table xs) (count_of is_write p.access.table xs) (count_of is_add p.access.table xs)

gain-same : (k : Kind) (r l w a s m v b : ℕ) → r ≡ s → l ≡ m → w ≡ v → a ≡ b → gain k r l w a ≡ gain k s m v b
gain-same k r l w a s m v b f g h j = λ i. gain k (f i) (g i) (h i) (j i)

gained : (p : Placed) (xs : List Placed) → StandsBehind p xs → length (asked_by p xs) + length (asked_among (of_table p.access.table xs) (p ∷ [])) ≡ gained_from p xs
gained p [] h = gain-none p.access.kind
gained p (q ∷ xs) h = go (cases_eq q.access.table p.access.table) (gained p xs (All-tail (λ q'. (is_in_order q' p ≡ true) × (is_in_order p q' ≡ false)) q xs h))
  where
    table : ℕ
    table = p.access.table

    ordered : (is_in_order q p ≡ true) × (is_in_order p q ≡ false)
    ordered = All-head (λ q'. (is_in_order q' p ≡ true) × (is_in_order p q' ≡ false)) q xs h

    go : (q.access.table ≡ p.access.table) ⊎ (q.access.table ≡ p.access.table → ⊥) → length (asked_by p xs) + length (asked_among (of_table p.access.table xs) (p ∷ [])) ≡ gained_from p xs → length (asked_by p (q ∷ xs)) + length (asked_among (of_table p.access.table (q ∷ xs)) (p ∷ [])) ≡ gained_from p (q ∷ xs)
    go (inl e) rest =
        let e' = eq-eqb q.access.table p.access.table e in
        let by = asked_by-cons p q xs in
        let from : length (asked_among (of_table p.access.table (q ∷ xs)) (p ∷ [])) ≡ (cond (asks q p) 1 0 + 0) + length (asked_among (of_table p.access.table xs) (p ∷ [])) =
        ap (λ (l : List Placed). length (asked_among l (p ∷ []))) (of_table-same p.access.table q xs e')
        ∙ among-cons q (of_table p.access.table xs) (p ∷ [])
        ∙ ap (λ n. n + length (asked_among (of_table p.access.table xs) (p ∷ []))) (asked_by-cons q p []) in
        let two : cond (asks p q) 1 0 + cond (asks q p) 1 0 ≡ gain p.access.kind (cond (is_read q.access.kind) 1 0) (cond (is_look q.access.kind) 1 0) (cond (is_write q.access.kind) 1 0) (cond (is_add q.access.kind) 1 0) =
        (λ i. cond (asks-same p q false (sym e) ordered.1 i) 1 0 + cond (asks-same q p true e ordered.0 i) 1 0) ∙ pair_gain p.access.kind q.access.kind in
        let whole : gained_from p (q ∷ xs) ≡ gain p.access.kind (cond (is_read q.access.kind) 1 0) (cond (is_look q.access.kind) 1 0) (cond (is_write q.access.kind) 1 0) (cond (is_add q.access.kind) 1 0) + gained_from p xs =
        gain-same p.access.kind _ _ _ _ _ _ _ _ (count-same is_read p.access.table q xs e') (count-same is_look p.access.table q xs e') (count-same is_write p.access.table q xs e') (count-same is_add p.access.table q xs e')
        ∙ gain-add p.access.kind _ _ _ _ _ _ _ _ in
        omega (arith, by, from, two, whole, rest)
    go (inr differs) rest =
        let e' = ne_eqb q.access.table p.access.table differs in
        let by = asked_by-cons p q xs ∙ ap (λ (b : Bool). cond b 1 0 + length (asked_by p xs)) (asks-other p q (λ f. differs (sym f))) in
        let from : length (asked_among (of_table p.access.table (q ∷ xs)) (p ∷ [])) ≡ length (asked_among (of_table p.access.table xs) (p ∷ [])) =
        ap (λ (l : List Placed). length (asked_among l (p ∷ []))) (of_table-other p.access.table q xs e') in
        let whole : gained_from p (q ∷ xs) ≡ gained_from p xs =
        gain-same p.access.kind _ _ _ _ _ _ _ _ (count-other is_read p.access.table q xs e') (count-other is_look p.access.table q xs e') (count-other is_write p.access.table q xs e') (count-other is_add p.access.table q xs e') in
        omega (arith, by, from, whole, rest)

-- all questions of a table, with an access of the table more
asked-behind : (p : Placed) (xs : List Placed) → StandsBehind p xs → length (asked_among (of_table p.access.table (xs ++ p ∷ [])) (xs ++ p ∷ [])) ≡ length (asked_among (of_table p.access.table xs) xs) + (own p.access.kind + gained_from p xs)
asked-behind p xs h =
    let ys = of_table p.access.table xs in
    let list : of_table p.access.table (xs ++ p ∷ []) ≡ ys ++ p ∷ [] =
    of_table-behind p.access.table xs p ∙ ap (λ (l : List Placed). ys ++ l) (of_table-same p.access.table p [] (eq-eqb p.access.table p.access.table refl)) in
    let split : length (asked_among (of_table p.access.table (xs ++ p ∷ [])) (xs ++ p ∷ [])) ≡ length (asked_among ys (xs ++ p ∷ [])) + length (asked_among (p ∷ []) (xs ++ p ∷ [])) =
    ap (λ (l : List Placed). length (asked_among l (xs ++ p ∷ []))) list
    ∙ ap length (asked_among-append ys (p ∷ []) (xs ++ p ∷ []))
    ∙ length-append (asked_among ys (xs ++ p ∷ [])) (asked_among (p ∷ []) (xs ++ p ∷ [])) in
    let front = among-behind ys xs p in
    let back : length (asked_among (p ∷ []) (xs ++ p ∷ [])) ≡ length (asked_by p (xs ++ p ∷ [])) + 0 = among-cons p [] (xs ++ p ∷ []) in
    let mine : length (asked_by p (xs ++ p ∷ [])) ≡ length (asked_by p xs) + (cond (asks p p) 1 0 + 0) =
    ap length (asked_by-append p xs (p ∷ [])) ∙ length-append (asked_by p xs) (asked_by p (p ∷ [])) ∙ ap (λ n. length (asked_by p xs) + n) (asked_by-cons p p []) in
    let self = own-asked p in
    let gains = gained p xs h in
    omega (arith, split, front, back, mine, self, gains)

-- ---- tallies

-- the numbers of a tally with an access of a kind more
pub record Adds_to (kind : Kind) (old new : AccessTally) : Type 0 where
  pub reads : new.reads ≡ capped (old.reads + cond (is_read kind) 1 0)
  pub looks : new.looks ≡ capped (old.looks + cond (is_look kind) 1 0)
  pub writes : new.writes ≡ capped (old.writes + cond (is_write kind) 1 0)
  pub adds : new.adds ≡ capped (old.adds + cond (is_add kind) 1 0)
  pub questions : new.questions ≡ capped (old.questions + (own kind + gain kind old.reads old.looks old.writes old.adds))

capped-more : (kinds : Kind → Bool) (p : Placed) (places : List Placed) (old new : ℕ) → old ≡ capped (count_of kinds p.access.table places) → new ≡ capped (old + cond (kinds p.access.kind) 1 0) → new ≡ capped (count_of kinds p.access.table (places ++ p ∷ []))
capped-more kinds p places old new h e =
    let one = count-behind kinds p.access.table places p in
    let here' = count-same kinds p.access.table p [] (eq-eqb p.access.table p.access.table refl) in
    omega (arith, h, e, one, here')

tally-own : (places : List Placed) (p : Placed) (old new : AccessTally) → StandsBehind p places → IsTally p.access.table places old → Adds_to p.access.kind old new → IsTally p.access.table (places ++ p ∷ []) new
tally-own places p old new behind h a =
    let total = asked-behind p places behind in
    let r = count_of is_read p.access.table places in
    let l = count_of is_look p.access.table places in
    let w = count_of is_write p.access.table places in
    let v = count_of is_add p.access.table places in
    let q = length (asked_among (of_table p.access.table places) places) in
    record {
      reads = capped-more is_read p places old.reads new.reads h.reads a.reads;
      looks = capped-more is_look p places old.looks new.looks h.looks a.looks;
      writes = capped-more is_write p places old.writes new.writes h.writes a.writes;
      adds = capped-more is_add p places old.adds new.adds h.adds a.adds;
      questions = a.questions
          ∙ (λ i. capped (h.questions i + (own p.access.kind + gain p.access.kind (h.reads i) (h.looks i) (h.writes i) (h.adds i))))
          ∙ gain-capped p.access.kind q r l w v
          ∙ ap capped (sym total);
    }

pub tally-more : (table : ℕ) (places : List Placed) (p : Placed) (kind : Kind) (old new : AccessTally) → p.access.table ≡ table → p.access.kind ≡ kind → StandsBehind p places → IsTally table places old → Adds_to kind old new → IsTally table (places ++ p ∷ []) new
tally-more table places p kind old new e f behind h a =
    subst (λ t. IsTally t (places ++ p ∷ []) new) e
    (tally-own places p old new behind (subst (λ t. IsTally t places old) (sym e) h) (subst (λ (k : Kind). Adds_to k old new) (sym f) a))

pub tally-look : (table : ℕ) (places : List Placed) (p : Placed) (kind : Kind) (old new : AccessTally) → p.access.table ≡ table → p.access.kind ≡ kind → (kind ≡ Sees) ⊎ (kind ≡ Lacks) → StandsBehind p places → IsTally table places old → Adds_to Sees old new → IsTally table (places ++ p ∷ []) new
tally-look table places p kind old new e f (inl s) behind h a = tally-more table places p Sees old new e (f ∙ s) behind h a
tally-look table places p kind old new e f (inr s) behind h a =
    tally-more table places p Lacks old new e (f ∙ s) behind h record { reads = a.reads; looks = a.looks; writes = a.writes; adds = a.adds; questions = a.questions }

-- an access of another table asks nothing of a table
none-asked : (table : ℕ) (xs : List Placed) (p : Placed) → (p.access.table ≡ table → ⊥) → length (asked_among (of_table table xs) (p ∷ [])) ≡ 0
none-asked table [] p differs = refl
none-asked table (q ∷ xs) p differs = go (cases_eq q.access.table table) (none-asked table xs p differs)
  where
    go : (q.access.table ≡ table) ⊎ (q.access.table ≡ table → ⊥) → length (asked_among (of_table table xs) (p ∷ [])) ≡ 0 → length (asked_among (of_table table (q ∷ xs)) (p ∷ [])) ≡ 0
    go (inl e) rest =
        let list = ap (λ (l : List Placed). length (asked_among l (p ∷ []))) (of_table-same table q xs (eq-eqb q.access.table table e)) in
        let split = among-cons q (of_table table xs) (p ∷ []) in
        let none' : length (asked_by q (p ∷ [])) ≡ 0 = asked_by-cons q p [] ∙ ap (λ (b : Bool). cond b 1 0 + 0) (asks-other q p (λ g. differs (sym g ∙ e))) in
        omega (arith, list, split, none', rest)
    go (inr d) rest = ap (λ (l : List Placed). length (asked_among l (p ∷ []))) (of_table-other table q xs (ne_eqb q.access.table table d)) ∙ rest

pub tally-other : (table : ℕ) (places : List Placed) (p : Placed) (tally : AccessTally) → (p.access.table ≡ table → ⊥) → IsTally table places tally → IsTally table (places ++ p ∷ []) tally
tally-other table places p tally differs h = record {
  reads = h.reads ∙ ap capped (sym (unchanged is_read));
  looks = h.looks ∙ ap capped (sym (unchanged is_look));
  writes = h.writes ∙ ap capped (sym (unchanged is_write));
  adds = h.adds ∙ ap capped (sym (unchanged is_add));
  questions = h.questions ∙ ap capped (sym asked);
}
  where
    other : (p.access.table == table) ≡ false
    other = ne_eqb p.access.table table differs

    unchanged : (kinds : Kind → Bool) → count_of kinds table (places ++ p ∷ []) ≡ count_of kinds table places
    unchanged kinds =
        let one = count-behind kinds table places p in
        let none' = count-other kinds table p [] other in
        omega (arith, one, none')

    asked : length (asked_among (of_table table (places ++ p ∷ [])) (places ++ p ∷ [])) ≡ length (asked_among (of_table table places) places)
    asked =
        let list : of_table table (places ++ p ∷ []) ≡ of_table table places =
        of_table-behind table places p ∙ ap (λ (l : List Placed). of_table table places ++ l) (of_table-other table p [] other) ∙ append-nil (of_table table places) in
        let same' = ap (λ (l : List Placed). length (asked_among l (places ++ p ∷ []))) list in
        let split = among-behind (of_table table places) places p in
        let none' = none-asked table places p differs in
        omega (arith, same', split, none')
