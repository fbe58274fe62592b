-- Rows of words as square tables.
use Rattle.std.proofs.Common.{◌≡◌, ◌≢◌, ℕ, zero, suc, ◌<◌, ◌≤◌, ◌+◌, ◌-◌, ◌*◌, ◌/◌, ◌%◌, ◌^◌, ◌⊎◌, inl, inr, max, List, Bool, true, false, ◌||◌, length, get_or, set, replicate, refl, sym, ap, subst, ◌∙◌, arith, get_or-set_same, get_or-set_other, bit_and, bit_or, w64}
use Rattle.std.specs.Prelude.{◌==◌}
use Rattle.std.specs.Int.{bit_at, trailing_zeros}
use Rattle.std.proofs.Math.Nat.{div-div-eq-div-mul, div-lt_iff_lt-mul, pos_of_ne-zero, mod-lt, div-le_self, mul-le-mul_right}
use Rattle.std.proofs.lemmas.Nat.{mul-add-lt, div-mul-add, mod-mul-add, div-add-mod', same_from_place, pow-add}
use Rattle.std.proofs.lemmas.Nat.Bits.{bit_at-zero, bit_at-lt, bit_at-trailing_zeros, bit_at_above, bit_at_or, bit_at_set_same, bit_at_set_other, shr_and_one}
use Rattle.std.proofs.lemmas.List.{length-set}
use Rattle.std.proofs.lemmas.Bool.Decides.{eqb_tells}
use Rattle.std.proofs.lemmas.List.FromFn.{get_or-map-range_with_len, length-map-range_with_len}
use Rattle.std.proofs.lemmas.Bool.{cases_lt, eq-eqb, false≢true}
use Rattle.order_facts.specs.Sets.{is_in, IsEmptySet, InsertsNode}
use Rattle.order_facts.specs.Square.{Grid, entry, Joins, IsEmptySquare, RaisesEntry, JoinsBy, JoinsRow, JoinsSet}
use Rattle.order_facts.specs.Words.{has_bit, row_bit, grid_of, set_of, AreRows, JoinsWords, IsNextBit, IsNextJoined}

-- ---- one word

bit_at-rest : (word start n : ℕ) → bit_at (word / 2 ^ start) n ≡ bit_at word (start + n)
bit_at-rest word start n = ap (λ (k : ℕ). k % 2) (div-div-eq-div-mul word (2 ^ start) (2 ^ n) ∙ ap (λ (k : ℕ). word / k) (sym (pow-add 2 start n)))

bit_at-from : (word start n : ℕ) → start ≤ n → bit_at word n ≡ bit_at (word / 2 ^ start) (n - start)
bit_at-from word start n l =
    let e : n ≡ start + (n - start) = omega arith in
    ap (λ (k : ℕ). bit_at word k) e ∙ sym (bit_at-rest word start (n - start))

pub no_bit-from : (word start : ℕ) → word / 2 ^ start ≡ 0 → (n : ℕ) → start ≤ n → bit_at word n ≡ 0
no_bit-from word start none n l = bit_at-from word start n l ∙ ap (λ (k : ℕ). bit_at k (n - start)) none ∙ bit_at-zero (n - start)

rest_small : (word start : ℕ) → word < 2 ^ 64 → word / 2 ^ start < 2 ^ 64
rest_small word start small = omega (arith, small, div-le_self word (2 ^ start))

pub next_bit-found : (word start : ℕ) → word < 2 ^ 64 → word / 2 ^ start ≢ 0 → IsNextBit word start (start + trailing_zeros w64 (word / 2 ^ start))
next_bit-found word start small some =
    let rest = word / 2 ^ start in
    let lowest = bit_at-trailing_zeros w64 rest (pos_of_ne-zero some) (rest_small word start small) in
    let zeros = trailing_zeros w64 rest in
    let is_set : bit_at word (start + zeros) ≡ 1 = sym (bit_at-rest word start zeros) ∙ lowest.1 in
    record {
      inside = go (cases_lt (start + zeros) 64) is_set;
      from_start = omega arith;
      is_set = is_set;
      least = λ other from below. bit_at-from word start other from ∙ lowest.2 (other - start) (omega arith);
    }
  where
    go : (start + trailing_zeros w64 (word / 2 ^ start) < 64) ⊎ (64 ≤ start + trailing_zeros w64 (word / 2 ^ start)) → bit_at word (start + trailing_zeros w64 (word / 2 ^ start)) ≡ 1 → start + trailing_zeros w64 (word / 2 ^ start) < 64
    go (inl l) e = l
    go (inr l) e = let none : bit_at word (start + trailing_zeros w64 (word / 2 ^ start)) ≡ 0 = bit_at_above word 64 (start + trailing_zeros w64 (word / 2 ^ start)) small l in absurd (omega (arith, none, e))

max_one : (a b : ℕ) → a < 2 → b < 2 → (max a b == 1) ≡ (a == 1 || b == 1)
max_one zero zero p q = refl
max_one zero (suc zero) p q = refl
max_one (suc zero) zero p q = refl
max_one (suc zero) (suc zero) p q = refl
max_one (suc (suc a)) b p q = absurd (omega arith)
max_one zero (suc (suc b)) p q = absurd (omega arith)
max_one (suc zero) (suc (suc b)) p q = absurd (omega arith)

has_bit-or : (a b n : ℕ) → has_bit (bit_or a b) n ≡ (has_bit a n || has_bit b n)
has_bit-or a b n = ap (λ (k : ℕ). k == 1) (bit_at_or a b n) ∙ max_one (bit_at a n) (bit_at b n) (bit_at-lt a n) (bit_at-lt b n)

-- ---- tables

-- the word of a column is one of its row
pub in_row : (size width to : ℕ) → size ≤ width * 64 → to < size → to / 64 < width
in_row size width to wide inside = (div-lt_iff_lt-mul (omega arith)).1 (omega (arith, wide, inside))

pub in_words : (size width from to : ℕ) (words : List ℕ) → AreRows size width words → from < size → to < size → from * width + to / 64 < length words
in_words size width from to words are p q = omega (arith, are.all, mul-add-lt from width (to / 64) size p (in_row size width to are.wide q))

pub entry_is : (size width : ℕ) (words : List ℕ) (i j : ℕ) → i < size → j < size → entry (grid_of size width words) i j ≡ row_bit width words i j
entry_is size width words i j p q =
    get_or-map-range_with_len (λ place. row_bit width words (place / size) (place % size)) 0 (size * size) (i * size + j) (i * size + j) false (mul-add-lt i size j size p q) (omega arith)
    ∙ (λ t. row_bit width words (div-mul-add i size j q t) (mod-mul-add i size j q t))

pub bit_read : (size width : ℕ) (words : List ℕ) (from to : ℕ) → from < size → to < size → (bit_and (get_or words (from * width + to / 64) 0 / 2 ^ (to % 64)) 1 == 1) ≡ entry (grid_of size width words) from to
bit_read size width words from to p q = ap (λ (k : ℕ). k == 1) (shr_and_one (get_or words (from * width + to / 64) 0) (to % 64)) ∙ sym (entry_is size width words from to p q)

-- ---- one bit more

-- one bit more is set in the word at a place
abbrev with_bit_at : List ℕ → (place n : ℕ) → List ℕ
with_bit_at words place n = set words place (bit_or (get_or words place 0) (1 * 2 ^ n % 2 ^ 64))

bit-here_at : (words : List ℕ) (place n : ℕ) → place < length words → n < 64 → has_bit (get_or (with_bit_at words place n) place 0) n ≡ true
bit-here_at words place n inside small = ap (λ (w : ℕ). has_bit w n) (get_or-set_same words place _ 0 inside) ∙ eq-eqb _ _ (bit_at_set_same w64 (get_or words place 0) n small)

bit-other_at : (words : List ℕ) (place n other m : ℕ) → place < length words → n < 64 → ¬ ((other ≡ place) × (m ≡ n)) → has_bit (get_or (with_bit_at words place n) other 0) m ≡ has_bit (get_or words other 0) m
bit-other_at words place n other m inside small apart = go (eqb_tells other place)
  where
    word : ℕ
    word = get_or words place 0

    new : ℕ
    new = bit_or word (1 * 2 ^ n % 2 ^ 64)

    go : (((other == place) ≡ true) × (other ≡ place)) ⊎ (((other == place) ≡ false) × (other ≢ place)) → has_bit (get_or (with_bit_at words place n) other 0) m ≡ has_bit (get_or words other 0) m
    go (inl e) =
        ap (λ (p : ℕ). has_bit (get_or (set words place new) p 0) m) e.1
        ∙ ap (λ (w : ℕ). has_bit w m) (get_or-set_same words place new 0 inside)
        ∙ ap (λ (b : ℕ). b == 1) (bit_at_set_other w64 word n small m (λ r. apart (e.1, r)))
        ∙ ap (λ (p : ℕ). has_bit (get_or words p 0) m) (sym e.1)
    go (inr d) = ap (λ (w : ℕ). has_bit w m) (get_or-set_other words place other new 0 d.1)

abbrev with_bit : ℕ → List ℕ → ℕ → ℕ → List ℕ
with_bit width words from to = with_bit_at words (from * width + to / 64) (to % 64)

bit_other : (width : ℕ) (words : List ℕ) (from to i j : ℕ) → from * width + to / 64 < length words → to / 64 < width → j / 64 < width → ¬ ((i ≡ from) × (j ≡ to)) → row_bit width (with_bit width words from to) i j ≡ row_bit width words i j
bit_other width words from to i j inside to_in j_in other =
    bit-other_at words (from * width + to / 64) (to % 64) (i * width + j / 64) (j % 64) inside (mod-lt to (omega arith))
    (λ h. let same = same_from_place i (j / 64) from (to / 64) width j_in to_in h.0 in other (same.0, sym (div-add-mod' j 64) ∙ (λ t. same.1 t * 64 + h.1 t) ∙ div-add-mod' to 64))

pub bit_raised : (size width : ℕ) (words : List ℕ) (old : Grid) (from to word : ℕ) → grid_of size width words ≡ old → AreRows size width words → from < old.size → to < old.size → word ≡ get_or words (from * width + to / 64) 0 → RaisesEntry old (grid_of size width (set words (from * width + to / 64) (bit_or word (1 * 2 ^ (to % 64) % 2 ^ 64)))) from to
bit_raised size width words old from to word is are from_old to_old read =
    let same : size ≡ old.size = ap (λ (g : Grid). g.size) is in
    let p : from < size = omega (arith, same, from_old) in
    let q : to < size = omega (arith, same, to_old) in
    let inside = in_words size width from to words are p q in
    let new = with_bit width words from to in
    subst (λ (w : ℕ). RaisesEntry old (grid_of size width (set words (from * width + to / 64) (bit_or w (1 * 2 ^ (to % 64) % 2 ^ 64)))) from to) (sym read)
    (subst (λ (g : Grid). RaisesEntry g (grid_of size width new) from to) is
    (record {
      size = refl;
      here = entry_is size width new from to p q ∙ bit-here_at words (from * width + to / 64) (to % 64) inside (mod-lt to (omega arith));
      others = λ i j a b other.
          entry_is size width new i j a b
          ∙ bit_other width words from to i j inside (in_row size width to are.wide q) (in_row size width j are.wide b) other
          ∙ sym (entry_is size width words i j a b);
    }))

-- ---- rows

-- a word that is read was not written before
pub unwritten : (old now others : List ℕ) (into from k : ℕ) → JoinsWords old now others into from k → ((j : ℕ) → j < k → into + j ≢ from + k) → get_or now (from + k) 0 ≡ get_or old (from + k) 0
unwritten old now others into from k before apart = go (cases_lt (from + k) into) (cases_lt (from + k) (into + k))
  where
    go : (from + k < into) ⊎ (into ≤ from + k) → (from + k < into + k) ⊎ (into + k ≤ from + k) → get_or now (from + k) 0 ≡ get_or old (from + k) 0
    go (inl l) h = before.before (from + k) l
    go (inr l) (inr m) = before.behind (from + k) m
    go (inr l) (inl m) = absurd (apart (from + k - into) (omega arith) (omega arith))

-- one word more is joined
pub joins_more : (old now others : List ℕ) (into from k x y : ℕ) → JoinsWords old now others into from k → into + k < length now → x ≡ get_or now (into + k) 0 → y ≡ get_or others (from + k) 0 → JoinsWords old (set now (into + k) (bit_or x y)) others into from (k + 1)
joins_more old now others into from k x y before inside x_is y_is = record {
  size = length-set now (into + k) (bit_or x y) ∙ before.size;
  joined = λ j l. joined_at j (cases_lt j k) l;
  before = λ p l. let other : p ≢ into + k = omega arith in get_or-set_other now (into + k) p (bit_or x y) 0 other ∙ before.before p l;
  behind = λ p l. let other : p ≢ into + k = omega arith in get_or-set_other now (into + k) p (bit_or x y) 0 other ∙ before.behind p (omega arith);
}
  where
    joined_at : (j : ℕ) → (j < k) ⊎ (k ≤ j) → j < k + 1 → get_or (set now (into + k) (bit_or x y)) (into + j) 0 ≡ bit_or (get_or old (into + j) 0) (get_or others (from + j) 0)
    joined_at j (inl l) m = let other : into + j ≢ into + k = omega arith in get_or-set_other now (into + k) (into + j) (bit_or x y) 0 other ∙ before.joined j l
    joined_at j (inr l) m =
        let e : j ≡ k = omega arith in
        subst (λ (n : ℕ). get_or (set now (into + k) (bit_or x y)) (into + n) 0 ≡ bit_or (get_or old (into + n) 0) (get_or others (from + n) 0)) (sym e)
        (get_or-set_same now (into + k) (bit_or x y) 0 inside ∙ (λ t. bit_or ((x_is ∙ before.behind (into + k) (omega arith)) t) (y_is t)))

-- the words of a row are apart from those of another, or the same
pub rows_apart : (row through width j k : ℕ) → j < k → k < width → row * width + j ≢ through * width + k
rows_apart row through width j k l m e = let same = same_from_place row j through k width (omega arith) m e in let f = same.1 in omega arith

pub row_inside : (size width row : ℕ) (words : List ℕ) → AreRows size width words → row < size → row * width + width ≤ length words
row_inside size width row words are l = omega (arith, are.all, mul-le-mul_right width (let m : row + 1 ≤ size = omega arith in m))

bit_joined : (width count : ℕ) (old new others : List ℕ) (row from j : ℕ) → JoinsWords old new others (row * width) from count → j / 64 < count → row_bit width new row j ≡ (row_bit width old row j || has_bit (get_or others (from + j / 64) 0) (j % 64))
bit_joined width count old new others row from j joins in_row = ap (λ (w : ℕ). has_bit w (j % 64)) (joins.joined (j / 64) in_row) ∙ has_bit-or _ _ (j % 64)

bit_kept : (width count : ℕ) (old new others : List ℕ) (row from i j : ℕ) → JoinsWords old new others (row * width) from count → count ≤ width → j / 64 < width → ¬ (i ≡ row) → row_bit width new i j ≡ row_bit width old i j
bit_kept width count old new others row from i j joins fits in_row other = ap (λ (w : ℕ). has_bit w (j % 64)) (go (cases_lt i row))
  where
    go : (i < row) ⊎ (row ≤ i) → get_or new (i * width + j / 64) 0 ≡ get_or old (i * width + j / 64) 0
    go (inl l) = joins.before (i * width + j / 64) (omega (arith, mul-le-mul_right width (let m : i + 1 ≤ row = omega arith in m)))
    go (inr l) = joins.behind (i * width + j / 64) (omega (arith, fits, mul-le-mul_right width (let m : row + 1 ≤ i = omega (arith, other) in m)))

-- a row is joined with words that tell what a test does
row-joined_by : (size width count : ℕ) (words new others : List ℕ) (old : Grid) (row from : ℕ) (test : ℕ → Bool) → grid_of size width words ≡ old → AreRows size width words → row < old.size → count ≤ width
    → ((j : ℕ) → j < size → j / 64 < count) → ((j : ℕ) → j < size → has_bit (get_or others (from + j / 64) 0) (j % 64) ≡ test j)
    → JoinsWords words new others (row * width) from count → JoinsBy old (grid_of size width new) row test
row-joined_by size width count words new others old row from test is are row_old fits inside told joins =
    let same : size ≡ old.size = ap (λ (g : Grid). g.size) is in
    let p : row < size = omega (arith, same, row_old) in
    subst (λ (g : Grid). JoinsBy g (grid_of size width new) row test) is
    (record {
      size = refl;
      here = λ j b.
          entry_is size width new row j p b
          ∙ bit_joined width count words new others row from j joins (inside j b)
          ∙ (λ t. sym (entry_is size width words row j p b) t || told j b t);
      others = λ i j a b other.
          entry_is size width new i j a b
          ∙ bit_kept width count words new others row from i j joins fits (in_row size width j are.wide b) other
          ∙ sym (entry_is size width words i j a b);
    })

pub row_joined : (size width : ℕ) (words new : List ℕ) (old : Grid) (row through : ℕ) → grid_of size width words ≡ old → AreRows size width words → row < old.size → through < old.size → JoinsWords words new words (row * width) (through * width) width → JoinsRow old (grid_of size width new) row through
row_joined size width words new old row through is are row_old through_old joins =
    let same : size ≡ old.size = ap (λ (g : Grid). g.size) is in
    let q : through < size = omega (arith, same, through_old) in
    row-joined_by size width width words new words old row (through * width) (λ j. entry old through j) is are row_old (omega arith) (λ j b. in_row size width j are.wide b)
    (λ j b. sym (entry_is size width words through j q b) ∙ ap (λ (g : Grid). entry g through j) is) joins

-- ---- sets

get_or_zeros : (n p : ℕ) → ◌≡◌ {A = ℕ} (get_or (replicate n 0) p 0) 0
get_or_zeros zero zero = refl
get_or_zeros zero (suc p) = refl
get_or_zeros (suc n) zero = refl
get_or_zeros (suc n) (suc p) = get_or_zeros n p

-- whether a node is in the set of some bits
pub member_is : (size : ℕ) (words : List ℕ) (node : ℕ) → node < size → is_in (set_of size words) node ≡ has_bit (get_or words (node / 64) 0) (node % 64)
member_is size words node p = get_or-map-range_with_len (λ n. has_bit (get_or words (n / 64) 0) (n % 64)) 0 size node node false p (omega arith)

pub set_size : (size : ℕ) (words : List ℕ) → length (set_of size words) ≡ size
set_size size words = length-map-range_with_len (λ n. has_bit (get_or words (n / 64) 0) (n % 64)) 0 size

pub row-joined_with_set : (size width count of_set : ℕ) (words new bits : List ℕ) (old : Grid) (row : ℕ) → grid_of size width words ≡ old → AreRows size width words → row < old.size → count ≤ width
    → length (set_of of_set bits) ≡ old.size → ((j : ℕ) → j < size → j / 64 < count)
    → JoinsWords words new bits (row * width) 0 count → JoinsSet old (grid_of size width new) row (set_of of_set bits)
row-joined_with_set size width count of_set words new bits old row is are row_old fits whole inside joins =
    let same : size ≡ old.size = ap (λ (g : Grid). g.size) is in
    row-joined_by size width count words new bits old row (0) (λ j. is_in (set_of of_set bits) j) is are row_old fits inside
    (λ j b.
    let e : 0 + j / 64 ≡ j / 64 = omega arith in
    ap (λ (p : ℕ). has_bit (get_or bits p 0) (j % 64)) e ∙ sym (member_is of_set bits j (omega (arith, b, same, whole, set_size of_set bits)))) joins

-- a set of no bits
pub empty_set : (size n : ℕ) (words : List ℕ) → words ≡ replicate n 0 → IsEmptySet (set_of size words) size
empty_set size n words zeros = record {
  size_is = set_size size words;
  none = λ node p.
      member_is size words node p
      ∙ ap (λ (ws : List ℕ). has_bit (get_or ws (node / 64) 0) (node % 64)) zeros
      ∙ ap (λ (w : ℕ). has_bit w (node % 64)) (get_or_zeros n (node / 64))
      ∙ ap (λ (b : ℕ). b == 1) (bit_at-zero (node % 64));
}

-- a set with one bit more
pub node_inserted : (size : ℕ) (words : List ℕ) (old : List Bool) (node word : ℕ) → set_of size words ≡ old → size ≤ length words * 64 → node < length old → word ≡ get_or words (node / 64) 0
    → InsertsNode old (set_of size (set words (node / 64) (bit_or word (1 * 2 ^ (node % 64) % 2 ^ 64)))) node
node_inserted size words old node word is wide node_old read =
    let same : size ≡ length old = sym (set_size size words) ∙ ap (λ (l : List Bool). length l) is in
    let p : node < size = omega (arith, same, node_old) in
    let inside = in_row size (length words) node wide p in
    let new = with_bit_at words (node / 64) (node % 64) in
    let small = mod-lt node (omega arith) in
    subst (λ (w : ℕ). InsertsNode old (set_of size (set words (node / 64) (bit_or w (1 * 2 ^ (node % 64) % 2 ^ 64)))) node) (sym read)
    (subst (λ (l : List Bool). InsertsNode l (set_of size new) node) is
    (record {
      size = set_size size new ∙ sym (set_size size words);
      here = member_is size new node p ∙ bit-here_at words (node / 64) (node % 64) inside small;
      others = λ other b apart.
          let q : other < size = omega (arith, b, set_size size words) in
          member_is size new other q
          ∙ bit-other_at words (node / 64) (node % 64) (other / 64) (other % 64) inside small (λ h. apart (sym (div-add-mod' other 64) ∙ (λ t. h.0 t * 64 + h.1 t) ∙ div-add-mod' node 64))
          ∙ sym (member_is size words other q);
    }))

-- ---- an empty table

-- one row more
pub empty_rows : (size width n : ℕ) (words : List ℕ) → words ≡ replicate n 0 → IsEmptySquare (grid_of size width words) size
empty_rows size width n words zeros = record {
  size_is = refl;
  entries = λ i j p q.
      entry_is size width words i j p q
      ∙ ap (λ (ws : List ℕ). row_bit width ws i j) zeros
      ∙ ap (λ (w : ℕ). has_bit w (j % 64)) (get_or_zeros n (i * width + j / 64))
      ∙ ap (λ (b : ℕ). b == 1) (bit_at-zero (j % 64));
}

-- ---- the next bit of a row

row_bit_at : (width : ℕ) (words : List ℕ) (from q r : ℕ) → r < 64 → row_bit width words from (q * 64 + r) ≡ has_bit (get_or words (from * width + q) 0) r
row_bit_at width words from q r l = λ t. has_bit (get_or words (from * width + div-mul-add q 64 r l t) 0) (mod-mul-add q 64 r l t)

bit-from_joined : (size width : ℕ) (words : List ℕ) (s : Grid) (from to : ℕ) → grid_of size width words ≡ s → Joins s from to → (to < size) × (row_bit width words from to ≡ true)
bit-from_joined size width words s from to is joins = subst (λ (g : Grid). Joins g from to → (to < size) × (row_bit width words from to ≡ true)) is (λ j. (j.to_inside, sym (entry_is size width words from to j.from_inside j.to_inside) ∙ j.joined)) joins

joined-from_bit : (size width : ℕ) (words : List ℕ) (s : Grid) (from to : ℕ) → grid_of size width words ≡ s → from < s.size → to < size → row_bit width words from to ≡ true → Joins s from to
joined-from_bit size width words s from to is from_s to_in bit = subst (λ (g : Grid). from < g.size → Joins g from to) is (λ p. record { from_inside = p; to_inside = to_in; joined = entry_is size width words from to p to_in ∙ bit }) from_s

module _ (size width : ℕ) (words : List ℕ) (s : Grid) (from start at : ℕ) (is : grid_of size width words ≡ s) (before : (to : ℕ) → start ≤ to → to < at → row_bit width words from to ≡ false) where
  pub none-joined : size ≤ at → (to : ℕ) → start ≤ to → ¬ Joins s from to
  none-joined end to l joins =
      let b = bit-from_joined size width words s from to is joins in
      false≢true (sym (before to l (omega (arith, end, b.0))) ∙ b.1)

  module _ (bit : ℕ) (next : IsNextBit (get_or words (from * width + at / 64) 0) (at % 64) bit) where
    unset : (to : ℕ) → start ≤ to → to < at / 64 * 64 + bit → row_bit width words from to ≡ false
    unset to l below = go (cases_lt to at)
      where
        go : (to < at) ⊎ (at ≤ to) → row_bit width words from to ≡ false
        go (inl m) = before to l m
        go (inr m) =
            let whole = div-add-mod' at 64 in
            let r = to - at / 64 * 64 in
            let e : to ≡ at / 64 * 64 + r = omega (arith, whole) in
            let in_word : r < 64 = omega (arith, next.inside, below) in
            ap (λ (n : ℕ). row_bit width words from n) e
            ∙ row_bit_at width words from (at / 64) r in_word
            ∙ ap (λ (b : ℕ). b == 1) (next.least r (omega (arith, whole)) (omega (arith, below, whole)))

    pub next-missing : size ≤ at / 64 * 64 + bit → (to : ℕ) → start ≤ to → ¬ Joins s from to
    next-missing end to l joins =
        let b = bit-from_joined size width words s from to is joins in
        false≢true (sym (unset to l (omega (arith, end, b.0))) ∙ b.1)

    pub next-joined : from < s.size → start ≤ at → at / 64 * 64 + bit < size → IsNextJoined s from start (at / 64 * 64 + bit)
    next-joined from_s on inside = record {
      joined = joined-from_bit size width words s from (at / 64 * 64 + bit) is from_s inside (row_bit_at width words from (at / 64) bit next.inside ∙ eq-eqb _ _ next.is_set);
      from_start = omega (arith, on, next.from_start, div-add-mod' at 64);
      least = λ other l joins. go other l joins (cases_lt other (at / 64 * 64 + bit));
    }
      where
        go : (other : ℕ) → start ≤ other → Joins s from other → (other < at / 64 * 64 + bit) ⊎ (at / 64 * 64 + bit ≤ other) → at / 64 * 64 + bit ≤ other
        go other l joins (inl m) =
            let b = bit-from_joined size width words s from other is joins in
            absurd (false≢true (sym (unset other l m) ∙ b.1))
        go other l joins (inr m) = m
