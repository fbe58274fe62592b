-- Square tables as rows of words: each word holds 64 columns, a bit for each.
use Rattle.std.specs.Prelude.{◌≡◌, ℕ, ◌+◌, ◌*◌, ◌/◌, ◌%◌, ◌<◌, ◌≤◌, ◌==◌, List, length, map, Bool, slice_index, bit_or}
use Rattle.std.specs.List.{range_with_len}
use Rattle.std.specs.Int.{bit_at}
use Rattle.order_facts.specs.Square.{Grid, Joins}

-- whether a word's bit is set
abbrev pub has_bit : ℕ → ℕ → Bool
has_bit word n = bit_at word n == 1

-- the bit of a column, where a row has so many words
abbrev pub row_bit : ℕ → List ℕ → ℕ → ℕ → Bool
row_bit width words from to = has_bit (slice_index words (from * width + to / 64)) (to % 64)

-- the table of these bits
abbrev pub grid_of : ℕ → ℕ → List ℕ → Grid
grid_of size width words = record {
  size = size;
  entries = map (λ place. row_bit width words (place / size) (place % size)) (range_with_len 0 (size * size));
}

-- a row has so many words, and they have a bit for each node
pub record AreRows (size width : ℕ) (words : List ℕ) : Type 0 where
  pub wide : size ≤ width * 64
  pub all : length words ≡ size * width

-- the set of these bits
abbrev pub set_of : ℕ → List ℕ → List Bool
set_of size words = map (λ node. has_bit (slice_index words (node / 64)) (node % 64)) (range_with_len 0 size)

-- so many words are joined with as many others, bit by bit, and the rest are as they were
pub record JoinsWords (old new others : List ℕ) (into from count : ℕ) : Type 0 where
  pub size : length new ≡ length old
  pub joined : (k : ℕ) → k < count
      → slice_index new (into + k) ≡ bit_or (slice_index old (into + k)) (slice_index others (from + k))
  pub before : (p : ℕ) → p < into → slice_index new p ≡ slice_index old p
  pub behind : (p : ℕ) → into + count ≤ p → slice_index new p ≡ slice_index old p

-- the least bit from a place on
pub record IsNextBit (word start bit : ℕ) : Type 0 where
  pub inside : bit < 64
  pub from_start : start ≤ bit
  pub is_set : bit_at word bit ≡ 1
  pub least : (other : ℕ) → start ≤ other → other < bit → bit_at word other ≡ 0

-- the least node from a start on that the table joins a node to
pub record IsNextJoined (s : Grid) (from start to : ℕ) : Type 0 where
  pub joined : Joins s from to
  pub from_start : start ≤ to
  pub least : (other : ℕ) → start ≤ other → Joins s from other → to ≤ other
