-- Fewer pairs of commits, through which the others follow.
use Rattle.std.specs.Prelude.{◌≡◌, ℕ, ◌+◌, nat_le, nat_lt, ◌==◌, Bool, ◌&&◌, ◌||◌, All, List, [], ◌∷◌, ◌++◌, length, Option, Some, None, if◌then◌else◌, find, unwrap_or}
use Rattle.std.specs.List.{flat_map, list_any}
use Rattle.std.specs.Option.{option_or}
use Rattle.prog_tree.specs.declared.cell.Cell.{Cell}
use Rattle.prog_tree.specs.declared.cell.Region.{Region}
use Rattle.prog_tree.specs.Table.{Cells, at_cell}
use Rattle.version_store.specs.Reading.{RisesBy, IsNumberCut}
use Rattle.serial_orders.specs.Orders.{IsUpTo}
use Rattle.serial_orders.specs.Precedence.{precedes}
use Rattle.serial_orders.specs.TraceView.{TraceView}
use Rattle.serial_orders.specs.Traces.{changed_at, takes_in}
use Rattle.serial_orders.specs.declared.trace.Sight.{Sight}
use Rattle.serial_orders.specs.declared.trace.Sight.TheVariants as sight

-- ---- the writers of a cell

-- the numbers of the commits that changed a cell, where the first trace has the number n
abbrev pub writers_from : ℕ → List TraceView → Cell → List ℕ
writers_from n [] c = []
writers_from n (t ∷ ts) c = if changed_at t c then n ∷ writers_from (n + 1) ts c else writers_from (n + 1) ts c

-- the numbers of the commits that changed a cell
abbrev pub writers_of : List TraceView → Cell → List ℕ
writers_of traces c = writers_from 1 traces c

-- the numbers that a map has for a cell, or none
abbrev pub numbers_at : Cells (List ℕ) → Cell → List ℕ
numbers_at m c = unwrap_or (at_cell m c) []

-- a map has the writers of each cell
abbrev pub HasWriters : List TraceView → Cells (List ℕ) → Type 0
HasWriters traces m = (c : Cell) → numbers_at m c ≡ writers_of traces c

-- a map has a number more at a cell
abbrev pub IsAddedAt : (Cell → Bool) → ℕ → (old new : Cells (List ℕ)) → Type 0
IsAddedAt here number old new =
    (c : Cell) → numbers_at new c ≡ if here c then numbers_at old c ++ number ∷ [] else numbers_at old c

-- each number is above the one before it, and the first is at least n
abbrev pub RiseFrom : ℕ → List ℕ → Type 0
RiseFrom n numbers = RisesBy (λ (k : ℕ). k) n numbers

-- all are numbers of so many commits
abbrev pub AreWithin : ℕ → List ℕ → Type 0
AreWithin n numbers = All (IsUpTo n) numbers

-- the numbers of each cell rise, and all are of so many commits
abbrev pub AllRiseWithin : ℕ → Cells (List ℕ) → Type 0
AllRiseWithin n m = All (λ e. RiseFrom 0 e.1 × AreWithin n e.1) m

-- the first `count` numbers are at most n, and the others above
abbrev pub IsCutBy : (n : ℕ) → List ℕ → (count : ℕ) → Type 0
IsCutBy n numbers count = IsNumberCut (λ (k : ℕ). k) n numbers count

-- ---- pairs of commits, of which the first has to stand before the second

-- pairs of numbers of commits
abbrev pub Pairs : Type 0
Pairs = List (ℕ × ℕ)

-- the two numbers are one of the pairs
abbrev pub is_pair_among : Pairs → ℕ → ℕ → Bool
is_pair_among pairs i j = list_any (λ p. (i == p.0) && (j == p.1)) pairs

-- the new lists have what the old ones had, and the pairs
abbrev pub HasPairs : Pairs → (old new : List (List ℕ)) → Type 0
HasPairs pairs old new = (i j : ℕ) → precedes new i j ≡ (precedes old i j || is_pair_among pairs i j)

-- as many commits as before, with the pairs
pub record AddsPairs (ps : Pairs) (old new : List (List ℕ)) : Type 0 where
  pub commits : length new ≡ length old
  pub pairs : HasPairs ps old new

-- a number stands before the first of others, and each of these before the next
abbrev pub successive_from : ℕ → List ℕ → Pairs
successive_from n [] = []
successive_from n (m ∷ ms) = (n, m) ∷ successive_from m ms

-- each number stands before the next
abbrev pub successive_pairs : List ℕ → Pairs
successive_pairs [] = []
successive_pairs (n ∷ ns) = successive_from n ns

-- each writer of a cell stands before the next writer of it
abbrev pub writers_pairs : Cells (List ℕ) → Pairs
writers_pairs = flat_map (λ (e : Cell × List ℕ). successive_pairs e.1)

-- the last of the numbers that are at most `start`
abbrev pub last_seen : (start : ℕ) → List ℕ → Option ℕ
last_seen start [] = None
last_seen start (n ∷ ns) = option_or (last_seen start ns) (if nat_le n start then Some n else None)

-- the first of the numbers that are above `start`
abbrev pub first_missed : (start : ℕ) → List ℕ → Option ℕ
first_missed start = find (nat_lt start)

-- the last writer that the reader saw stands before it
abbrev pub seen_pairs : (reader : ℕ) → Option ℕ → Pairs
seen_pairs reader None = []
seen_pairs reader (Some writer) = (writer, reader) ∷ []

-- the reader stands before the first writer that it missed; of its own change nothing is said
abbrev pub missed_pairs : (reader : ℕ) → Option ℕ → Pairs
missed_pairs reader None = []
missed_pairs reader (Some writer) = if writer == reader then [] else (reader, writer) ∷ []

-- what a look at a cell with these writers says of the reader
abbrev pub reader_pairs : (reader start : ℕ) → List ℕ → Pairs
reader_pairs reader start writers =
    seen_pairs reader (last_seen start writers) ++ missed_pairs reader (first_missed start writers)

-- the same of each cell of a region that the reader had not changed
abbrev pub region_pairs : (reader start : ℕ) → Region → (own : List Cell) → Cells (List ℕ) → Pairs
region_pairs reader start region own =
    flat_map (λ (e : Cell × List ℕ). if takes_in (sight.Range region own) e.0 then reader_pairs reader start e.1 else [])

-- the same of each cell that a sight takes in
abbrev pub sight_pairs : (reader start : ℕ) → Cells (List ℕ) → Sight → Pairs
sight_pairs reader start writers (sight.One cell) = reader_pairs reader start (numbers_at writers cell)
sight_pairs reader start writers (sight.Range region own) = region_pairs reader start region own writers

-- the same of each sight
abbrev pub sights_pairs : (reader start : ℕ) → Cells (List ℕ) → List Sight → Pairs
sights_pairs reader start writers = flat_map (sight_pairs reader start writers)

-- what the looks of commits say, the first of which has the number n
abbrev pub readers_pairs : Cells (List ℕ) → ℕ → List TraceView → Pairs
readers_pairs writers n [] = []
readers_pairs writers n (t ∷ ts) = sights_pairs n t.start writers t.looked ++ readers_pairs writers (n + 1) ts
