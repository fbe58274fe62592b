-- What is counted of the entries of a certificate: how many of their questions never meet, and in how many covers each
-- access is one of the two.
use Rattle.std.specs.Prelude.{ℕ, ◌≡◌, ◌+◌, ◌<◌, ◌≤◌, ◌==◌, ◌&&◌, ◌||◌, Bool, true, false, cond, List, Vec, Option, Some}
use Rattle.std.specs.Prelude.{count_by, sum_by, option_and_then, option_map, slice_get, is_some, unwrap_or, IfSome}
use Rattle.std.specs.Option.{option_map_or}
use Rattle.std.specs.declared.alloc.Global.{Global}
use Rattle.prog_check.specs.declared.path.Access.{Access}
use Rattle.prog_check.specs.declared.path.Path.{Path}
use Rattle.prog_paths.specs.StaticGraph.{Precedes}
use Rattle.robust_cert.specs.declared.certificate.EntryQuestion.{EntryQuestion}
use Rattle.robust_cert.specs.declared.entries.Reason.{Reason}
use Rattle.robust_cert.specs.declared.entries.Reason.TheVariants.{Apart, Cover}
use Rattle.robust_cert.specs.Sharing.{Entry}
use Rattle.analysis_words.specs.Nodes.{access_at}
use Rattle.analysis_words.specs.declared.entry_counts.Covering.{Covering}
use Rattle.analysis_words.specs.declared.entry_counts.EntryCounts.{EntryCounts}

-- ---- entries

abbrev pub is_apart : Reason → Bool
is_apart (Apart chain) = true
is_apart (Cover mine theirs chains) = false

-- of how many questions the two accesses never meet
abbrev pub apart_count : List Entry → ℕ
apart_count entries = count_by (λ e. is_apart e.reason) entries

-- whether an access of a node is one of the two that cover a question, by the reason that is given for it
abbrev pub is_in_cover : (node access : ℕ) → EntryQuestion → Reason → Bool
is_in_cover node access q (Apart chain) = false
is_in_cover node access q (Cover mine theirs chains) =
    ((q.x == node) && (mine == access)) || ((q.y == node) && (theirs == access))

-- in how many covers it is one of the two
abbrev pub cover_count : List Entry → (node access : ℕ) → ℕ
cover_count entries node access = count_by (λ e. is_in_cover node access e.question e.reason) entries

-- ---- counts

-- the count of an access of a node
abbrev pub count_at : List (Vec ℕ Global) → (node access : ℕ) → Option ℕ
count_at counts node access =
    option_and_then (λ (of_node : Vec ℕ Global). slice_get of_node.items access) (slice_get counts node)

-- 1 where it holds
abbrev pub one_if : Bool → ℕ
one_if holds = cond holds 1 0

-- the count of an access, or 0
abbrev pub count_or_zero : List ℕ → (access : ℕ) → ℕ
count_or_zero counts access = unwrap_or (slice_get counts access) 0

-- the count of an access of a node, or 0
abbrev pub number_in : List (Vec ℕ Global) → (node access : ℕ) → ℕ
number_in counts node access = unwrap_or (count_at counts node access) 0

-- so much more is counted of each access that has a count
abbrev pub AddsCounts : (more : (node access : ℕ) → ℕ) → (old new : List (Vec ℕ Global)) → Type 0
AddsCounts more old new = (node access : ℕ) →
    count_at new node access ≡ option_map (λ (n : ℕ). n + more node access) (count_at old node access)

-- ---- the greatest count

abbrev pub most_count : Option Covering → ℕ
most_count most = option_map_or (λ (c : Covering). c.count) most 0

-- of the counts at some places none is above this one, which is the first of its size; none where all are 0
pub record IsMostAmong
    (count : (node access : ℕ) → Option ℕ) (among : (node access : ℕ) → Type 0) (most : Option Covering) : Type 0 where
  pub none_above : (x a n : ℕ) → among x a → count x a ≡ Some n → n ≤ most_count most
  pub found : IfSome most (λ m. (count m.node m.access ≡ Some m.count) × (0 < m.count))
  pub first : IfSome most (λ m. (x a n : ℕ) → count x a ≡ Some n → Precedes x a m.node m.access → n < m.count)

-- the same of all counts
abbrev pub IsMost : (count : (node access : ℕ) → Option ℕ) → Option Covering → Type 0
IsMost count = IsMostAmong count (λ node access. Unit {0})

-- how many covers each access of the paths is in
abbrev pub covers_in : List Path → List Entry → (node access : ℕ) → Option ℕ
covers_in paths entries node access =
    option_map (λ (_ : Access). cover_count entries node access) (access_at paths node access)

-- these counts say so
abbrev pub CountsCovers : List Path → List Entry → (counts : List (Vec ℕ Global)) → Type 0
CountsCovers paths entries counts = (node access : ℕ) → count_at counts node access ≡ covers_in paths entries node access

-- of so many entries the two accesses never meet, and in so many is each access one of the two of a cover
pub record AreCountsOf (paths : List Path) (entries : List Entry) (counts : EntryCounts) : Type 0 where
  pub apart : counts.apart ≡ apart_count entries
  pub covers : CountsCovers paths entries counts.covers.items

-- the sums of the counts of parts are these
pub record IsSumOf (paths : List Path) (parts : List EntryCounts) (counts : EntryCounts) : Type 0 where
  pub apart : counts.apart ≡ sum_by (λ p. p.apart) parts
  pub covers : (node access : ℕ) → count_at counts.covers.items node access
      ≡ option_map (λ (_ : Access). sum_by (λ p. number_in p.covers.items node access) parts)
      (access_at paths node access)

-- the sums of the counts of parts are those of all entries
pub record AreCountsInParts (paths : List Path) (entries : List Entry) (parts : Vec EntryCounts Global) : Type 0 where
  pub apart : sum_by (λ p. p.apart) parts.items ≡ apart_count entries
  pub covers : (node access : ℕ) → is_some (access_at paths node access) ≡ true
      → sum_by (λ p. number_in p.covers.items node access) parts.items ≡ cover_count entries node access
