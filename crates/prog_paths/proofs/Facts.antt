-- Assignments meet the facts of a question just where they make its accesses meet.
use Rattle.std.specs.Prelude.{◌≡◌, ℤ, List, [], ◌∷◌, ◌++◌, ◌≤ℤ◌, pos, Option, Some, None}
use Rattle.std.proofs.Common.{refl, sym, subst, arith}
use Rattle.std.proofs.lemmas.List.Elements.{All-nil, All-cons, All-head, All-tail}
use Rattle.std.proofs.lemmas.Int.{ints}
use lib.Signed.{≤ℤ_refl}
use Rattle.prog_tree.specs.declared.cell.Cell.{Cell}
use Rattle.order_facts.specs.declared.steps.Fact.{Fact}
use Rattle.order_facts.specs.Chain as facts
use Rattle.prog_check.specs.declared.path.Term.{Term}
use Rattle.prog_check.specs.declared.path.Term.TheVariants.{Param, Literal, Unknown}
use Rattle.prog_check.specs.declared.path.Column.{Column}
use Rattle.prog_check.specs.declared.path.Access.{Access}
use Rattle.prog_paths.specs.Meeting.{Assignment, MeetsUnder, CanMeet, Meet, number_under, second_under, IsSingle, IsSingleSecond, IsWithin, IsWithinSecond}
use Rattle.prog_paths.specs.Facts.{mine_node, their_node, column_facts, column_or_zero, second_facts, question_facts, both, LawOfMeeting, LawOfConsistency, EntailsEqual, LawOfEqualTerms}

-- ---- terms

value-mine : (v w : Assignment) (t : Term) → facts.value_under (both v w) (mine_node t) ≡ number_under v t
value-mine v w (Param i) = refl
value-mine v w (Literal k) = refl
value-mine v w (Unknown i) = refl

value-theirs : (v w : Assignment) (t : Term) → facts.value_under (both v w) (their_node t) ≡ number_under w t
value-theirs v w (Param i) = refl
value-theirs v w (Literal k) = refl
value-theirs v w (Unknown i) = refl

-- ---- one column

Holds : Assignment → Assignment → Fact → Type 0
Holds v w f = facts.value_under (both v w) f.lo ≤ℤ facts.value_under (both v w) f.hi

abbrev low_fact : Column → Column → Fact
low_fact mine theirs = record { lo = mine_node mine.low; hi = their_node theirs.low }

abbrev high_fact : Column → Column → Fact
high_fact mine theirs = record { lo = their_node theirs.low; hi = mine_node mine.high }

-- the single value of the second column lies between the ends of the first
abbrev IsBetween : Assignment → Column → Assignment → Column → Type 0
IsBetween v mine w theirs = (number_under v mine.low ≤ℤ number_under w theirs.low) × (number_under w theirs.low ≤ℤ number_under v mine.high)

-- the facts of one column before others, and what is between
meets-column : (v w : Assignment) (mine theirs : Column) (rest : List Fact) → IsBetween v mine w theirs → facts.Meets (both v w) rest → facts.Meets (both v w) (column_facts mine theirs ++ rest)
unfolding Holds
meets-column v w mine theirs rest b h =
    let low : Holds v w (low_fact mine theirs) = rw (value-mine v w mine.low, value-theirs v w theirs.low) b.0 in
    let high : Holds v w (high_fact mine theirs) = rw (value-mine v w mine.high, value-theirs v w theirs.low) b.1 in
    All-cons (Holds v w) (low_fact mine theirs) (high_fact mine theirs ∷ rest) low (All-cons (Holds v w) (high_fact mine theirs) rest high h)

between-column : (v w : Assignment) (mine theirs : Column) (rest : List Fact) → facts.Meets (both v w) (column_facts mine theirs ++ rest) → IsBetween v mine w theirs × facts.Meets (both v w) rest
unfolding Holds
between-column v w mine theirs rest h =
    let later = All-tail (Holds v w) (low_fact mine theirs) (high_fact mine theirs ∷ rest) h in
    let low : Holds v w (low_fact mine theirs) = All-head (Holds v w) (low_fact mine theirs) (high_fact mine theirs ∷ rest) h in
    let high : Holds v w (high_fact mine theirs) = All-head (Holds v w) (high_fact mine theirs) rest later in (
      (rw (value-mine v w mine.low, value-theirs v w theirs.low) at low, rw (value-mine v w mine.high, value-theirs v w theirs.low) at high),
      All-tail (Holds v w) (high_fact mine theirs) rest later,
    )

-- a value within both columns, of which the second is single, is that one
between-within : (v w : Assignment) (mine theirs : Column) (z : ℤ) → theirs.low ≡ theirs.high → IsWithin v mine z → IsWithin w theirs z → IsBetween v mine w theirs
between-within v w mine theirs z e a b =
    let l = a.0 in
    let h = a.1 in
    let k = b.0 in
    let g = subst (λ (t : Term). z ≤ℤ number_under w t) (sym e) b.1 in
    (omega (arith, ints), omega (arith, ints))

within-single : (w : Assignment) (theirs : Column) → theirs.low ≡ theirs.high → IsWithin w theirs (number_under w theirs.low)
within-single w theirs e = (≤ℤ_refl _, subst (λ (t : Term). number_under w theirs.low ≤ℤ number_under w t) e (≤ℤ_refl _))

-- ---- the second column

-- the second columns have a number in common, which is the low end of theirs
abbrev SharesSecond : Assignment → Option Column → Assignment → Option Column → Type 0
SharesSecond v mine w theirs = (z : ℤ) × IsWithinSecond v mine z × IsWithinSecond w theirs z

meets-second : (v w : Assignment) (mine theirs : Option Column) → IsSingleSecond theirs → SharesSecond v mine w theirs → facts.Meets (both v w) (second_facts mine theirs)
meets-second v w None None single s = All-nil _
meets-second v w None (Some d) single s = meets-column v w (column_or_zero None) d [] (between-within v w (column_or_zero None) d s.0 single (at-zero s.0 s.1) s.2) (All-nil _)
  where
    at-zero : (z : ℤ) → z ≡ pos 0 → IsWithin v (column_or_zero None) z
    at-zero z e = (omega (arith, ints), omega (arith, ints))
meets-second v w (Some c) None single s = meets-column v w c (column_or_zero None) [] (between-within v w c (column_or_zero None) s.0 refl s.1 (at-zero s.0 s.2)) (All-nil _)
  where
    at-zero : (z : ℤ) → z ≡ pos 0 → IsWithin w (column_or_zero None) z
    at-zero z e = (omega (arith, ints), omega (arith, ints))
meets-second v w (Some c) (Some d) single s = meets-column v w c d [] (between-within v w c d s.0 single s.1 s.2) (All-nil _)

second-within : (v w : Assignment) (mine theirs : Option Column) → IsSingleSecond theirs → facts.Meets (both v w) (second_facts mine theirs) → IsWithinSecond v mine (second_under w theirs) × IsWithinSecond w theirs (second_under w theirs)
second-within v w None None single h = (refl, refl)
second-within v w None (Some d) single h =
    let b = (between-column v w (column_or_zero None) d [] h).0 in
    (omega (arith, ints), within-single w d single)
second-within v w (Some c) None single h = ((between-column v w c (column_or_zero None) [] h).0, refl)
second-within v w (Some c) (Some d) single h = ((between-column v w c d [] h).0, within-single w d single)

-- ---- the laws

Meets-from_meet : (v w : Assignment) (mine theirs : Access) → IsSingle theirs → Meet v mine w theirs → facts.Meets (both v w) (question_facts mine theirs)
Meets-from_meet v w mine theirs single m =
    meets-column v w mine.first theirs.first (second_facts mine.second theirs.second)
    (between-within v w mine.first theirs.first m.0.first single.0 m.1.first m.2.first)
    (meets-second v w mine.second theirs.second single.1 (m.0.second, m.1.second, m.2.second))

meet-from_Meets : (v w : Assignment) (mine theirs : Access) → mine.table ≡ theirs.table → IsSingle theirs → facts.Meets (both v w) (question_facts mine theirs) → Meet v mine w theirs
meet-from_Meets v w mine theirs table single h =
    let parts = between-column v w mine.first theirs.first (second_facts mine.second theirs.second) h in
    let second = second-within v w mine.second theirs.second single.1 parts.1 in
    let cell : Cell = record { table = theirs.table; first = number_under w theirs.first.low; second = second_under w theirs.second } in (
      cell,
      record { table = sym table; first = parts.0; second = second.0 },
      record { table = refl; first = within-single w theirs.first single.0; second = second.1 },
    )

pub law_of_meeting : LawOfMeeting
law_of_meeting mine theirs table single v w = (meet-from_Meets v w mine theirs table single, Meets-from_meet v w mine theirs single)

-- an assignment of both sides, taken apart
abbrev of_mine : facts.Valuation → Assignment
of_mine u = record { parameter = u.mine; unknown = u.mine_unknown }

abbrev of_theirs : facts.Valuation → Assignment
of_theirs u = record { parameter = u.theirs; unknown = u.theirs_unknown }

pub law_of_consistency : LawOfConsistency
law_of_consistency mine theirs table single = (can-meet, consistent)
  where
    can-meet : facts.IsConsistent (question_facts mine theirs) → CanMeet mine theirs
    can-meet c = (
      of_mine c.0,
      of_theirs c.0,
      record {
        mine_of_i64 = record { parameter = c.1.mine; unknown = c.1.mine_unknown };
        theirs_of_i64 = record { parameter = c.1.theirs; unknown = c.1.theirs_unknown };
        meet = meet-from_Meets (of_mine c.0) (of_theirs c.0) mine theirs table single c.2;
      },
    )

    consistent : CanMeet mine theirs → facts.IsConsistent (question_facts mine theirs)
    consistent m = (
      both m.0 m.1,
      record {
        mine = m.2.mine_of_i64.parameter;
        mine_unknown = m.2.mine_of_i64.unknown;
        theirs = m.2.theirs_of_i64.parameter;
        theirs_unknown = m.2.theirs_of_i64.unknown;
      },
      Meets-from_meet m.0 m.1 mine theirs single m.2.meet,
    )

pub law_of_equal_terms : LawOfEqualTerms
law_of_equal_terms mine theirs table single s t = (equal, entailed)
  where
    equal : EntailsEqual mine theirs s t → (v w : Assignment) → MeetsUnder v w mine theirs → number_under v s ≡ number_under w t
    equal e v w m =
        let of_i64 : facts.IsValuationOfI64 (both v w) = record {
          mine = m.mine_of_i64.parameter;
          mine_unknown = m.mine_of_i64.unknown;
          theirs = m.theirs_of_i64.parameter;
          theirs_unknown = m.theirs_of_i64.unknown;
        } in
        let meets = Meets-from_meet v w mine theirs single m.meet in
        let up = rw (value-mine v w s, value-theirs v w t) at (e.0 (both v w) of_i64 meets) in
        let down = rw (value-mine v w s, value-theirs v w t) at (e.1 (both v w) of_i64 meets) in
        omega (arith, ints)

    same : ((v w : Assignment) → MeetsUnder v w mine theirs → number_under v s ≡ number_under w t)
        → (u : facts.Valuation) → facts.IsValuationOfI64 u → facts.Meets u (question_facts mine theirs) → number_under (of_mine u) s ≡ number_under (of_theirs u) t
    same h u o m = h (of_mine u) (of_theirs u) (record {
      mine_of_i64 = record { parameter = o.mine; unknown = o.mine_unknown };
      theirs_of_i64 = record { parameter = o.theirs; unknown = o.theirs_unknown };
      meet = meet-from_Meets (of_mine u) (of_theirs u) mine theirs table single m;
    })

    entailed : ((v w : Assignment) → MeetsUnder v w mine theirs → number_under v s ≡ number_under w t) → EntailsEqual mine theirs s t
    entailed h = (
      λ u o m. rw (value-mine (of_mine u) (of_theirs u) s, value-theirs (of_mine u) (of_theirs u) t, same h u o m) (≤ℤ_refl _),
      λ u o m. rw (value-mine (of_mine u) (of_theirs u) s, value-theirs (of_mine u) (of_theirs u) t, same h u o m) (≤ℤ_refl _),
    )
