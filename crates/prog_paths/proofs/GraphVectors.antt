-- Worked examples of meeting, of edges and of dangerous structures, told by hand.
use Rattle.std.specs.Prelude.{◌≡◌, ℕ, pos, true, false, List, [], ◌∷◌, Some, slice_get}
use Rattle.std.specs.List.{AllByRecursion}
use Rattle.std.proofs.Common.{refl, sym, subst, arith, inl, inr, suc, zero}
use Rattle.std.proofs.lemmas.Int.{ints}
use lib.Signed.{≤ℤ_refl}
use Rattle.prog_tree.specs.declared.cell.Cell.{Cell}
use Rattle.prog_check.specs.declared.path.Kind.{Kind}
use Rattle.prog_check.specs.declared.path.Kind.TheVariants.{Reads, Writes}
use Rattle.prog_check.specs.declared.path.Term.TheVariants.{Param, Unknown}
use Rattle.prog_check.specs.declared.path.Access.{Access}
use Rattle.prog_check.specs.declared.path.Path.{Path}
use Rattle.prog_check.proofs.PathVectors.{at_one, path}
use Rattle.prog_paths.specs.Meeting.{Assignment, IsOfI64, MeetsUnder, MayTouch, MayCover, number_under}
use Rattle.prog_paths.specs.StaticGraph.{IsAccessOf, QuestionNumbers, HasQuestion, StaticEdge, IsCovered, IsVulnerable, here, onward, IsDangerous}

-- ---- in short

-- each parameter and each unknown is this number
abbrev pub all_of : ℕ → Assignment
all_of n = record { parameter = λ i. pos n; unknown = λ i. pos n }

pub zeros_of_i64 : IsOfI64 (all_of 0)
zeros_of_i64 = record { parameter = λ i. (omega (arith, ints), omega (arith, ints)); unknown = λ i. (omega (arith, ints), omega (arith, ints)) }

ones_of_i64 : IsOfI64 (all_of 1)
ones_of_i64 = record { parameter = λ i. (omega (arith, ints), omega (arith, ints)); unknown = λ i. (omega (arith, ints), omega (arith, ints)) }

-- what holds of each access of a path holds of any
each : (P : Access → Type 0) (accesses : List Access) → AllByRecursion P accesses → (k : ℕ) (a : Access) → slice_get accesses k ≡ Some a → P a
each P [] h k a e = absurd (cc)
each P (b ∷ later) h zero a e =
    let same : b ≡ a = cc in
    subst P same h.0
each P (b ∷ later) h (suc k) a e = each P later h.1 k a e

pub of_node : (P : Access → Type 0) (nodes : List Path) (x : ℕ) (p : Path) → slice_get nodes x ≡ Some p → AllByRecursion P p.accesses → (k : ℕ) (a : Access) → IsAccessOf nodes x k a → P a
of_node P nodes x p at h k a (q, is, got) =
    let same : q ≡ p = cc in
    each P p.accesses h k a (subst (λ (r : Path). slice_get r.accesses k ≡ Some a) same got)

-- a question between accesses of two nodes
pub has_question :
    {asks : QuestionNumbers → Kind → Kind → Type 0} {P : QuestionNumbers → Access → Access → Type 0} {nodes : List Path} →
    (q : QuestionNumbers) (from to : Path) (mine theirs : Access) → slice_get nodes q.x ≡ Some from → slice_get from.accesses q.a ≡ Some mine → slice_get nodes q.y ≡ Some to → slice_get to.accesses q.b ≡ Some theirs →
    mine.table ≡ theirs.table → asks q mine.kind theirs.kind → P q mine theirs → HasQuestion asks P nodes q.x q.y
has_question q from to mine theirs from_is mine_is to_is theirs_is table kinds holds = record {
  question = q;
  from = refl;
  to = refl;
  mine = mine;
  theirs = theirs;
  asked = record { at_mine = (from, from_is, mine_is); at_theirs = (to, to_is, theirs_is); table = table };
  kinds = kinds;
  holds = holds;
}

-- ---- SmallBank

abbrev balance : Path
balance = path 0 [] (at_one Reads 0 (Param 0) 0 ∷ at_one Reads 1 (Param 0) 1 ∷ [])

abbrev deposit_checking : Path
deposit_checking = path 1 (false ∷ []) (at_one Reads 1 (Param 0) 2 ∷ at_one Writes 1 (Param 0) 3 ∷ [])

abbrev transact_saving : Path
transact_saving = path 2 (false ∷ []) (at_one Reads 0 (Param 0) 0 ∷ at_one Writes 0 (Param 0) 3 ∷ [])

abbrev amalgamate : Path
amalgamate =
    path 3 [] (at_one Reads 0 (Param 0) 0 ∷ at_one Reads 1 (Param 0) 1 ∷ at_one Writes 0 (Param 0) 2 ∷ at_one Writes 1 (Param 0) 3 ∷ at_one Reads 1 (Param 1) 4 ∷ at_one Writes 1 (Param 1) 5 ∷ [])

-- the two paths of WriteCheck, the first with the penalty
abbrev overdrawing_check : Path
overdrawing_check = path 4 (true ∷ []) (at_one Reads 0 (Param 0) 0 ∷ at_one Reads 1 (Param 0) 1 ∷ at_one Writes 1 (Param 0) 3 ∷ [])

abbrev covered_check : Path
covered_check = path 4 (false ∷ []) (at_one Reads 0 (Param 0) 0 ∷ at_one Reads 1 (Param 0) 1 ∷ at_one Writes 1 (Param 0) 4 ∷ [])

abbrev small_bank : List Path
small_bank = balance ∷ deposit_checking ∷ transact_saving ∷ amalgamate ∷ overdrawing_check ∷ covered_check ∷ []

abbrev pub zero_cell : ℕ → Cell
zero_cell table = record { table = table; first = pos 0; second = pos 0 }

-- two parameters may both be 0
pub meet_at_zero : (a b : Kind) (table i j p q : ℕ) → MeetsUnder (all_of 0) (all_of 0) (at_one a table (Param i) p) (at_one b table (Param j) q)
meet_at_zero a b table i j p q = record {
  mine_of_i64 = zeros_of_i64;
  theirs_of_i64 = zeros_of_i64;
  meet = (zero_cell table, record { table = refl; first = (≤ℤ_refl _, ≤ℤ_refl _); second = refl }, record { table = refl; first = (≤ℤ_refl _, ≤ℤ_refl _); second = refl });
}

abbrev pub CoversNothing : Access → Type 0
CoversNothing a = MayCover a → ⊥

pub reads_cover_nothing : (a : Access) → a.kind ≡ Reads → CoversNothing a
reads_cover_nothing a e h = touches h.1
  where
    touches : MayTouch a → ⊥
    touches (inl k) = absurd (cc)
    touches (inr (inl k)) = absurd (cc)
    touches (inr (inr k)) = absurd (cc)

-- Balance changes nothing, so nothing covers its read of a checking account that WriteCheck changes
balance_before_check : IsVulnerable small_bank 0 4
balance_before_check =
    has_question (record { x = 0; a = 1; y = 4; b = 2 }) balance overdrawing_check (at_one Reads 1 (Param 0) 1) (at_one Writes 1 (Param 0) 3)
    refl refl refl refl refl (inl (refl, inl refl)) ((all_of 0, all_of 0, meet_at_zero Reads Writes 1 0 0 1 3), not_covered)
  where
    not_covered : IsCovered small_bank 0 4 (at_one Reads 1 (Param 0) 1) (at_one Writes 1 (Param 0) 3) → ⊥
    not_covered c =
        of_node CoversNothing small_bank 0 balance refl
        (reads_cover_nothing (at_one Reads 0 (Param 0) 0) refl, (reads_cover_nothing (at_one Reads 1 (Param 0) 1) refl, tt)) c.first c.of_first c.at_first c.first_covers

-- what covers is an access of this table
abbrev pub CoversIn : ℕ → Access → Type 0
CoversIn table a = MayCover a → a.table ≡ table

-- WriteCheck changes checking accounts alone and TransactSaving savings, so nothing covers the read of a savings account
check_before_transact : IsVulnerable small_bank 4 2
check_before_transact =
    has_question (record { x = 4; a = 0; y = 2; b = 1 }) overdrawing_check transact_saving (at_one Reads 0 (Param 0) 0) (at_one Writes 0 (Param 0) 3)
    refl refl refl refl refl (inl (refl, inl refl)) ((all_of 0, all_of 0, meet_at_zero Reads Writes 0 0 0 0 3), not_covered)
  where
    not_covered : IsCovered small_bank 4 2 (at_one Reads 0 (Param 0) 0) (at_one Writes 0 (Param 0) 3) → ⊥
    not_covered c =
        let mine : c.of_first.table ≡ 1 =
        of_node (CoversIn 1) small_bank 4 overdrawing_check refl
        (λ m. absurd (reads_cover_nothing (at_one Reads 0 (Param 0) 0) refl m), (λ m. refl, (λ m. refl, tt))) c.first c.of_first c.at_first c.first_covers in
        let theirs : c.of_second.table ≡ 0 =
        of_node (CoversIn 0) small_bank 2 transact_saving refl
        (λ m. absurd (reads_cover_nothing (at_one Reads 0 (Param 0) 0) refl m), (λ m. refl, tt)) c.second c.of_second c.at_second c.second_covers in
        let same : c.of_first.table ≡ c.of_second.table = (c.same (all_of 0) (all_of 0) (meet_at_zero Reads Writes 0 0 0 0 3)).table in
        absurd (omega arith)

-- Balance sees what TransactSaving puts
transact_before_balance : StaticEdge small_bank 2 0
transact_before_balance =
    inr (inl (has_question (record { x = 0; a = 0; y = 2; b = 1 }) balance transact_saving (at_one Reads 0 (Param 0) 0) (at_one Writes 0 (Param 0) 3)
    refl refl refl refl refl (inl (refl, inl refl)) (all_of 0, all_of 0, meet_at_zero Reads Writes 0 0 0 0 3)))

small_bank_is_dangerous : IsDangerous small_bank
small_bank_is_dangerous = (0, 4, 2, record { first = balance_before_check; second = check_before_transact; back = onward transact_before_balance here })

-- ---- the computed-key set

abbrev moved : Access
moved = at_one Writes 0 (Param 1) 1

-- let x = get t[a + 0] else 0; put t[b] = x;
abbrev move : Path
move = path 0 [] (at_one Reads 0 (Unknown 0) 0 ∷ moved ∷ [])

abbrev moves : List Path
moves = move ∷ []

-- the first instance reads what the second changes, whatever the first changes
meet_at_one : MeetsUnder (record { parameter = (all_of 0).parameter; unknown = (all_of 1).unknown }) (all_of 1) (at_one Reads 0 (Unknown 0) 0) moved
meet_at_one = record {
  mine_of_i64 = record { parameter = zeros_of_i64.parameter; unknown = ones_of_i64.unknown };
  theirs_of_i64 = ones_of_i64;
  meet = (record { table = 0; first = pos 1; second = pos 0 }, record { table = refl; first = (≤ℤ_refl _, ≤ℤ_refl _); second = refl }, record { table = refl; first = (≤ℤ_refl _, ≤ℤ_refl _); second = refl });
}

-- what covers is the one change
abbrev CoversAsMoved : Access → Type 0
CoversAsMoved a = MayCover a → a ≡ moved

-- a cell that is equal for some arguments alone covers nothing
move_before_move : IsVulnerable moves 0 0
move_before_move =
    has_question (record { x = 0; a = 0; y = 0; b = 1 }) move move (at_one Reads 0 (Unknown 0) 0) moved
    refl refl refl refl refl (inl (refl, inl refl)) ((_, _, meet_at_one), not_covered)
  where
    is_moved : (k : ℕ) (a : Access) → IsAccessOf moves 0 k a → MayCover a → a ≡ moved
    is_moved =
        of_node CoversAsMoved moves 0 move refl
        (λ m. absurd (reads_cover_nothing (at_one Reads 0 (Unknown 0) 0) refl m), (λ m. refl, tt))

    not_covered : IsCovered moves 0 0 (at_one Reads 0 (Unknown 0) 0) moved → ⊥
    not_covered c =
        let mine = is_moved c.first c.of_first c.at_first c.first_covers in
        let theirs = is_moved c.second c.of_second c.at_second c.second_covers in
        let v : Assignment = record { parameter = (all_of 0).parameter; unknown = (all_of 1).unknown } in
        let same = (c.same v (all_of 1) meet_at_one).first in
        let zero_is : number_under v c.of_first.first.low ≡ pos 0 = subst (λ (a : Access). number_under v a.first.low ≡ pos 0) (sym mine) refl in
        let one_is : number_under (all_of 1) c.of_second.first.low ≡ pos 1 = subst (λ (a : Access). number_under (all_of 1) a.first.low ≡ pos 1) (sym theirs) refl in
        absurd (omega (arith, ints))

moves_are_dangerous : IsDangerous moves
moves_are_dangerous = (0, 0, 0, record { first = move_before_move; second = move_before_move; back = here })

-- ---- the transfer set

-- let x = get t[a] else 0; put t[a] = x - v; let y = get t[b] else 0; put t[b] = y + v;
abbrev transfers : List Path
transfers =
    path 0 [] (at_one Reads 0 (Param 0) 0 ∷ at_one Writes 0 (Param 0) 1 ∷ at_one Reads 0 (Param 1) 2 ∷ at_one Writes 0 (Param 1) 3 ∷ []) ∷ []

-- where the second reads the cell that the first changes, it changes that cell too
read_is_covered : IsCovered transfers 0 0 (at_one Reads 0 (Param 0) 0) (at_one Writes 0 (Param 1) 3)
read_is_covered = record {
  first = 1;
  second = 3;
  of_first = at_one Writes 0 (Param 0) 1;
  of_second = at_one Writes 0 (Param 1) 3;
  at_first = (_, refl, refl);
  at_second = (_, refl, refl);
  first_covers = (refl, inl refl);
  second_covers = (refl, inl refl);
  same = λ v w m. record { table = refl; mine = (refl, tt); theirs = (refl, tt); first = equal v w m; second = refl };
}
  where
    equal : (v w : Assignment) → MeetsUnder v w (at_one Reads 0 (Param 0) 0) (at_one Writes 0 (Param 1) 3) → v.parameter 0 ≡ w.parameter 1
    equal v w m =
        let a = m.meet.1.first.0 in
        let b = m.meet.1.first.1 in
        let c = m.meet.2.first.0 in
        let d = m.meet.2.first.1 in
        omega (arith, ints)
