-- A question between two paths is that of a list in which they stand.
use Rattle.std.proofs.Common.{◌≡◌, ℕ, ◌<◌, ◌⊎◌, inl, inr, Bool, true, List, ◌&&◌, refl, sym, subst, ap, ◌∙◌, arith, get_or, length}
use Rattle.std.specs.Prelude.{Some, slice_get, All, ◌==◌}
use Rattle.std.proofs.lemmas.Bool.{false≢true, eqb-true, and_parts, or_cases}
use Rattle.std.proofs.lemmas.Option.{slice_get_within, get_or_from_slice_get, same_Some}
use Rattle.order_facts.specs.declared.steps.Node.{Node}
use Rattle.prog_check.specs.declared.path.Kind.{Kind}
use Rattle.prog_check.specs.declared.path.Kind.TheVariants.{Writes}
use Rattle.prog_check.specs.declared.path.Access.{Access}
use Rattle.prog_check.specs.declared.path.Path.{Path}
use Rattle.prog_paths.specs.StaticGraph.{QuestionNumbers, IsAccessOf, IsCovered}
use Rattle.prog_paths.specs.declared.accesses.places.Placed.{Placed}
use Rattle.prog_paths.specs.declared.accesses.questions.Question.{Question}
use Rattle.conflict_pairs.specs.declared.verdicts.Verdict.{Verdict}
use Rattle.conflict_pairs.specs.declared.verdicts.Verdict.TheVariants.{Apart, Covered, Exposed}
use Rattle.prog_paths.specs.Questions.{Asks, IsQuestion, ChangesSingleCells, two, between, asks, kinds_depend, both_write, is_in_order}
use Rattle.conflict_pairs.specs.Alike.{IsAsked}
use Rattle.conflict_pairs.specs.Verdicts.{IsCoveredBy, IsRightOf, IsRight, TellsExposed}
use Rattle.prog_paths.specs.Places.{IsAt}
use Rattle.prog_paths.proofs.Membership.{depends-Asks}

-- ---- what is asked

write-Asks : (a b : ℕ) (mine theirs : Kind) → both_write mine theirs ≡ true → Asks (between a b) mine theirs
write-Asks a b Writes Writes e = inr (inr (refl, refl, inl (omega arith)))
write-Asks a b _ _ e = absurd (false≢true e)

-- what one placed access asks of another is a question between their paths
pub asked_between : (a b : ℕ) (first second : Placed) → asks first second ≡ true → (first.access.table ≡ second.access.table) × Asks (between a b) first.access.kind second.access.kind
asked_between a b first second e =
    let parts = and_parts (first.access.table == second.access.table) _ e in
    (same_table parts.0, by (or_cases (kinds_depend first.access.kind second.access.kind) _ parts.1))
  where
    same_table : (first.access.table == second.access.table) ≡ true → first.access.table ≡ second.access.table
    same_table t = eqb-true first.access.table second.access.table t

    by : (kinds_depend first.access.kind second.access.kind ≡ true) ⊎ ((both_write first.access.kind second.access.kind && is_in_order first second) ≡ true) → Asks (between a b) first.access.kind second.access.kind
    by (inl d) = depends-Asks (between a b) first.access.kind second.access.kind d
    by (inr w) = write-Asks a b first.access.kind second.access.kind (and_parts (both_write first.access.kind second.access.kind) _ w).0

-- the path of a placed access, read from the list
path_is : (paths : List Path) (p : Placed) (d : Path) → (at : IsAt paths p) → get_or paths p.node d ≡ at.0
path_is paths p d at = get_or_from_slice_get paths p.node at.0 d at.1

node_within : (paths : List Path) (p : Placed) → IsAt paths p → p.node < length paths
node_within paths p at = slice_get_within paths p.node at.0 at.1

pub single_of : (paths : List Path) (p : Placed) (path : Path) → All ChangesSingleCells paths → IsAt paths p → path ≡ get_or paths p.node path → ChangesSingleCells path
single_of paths p path h at is = subst ChangesSingleCells (sym is) (h p.node path (node_within paths p at))

-- ---- the same path in another list

access_moved : (xs ys : List Path) (i k : ℕ) (path : Path) → slice_get xs i ≡ Some path → slice_get ys k ≡ Some path → (n : ℕ) (access : Access) → IsAccessOf xs i n access → IsAccessOf ys k n access
access_moved xs ys i k path here there n access h = (path, there, subst (λ (p : Path). slice_get p.accesses n ≡ Some access) (sym (same_Some path h.0 (sym here ∙ h.1))) h.2)

cover_moved : (xs ys : List Path) (i j k l : ℕ) (x y : Path) → slice_get xs i ≡ Some x → slice_get xs j ≡ Some y → slice_get ys k ≡ Some x → slice_get ys l ≡ Some y → (mine theirs : Access) → IsCovered xs i j mine theirs → IsCovered ys k l mine theirs
cover_moved xs ys i j k l x y at_i at_j at_k at_l mine theirs h = record {
  first = h.first;
  second = h.second;
  of_first = h.of_first;
  of_second = h.of_second;
  at_first = access_moved xs ys i k x at_i at_k h.first h.of_first h.at_first;
  at_second = access_moved xs ys j l y at_j at_l h.second h.of_second h.at_second;
  first_covers = h.first_covers;
  second_covers = h.second_covers;
  same = h.same;
}

-- ---- the verdict

module _ (paths : List Path) (x y : Path) (i a j b : ℕ) (at_x : slice_get paths i ≡ Some x) (at_y : slice_get paths j ≡ Some y) where
  abbrev here : QuestionNumbers
  here = record { x = i; a = a; y = j; b = b }

  cover_there : (mine theirs : Access) → IsCovered (two x y) 0 1 mine theirs → IsCovered paths i j mine theirs
  cover_there = cover_moved (two x y) paths 0 1 i j x y refl refl at_x at_y

  cover_back : (mine theirs : Access) → IsCovered paths i j mine theirs → IsCovered (two x y) 0 1 mine theirs
  cover_back = cover_moved paths (two x y) i j 0 1 x y at_x at_y refl refl

  covered_there : (mine theirs : Access) (m t : ℕ) (chains : List (List Node)) → IsCoveredBy (two x y) (between a b) mine theirs m t chains → IsCoveredBy paths here mine theirs m t chains
  unfolding cover_moved cover_there cover_back
  covered_there mine theirs m t chains h = record {
    asks = h.asks;
    can_meet = h.can_meet;
    least = record {
      cover = cover_there mine theirs h.least.cover;
      mine_is = h.least.mine_is;
      theirs_is = h.least.theirs_is;
      least = λ other. h.least.least (cover_back mine theirs other);
    };
    equal = h.equal;
    shortest = h.shortest;
  }

  right_there : (mine theirs : Access) (v : Verdict) → IsRightOf (two x y) (between a b) mine theirs v → IsRightOf paths here mine theirs v
  right_there mine theirs (Apart chain) h = h
  right_there mine theirs (Covered m t chains) h = covered_there mine theirs m t chains h
  right_there mine theirs (Exposed sample) h = record { meets = h.meets; nearest = h.nearest; uncovered = λ asks c. h.uncovered asks (cover_back mine theirs c) }

  pub IsRight-there : (v : Verdict) → IsRight (two x y) (between a b) v → IsRight paths here v
  IsRight-there v h mine theirs asked =
      right_there mine theirs v (h mine theirs (record { at_mine = access_moved paths (two x y) i 0 x at_x refl a mine asked.at_mine; at_theirs = access_moved paths (two x y) j 1 y at_y refl b theirs asked.at_theirs; table = asked.table }))

  pub TellsExposed-there : (told : Bool) → TellsExposed (two x y) (between a b) told → TellsExposed paths here told
  TellsExposed-there told h mine theirs asked =
      let own = h mine theirs (record { at_mine = access_moved paths (two x y) i 0 x at_x refl a mine asked.at_mine; at_theirs = access_moved paths (two x y) j 1 y at_y refl b theirs asked.at_theirs; table = asked.table }) in (
        λ t. let e = own.0 t in (e.0, λ asks c. e.1 asks (cover_back mine theirs c)),
        λ e. own.1 (e.0, λ asks c. e.1 asks (cover_there mine theirs c)),
      )

pub TellsExposed-placed : (paths : List Path) (first second : Placed) (x y : Path) → IsAt paths first → IsAt paths second → x ≡ get_or paths first.node x → y ≡ get_or paths second.node y → (told : Bool) → TellsExposed (two x y) (between first.number second.number) told → TellsExposed paths (record { x = first.node; a = first.number; y = second.node; b = second.number }) told
TellsExposed-placed paths first second x y at_first at_second is_x is_y told h =
    TellsExposed-there paths x y first.node first.number second.node second.number
    (at_first.1 ∙ ap Some (sym (is_x ∙ path_is paths first x at_first)))
    (at_second.1 ∙ ap Some (sym (is_y ∙ path_is paths second y at_second))) told h

pub IsRight-placed : (paths : List Path) (first second : Placed) (x y : Path) → IsAt paths first → IsAt paths second → x ≡ get_or paths first.node x → y ≡ get_or paths second.node y → (v : Verdict) → IsRight (two x y) (between first.number second.number) v → IsRight paths (record { x = first.node; a = first.number; y = second.node; b = second.number }) v
IsRight-placed paths first second x y at_first at_second is_x is_y v h =
    IsRight-there paths x y first.node first.number second.node second.number
    (at_first.1 ∙ ap Some (sym (is_x ∙ path_is paths first x at_first)))
    (at_second.1 ∙ ap Some (sym (is_y ∙ path_is paths second y at_second))) v h
