-- What the facts of a question say, in the words of meeting and of one cell.
use Rattle.std.proofs.Common.{◌≡◌, ℕ, ◌⊎◌, inl, inr, List, pos, refl, subst, arith}
use Rattle.std.specs.Prelude.{Option, Some, None, slice_get}
use Rattle.std.proofs.lemmas.Int.{ints}
use Rattle.std.proofs.lemmas.Option.{slice_get_within, get_or_from_slice_get}
use Rattle.order_facts.specs.declared.steps.Node.{Node}
use Rattle.order_facts.specs.declared.steps.Fact.{Fact}
use Rattle.order_facts.specs.Chain as facts
use Rattle.order_facts.proofs.Chains.{reaches-from_chain}
use Rattle.order_facts.proofs.Exact.{orderly_from_IsConsistent}
use Rattle.prog_check.specs.declared.path.Kind.TheVariants.{Writes, Adds}
use Rattle.prog_check.specs.declared.path.Term.{Term}
use Rattle.prog_check.specs.declared.path.Term.TheVariants.{Literal}
use Rattle.prog_check.specs.declared.path.Column.{Column}
use Rattle.prog_check.specs.declared.path.Access.{Access}
use Rattle.prog_check.specs.declared.path.Path.{Path}
use Rattle.prog_paths.specs.Meeting.{Assignment, MeetsUnder, CanMeet, MayTouch, MayCover, IsSingle, AreSameCell, second_under}
use Rattle.prog_paths.specs.StaticGraph.{QuestionNumbers}
use Rattle.prog_paths.specs.Facts.{question_facts, AreEqualWhereTheyMeet, EntailsEqual}
use Rattle.prog_paths.proofs.Facts.{law_of_consistency, law_of_equal_terms}
use Rattle.prog_paths.specs.Questions.{Asks, ChangesSingleCells}
use Rattle.prog_paths.specs.Shown.{Falls, second_terms}
use Rattle.prog_paths.specs.Shown.{AllEqual, CoversBy}

-- ---- a chain that falls

pub no_way-from_Falls : (fs : List Fact) (chain : List Node) → Falls fs chain → facts.IsConsistent fs → ⊥
no_way-from_Falls fs chain f k =
    let falls = f.falls in
    let order = orderly_from_IsConsistent fs k f.greater f.smaller (reaches-from_chain fs _ _ chain f.is_chain f.runs) in
    absurd (omega (arith, ints))

-- ---- two accesses of a question

-- the question's accesses: one table, and the second of a single cell
pub record IsPair (mine theirs : Access) : Type 0 where
  pub table : mine.table ≡ theirs.table
  pub single : IsSingle theirs

module _ (mine theirs : Access) (pair : IsPair mine theirs) where
  pub apart-from_Falls : (chain : List Node) → Falls (question_facts mine theirs) chain → CanMeet mine theirs → ⊥
  apart-from_Falls chain f m = no_way-from_Falls (question_facts mine theirs) chain f ((law_of_consistency mine theirs pair.table pair.single).1 m)

  -- ---- cells that the facts put at one

  pub terms-same : (s t : Term) → EntailsEqual mine theirs s t → AreEqualWhereTheyMeet mine theirs s t
  terms-same s t = (law_of_equal_terms mine theirs pair.table pair.single s t).0

  pub terms-equal : (s t : Term) → AreEqualWhereTheyMeet mine theirs s t → EntailsEqual mine theirs s t
  terms-equal s t = (law_of_equal_terms mine theirs pair.table pair.single s t).1

  pub second-same : (s t : Option Column) → AllEqual (question_facts mine theirs) (second_terms s t) → (v w : Assignment) → MeetsUnder v w mine theirs → second_under v s ≡ second_under w t
  second-same None None e v w m = refl
  second-same None (Some t) e v w m = terms-same (Literal (pos 0)) t.low e.0 v w m
  second-same (Some s) None e v w m = terms-same s.low (Literal (pos 0)) e.0 v w m
  second-same (Some s) (Some t) e v w m = terms-same s.low t.low e.0 v w m

  pub second-equal : (s t : Option Column) → ((v w : Assignment) → MeetsUnder v w mine theirs → second_under v s ≡ second_under w t) → AllEqual (question_facts mine theirs) (second_terms s t)
  second-equal None None h = tt
  second-equal None (Some t) h = (terms-equal (Literal (pos 0)) t.low h, tt)
  second-equal (Some s) None h = (terms-equal s.low (Literal (pos 0)) h, tt)
  second-equal (Some s) (Some t) h = (terms-equal s.low t.low h, tt)

  pub same-from_CoversBy : (a b : Access) → IsSingle a → IsSingle b → CoversBy (question_facts mine theirs) a b → (v w : Assignment) → MeetsUnder v w mine theirs → AreSameCell v a w b
  same-from_CoversBy a b one other c v w m = record {
    table = c.table;
    mine = one;
    theirs = other;
    first = terms-same a.first.low b.first.low c.equal.0 v w m;
    second = second-same a.second b.second c.equal.1 v w m;
  }

  pub CoversBy-from_same : (a b : Access) → MayCover a → MayCover b → CanMeet mine theirs → ((v w : Assignment) → MeetsUnder v w mine theirs → AreSameCell v a w b) → CoversBy (question_facts mine theirs) a b
  CoversBy-from_same a b one other can h = record {
    mine_covers = one;
    theirs_covers = other;
    table = (h can.0 can.1 can.2).table;
    equal = (terms-equal a.first.low b.first.low (λ v w m. (h v w m).first), second-equal a.second b.second (λ v w m. (h v w m).second));
  }

-- ---- covers of two paths

pub single_at : (path : Path) (k : ℕ) (a : Access) → ChangesSingleCells path → slice_get path.accesses k ≡ Some a → MayTouch a → IsSingle a
single_at path k a h at may =
    let inside = slice_get_within path.accesses k a at in
    subst (λ (b : Access). MayTouch b → IsSingle b) (get_or_from_slice_get path.accesses k a a at) (h k a inside) may

may_touch-changes : (a : Access) → (a.kind ≡ Writes) ⊎ (a.kind ≡ Adds) → MayTouch a
may_touch-changes a (inl e) = inl e
may_touch-changes a (inr e) = inr (inl e)

-- what a question asks of, its second access changes
pub may_touch-second : (q : QuestionNumbers) (mine theirs : Access) → Asks q mine.kind theirs.kind → MayTouch theirs
may_touch-second q mine theirs (inl (inl k)) = may_touch-changes theirs k.1
may_touch-second q mine theirs (inl (inr k)) = inr (inl k.1)
may_touch-second q mine theirs (inr (inl (inl k))) = may_touch-changes theirs k.1
may_touch-second q mine theirs (inr (inl (inr k))) = inr (inl k.1)
may_touch-second q mine theirs (inr (inr k)) = inl k.1
