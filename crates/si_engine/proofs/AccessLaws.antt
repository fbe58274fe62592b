-- What committed instances look at, change and keep, by the accesses of the nodes that they follow.
use Rattle.std.proofs.Common.{◌≡◌, ◌≢◌, ℕ, ◌<◌, true, List, ◌⊎◌, inl, inr, refl, sym, subst, ◌∙◌}
use Rattle.std.specs.Prelude.{Some, is_some, slice_get, IsTrue, not}
use Rattle.std.proofs.lemmas.Bool.{cases_order, and_parts, not-true, or_left, or_right}
use Rattle.prog_tree.specs.declared.cell.Cell.{Cell}
use Rattle.prog_tree.specs.declared.look.Look.{Look}
use Rattle.prog_tree.specs.declared.look.Look.TheVariants as look
use Rattle.prog_tree.specs.ChangeSet.{change_at}
use Rattle.prog_tree.specs.LookedAt.{looks_at, some_looks_at, has_looked}
use Rattle.prog_tree.specs.Syntax.{DraftTree}
use Rattle.prog_tree.specs.Table.{TableState, is_in, is_cell_among}
use Rattle.prog_tree.proofs.TableStates.{cell_is}
use Rattle.prog_check.specs.declared.path.Access.{Access}
use Rattle.prog_check.specs.declared.path.Kind.TheVariants.{Sees, Lacks, Writes, Adds}
use Rattle.prog_check.specs.Paths.{paths_of}
use Rattle.prog_check.specs.Tables.{grows}
use Rattle.prog_paths.specs.Follows.{IsLookOf, LooksAt, KeepsCell, FoundAs, ChangedAs}
use Rattle.prog_paths.specs.Meeting.{Assignment, IsOf, IsTime, MeetAsOwn}
use Rattle.prog_paths.specs.StaticGraph.{QuestionNumbers, HasQuestion}
use Rattle.prog_check.specs.declared.path.Kind.{Kind}
use Rattle.prog_tree.proofs.Elements.{any_in}
use Rattle.prog_paths.proofs.KindsFit.{KindFits}
use Rattle.prog_paths.proofs.Own.{law_of_times}
use Rattle.history_book.specs.Dependencies.{start_at, evaluation_at}
use Rattle.history_book.specs.History.{Instance}
use Rattle.si_engine.specs.Robustness.{Grows, HasCommitted, AreConcurrent, IsHistory, FollowsNode}
use Rattle.si_engine.proofs.GrowLaws.{Has, ChangesAt}
use Rattle.si_engine.proofs.KindLaws.{access_fits, grows_by, plain_by}
use Rattle.si_engine.proofs.MissedLaws.{Touched, first_wins}

-- ---- looks, as tests and as relations

look_of : (l : Look) (c : Cell) → looks_at l c ≡ true → IsLookOf l c
look_of (look.One cell held) c h = sym (cell_is cell c h)
look_of (look.Range region own rows) c h =
    let k = and_parts (is_in region c) (not (is_cell_among own c)) h in (k.0, not-true (is_cell_among own c) k.1)

looks_of : (ls : List Look) (c : Cell) → some_looks_at ls c ≡ true → LooksAt ls c
looks_of ls c h = let r = any_in (λ l. looks_at l c) ls h in (r.0, r.1, look_of r.0 c r.2)

module _ (set : DraftTree) (opening : TableState) (h : List Instance) (is : IsHistory set opening h) where
  -- ---- what two instances touch

  -- the instance of a number changed or kept the cell
  abbrev pub TouchesAt : ℕ → Cell → Type 0
  TouchesAt n c = ChangesAt set opening h is n c ⊎ KeepsCell (evaluation_at set opening h n).changes c

  touched : (n : ℕ) (c : Cell) → TouchesAt n c → Touched set opening h n c
  touched n c (inl changed) = or_left _ _ changed
  touched n c (inr kept) = or_right (is_some (change_at (evaluation_at set opening h n).changes c)) _ kept

  -- the first committer wins
  pub first_toucher_wins : (i j : ℕ) (c : Cell) → HasCommitted h i → HasCommitted h j → start_at h j < i → i < j →
      TouchesAt i c → TouchesAt j c → ⊥
  first_toucher_wins i j c one other unseen before mine theirs =
      first_wins set opening h is.lawful i j c one other unseen before (touched i c mine) (touched j c theirs)

  -- two concurrent instances touch no cell both
  pub none_shared : (i j : ℕ) (c : Cell) → HasCommitted h i → HasCommitted h j → i ≢ j → AreConcurrent h i j →
      TouchesAt i c → TouchesAt j c → ⊥
  none_shared i j c one other differ both mine theirs = cases (cases_order i j)
    where
      cases : (i ≡ j) ⊎ ((i < j) ⊎ (j < i)) → ⊥
      cases (inl e) = differ e
      cases (inr (inl l)) = first_toucher_wins i j c one other both.1 l mine theirs
      cases (inr (inr l)) = first_toucher_wins j i c other one both.0 l theirs mine

  -- ---- accesses that hold a cell

  -- an access of the node that an instance follows holds the cell at some time
  pub record Holds (i : ℕ) (f : FollowsNode set opening h i) (c : Cell) : Type 0 where
    pub number : ℕ
    pub access : Access
    pub at : slice_get f.path.accesses number ≡ Some access
    pub time : Assignment
    pub at_time : IsTime access f.v time
    pub holds : IsOf time access c

  -- an access that holds the cell, of a kind that fits what a look found there
  abbrev pub HoldsLook : (i : ℕ) → FollowsNode set opening h i → Cell → Type 0
  HoldsLook i f c =
      (t : Holds i f c) × FoundAs t.access.kind (Has set opening h is (start_at h i) c) (ChangesAt set opening h is i c)

  -- an access that holds the cell, of a kind that changes it
  abbrev pub HoldsChange : (i : ℕ) → FollowsNode set opening h i → Cell → Type 0
  HoldsChange i f c = (t : Holds i f c) × ChangedAs t.access.kind (Has set opening h is (start_at h i) c)

  -- whatever an instance looked at, an access holds, of a kind that fits what it found
  pub looked : (i : ℕ) (f : FollowsNode set opening h i) (c : Cell) →
      IsTrue (has_looked (evaluation_at set opening h i) c) → HoldsLook i f c
  looked i f c looks =
      let t = f.follows.look c (looks_of (evaluation_at set opening h i).looks c looks) in
      let own = t.3 in
      (record { number = t.0; access = t.1; at = t.2; time = own.0; at_time = own.1; holds = own.2 }, t.4)

  -- whatever it changed, an access holds that changes
  pub changed_in : (i : ℕ) (f : FollowsNode set opening h i) (c : Cell) → ChangesAt set opening h is i c →
      HoldsChange i f c
  changed_in i f c k =
      let t = f.follows.change c k in
      let own = t.3 in
      (record { number = t.0; access = t.1; at = t.2; time = own.0; at_time = own.1; holds = own.2 }, t.4)

  fits_at : (i : ℕ) (f : FollowsNode set opening h i) (c : Cell) (t : Holds i f c) →
      KindFits (grows (slice_get set.tables c.table)) t.access.kind
  fits_at i f c t =
      subst (λ (n : ℕ). KindFits (grows (slice_get set.tables n)) t.access.kind) (sym t.holds.table)
      (access_fits set is.sound f.node t.number f.path t.access f.path_at t.at)

  pub grow_at : (i : ℕ) (f : FollowsNode set opening h i) (c : Cell) (t : Holds i f c) →
      (t.access.kind ≡ Sees) ⊎ (t.access.kind ≡ Lacks) ⊎ (t.access.kind ≡ Adds) → Grows set c.table
  grow_at i f c t k = grows_by (grows (slice_get set.tables c.table)) t.access.kind (fits_at i f c t) k

  pub plain_at : (i : ℕ) (f : FollowsNode set opening h i) (c : Cell) (t : Holds i f c) → t.access.kind ≡ Writes →
      Grows set c.table → ⊥
  plain_at i f c t k grow = plain_by (grows (slice_get set.tables c.table)) t.access.kind (fits_at i f c t) k grow

  -- ---- two accesses that hold one cell are a question that meets

  module _ (i j : ℕ) (f : FollowsNode set opening h i) (g : FollowsNode set opening h j) (c : Cell) (t : Holds i f c) (s : Holds j g c) where
    pub meets : MeetAsOwn f.v g.v t.access s.access
    meets = (
      t.time,
      s.time,
      t.at_time,
      s.at_time,
      record {
        mine_of_i64 = law_of_times t.access f.v t.time f.of_i64 t.at_time;
        theirs_of_i64 = law_of_times s.access g.v s.time g.of_i64 s.at_time;
        meet = (c, t.holds, s.holds);
      },
    )

    abbrev pub question_of : QuestionNumbers
    question_of = record { x = f.node; a = t.number; y = g.node; b = s.number }

    -- a question about them of which P holds
    pub asked_with : (asks : QuestionNumbers → Kind → Kind → Type 0) (P : QuestionNumbers → Access → Access → Type 0) →
        asks question_of t.access.kind s.access.kind → P question_of t.access s.access →
        HasQuestion asks P (paths_of set) f.node g.node
    asked_with asks P kinds p =
        record {
          question = question_of;
          from = refl;
          to = refl;
          mine = t.access;
          theirs = s.access;
          asked = record {
            at_mine = (f.path, f.path_at, t.at);
            at_theirs = (g.path, g.path_at, s.at);
            table = sym t.holds.table ∙ s.holds.table;
          };
          kinds = kinds;
          holds = p;
        }

    -- a question that meets at some times under the assignments followed
    pub asked : (asks : QuestionNumbers → Kind → Kind → Type 0) → asks question_of t.access.kind s.access.kind →
        HasQuestion asks (λ q a b. MeetAsOwn f.v g.v a b) (paths_of set) f.node g.node
    asked asks kinds = asked_with asks (λ q a b. MeetAsOwn f.v g.v a b) kinds meets
