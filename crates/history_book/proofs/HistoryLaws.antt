-- One more instance at the end of a history.
use Rattle.std.proofs.Common.{◌≡◌, ℕ, zero, suc, ◌+◌, ◌-◌, ◌<◌, ◌≤◌, max, true, false, List, [], ◌∷◌, ◌++◌, length, refl, ap, sym, ◌∙◌, subst, ◌⊎◌, inl, inr, cond, arith}
use Rattle.std.specs.Prelude.{Some, None, slice_get}
use Rattle.std.specs.Option.{option_map}
use Rattle.std.proofs.lemmas.List.{length-append}
use Rattle.std.proofs.lemmas.Option.{slice_get-map}
use Rattle.prog_tree.specs.declared.cell.Cell.{Cell}
use Rattle.prog_tree.specs.declared.deed.End.TheVariants.{Ready}
use Rattle.prog_tree.specs.ChangeSet.{ChangeSet, touches_cell}
use Rattle.prog_tree.specs.Evaluation.{eval}
use Rattle.prog_tree.specs.Syntax.{ProgramTree, DraftTree}
use Rattle.prog_tree.specs.Table.{TableState}
use Rattle.prog_tree.proofs.Elements.{get_push_cases}
use Rattle.version_store.specs.Clash.{last_touch, IsClash}
use Rattle.version_store.specs.Commits.{state_at}
use Rattle.history_book.specs.History.{Instance, eval_of, commits_after, commits_of, state_after, evaluation, nth_instance, IsCalled, IsLawful}
use Rattle.history_book.proofs.StateLaws.{nth_instance-back, nth_instance_within, state_at-push, commits_of-is}

-- what an instance of a program does is what the program does
pub eval_of-found : (set : DraftTree) (i : Instance) (p : ProgramTree) (m : TableState) → slice_get set.programs i.program ≡ Some p → eval_of set i m ≡ eval set.tables p i.args m
unfolding eval_of
eval_of-found set i p m found = rw found refl

pub length-commits_after : (set : DraftTree) (opening : TableState) (past : List ChangeSet) (h : List Instance) → length (commits_after set opening past h) ≡ length past + length h
length-commits_after set opening past [] = omega arith
length-commits_after set opening past (i ∷ h) =
    let w = (eval_of set i (state_at opening past i.start)).changes in
    omega (arith, length-commits_after set opening (past ++ w ∷ []) h, length-append past (w ∷ []))

-- as many commits as instances
pub length-commits_of : (set : DraftTree) (opening : TableState) (h : List Instance) → length (commits_of set opening h) ≡ length h
length-commits_of set opening h = omega (arith, length-commits_after set opening [] h)

-- one more instance, with what it writes
pub commits_after-push :
    (set : DraftTree) (opening : TableState) (past : List ChangeSet) (h : List Instance) (i : Instance) →
    let ws = commits_after set opening past h in
    commits_after set opening past (h ++ i ∷ []) ≡ ws ++ (eval_of set i (state_at opening ws i.start)).changes ∷ []
commits_after-push set opening past [] i = refl
commits_after-push set opening past (j ∷ h) i =
    commits_after-push set opening (past ++ (eval_of set j (state_at opening past j.start)).changes ∷ []) h i

-- the commits of a longer history
pub commits_of-push : (set : DraftTree) (opening : TableState) (h : List Instance) (i : Instance) →
    commits_of set opening (h ++ i ∷ []) ≡ commits_of set opening h ++ (evaluation set opening h i).changes ∷ []
commits_of-push set opening h i = commits_after-push set opening [] h i

-- the states before it stay
pub state_after-push : (set : DraftTree) (opening : TableState) (h : List Instance) (i : Instance) (n : ℕ) → n ≤ length h →
    state_after set opening (h ++ i ∷ []) n ≡ state_after set opening h n
state_after-push set opening h i n before =
    let ws = commits_of set opening h in
    let within : n ≤ length ws = omega (arith, length-commits_of set opening h) in
    ap (λ vs. state_at opening vs n) (commits_of-push set opening h i) ∙ state_at-push opening ws (evaluation set opening h i).changes n within

-- what an instance does is the same in a longer history
pub evaluation-push :
    (set : DraftTree) (opening : TableState) (h : List Instance) (i b : Instance) → b.start ≤ length h →
    evaluation set opening (h ++ i ∷ []) b ≡ evaluation set opening h b
evaluation-push set opening h i b before = ap (eval_of set b) (state_after-push set opening h i b.start before)

-- ---- a commit among others

-- a commit that touches the cell is no later than the last one
pub last_touch-at : (c : Cell) (k : ℕ) (ws : List ChangeSet) (n : ℕ) (v : ChangeSet) → slice_get ws n ≡ Some v → touches_cell v c ≡ true → k + n ≤ last_touch c k ws
last_touch-at c k [] n v found touches = absurd (cc)
last_touch-at c k (w ∷ ws) zero v found touches =
    let is : w ≡ v = cc in
    let here : touches_cell w c ≡ true = ap (λ x. touches_cell x c) is ∙ touches in
    let value : max k (last_touch c (k + 1) ws) ≡ last_touch c k (w ∷ ws) = ap (λ b. max (cond b k 0) (last_touch c (k + 1) ws)) (sym here) in
    omega arith
last_touch-at c k (w ∷ ws) (suc n) v found touches =
    let rest : k + 1 + n ≤ last_touch c (k + 1) ws = last_touch-at c (k + 1) ws n v found touches in
    elim (touches_cell w c) as (λ b. k + suc n ≤ max (cond b k 0) (last_touch c (k + 1) ws)) [ true ↦ omega arith | false ↦ omega arith ]

-- ---- lawful histories

module _ (set_of : DraftTree) (opening : TableState) where
  pub lawful-nil : IsLawful set_of opening []
  lawful-nil = record {
    called = λ j b found. absurd (none_there j b found);
    starts = λ j b found. absurd (none_there j b found);
    ready = λ j b found. absurd (none_there j b found);
    apart = λ i j a b c found other before less here there. none_there i a found;
  }
    where
      none_there : (j : ℕ) (b : Instance) → nth_instance [] j ≡ Some b → ⊥
      none_there zero b found = cc
      none_there (suc n) b found = cc

  module _ (h : List Instance) (i : Instance) (lawful : IsLawful set_of opening h) (before : i.start ≤ length h) where
    -- it is one of the history, or the last of the longer one
    abbrev IsEither : ℕ → Instance → Type 0
    IsEither j b = (nth_instance h j ≡ Some b) ⊎ ((j ≡ length h + 1) × (i ≡ b))

    either : (j : ℕ) (b : Instance) → nth_instance (h ++ i ∷ []) j ≡ Some b → IsEither j b
    either zero b found = absurd (cc)
    either (suc n) b found = go (get_push_cases h i b n found)
      where
        go : (slice_get h n ≡ Some b) ⊎ ((n ≡ length h) × (i ≡ b)) → IsEither (suc n) b
        go (inl old) = inl old
        go (inr new) = inr (omega (arith, new.0), new.1)

    -- it starts early enough, and does in the longer history what it does here
    abbrev Stands : ℕ → Instance → Type 0
    Stands j b = (b.start < j) × (j ≤ length h + 1) × (evaluation set_of opening (h ++ i ∷ []) b ≡ evaluation set_of opening h b)

    stands : (j : ℕ) (b : Instance) → IsEither j b → Stands j b
    stands j b (inl old) =
        let start : b.start < j = lawful.starts j b old in
        let inside : j ≤ length h = (nth_instance_within h j b old).1 in
        (start, omega arith, evaluation-push set_of opening h i b (omega arith))
    stands j b (inr new) =
        let same : i.start ≡ b.start = ap (λ (x : Instance). x.start) new.1 in
        let start : b.start ≤ length h = omega arith in
        (omega (arith, new.0), omega (arith, new.0), evaluation-push set_of opening h i b start)

    called_in : IsCalled set_of i → (j : ℕ) (b : Instance) → IsEither j b → IsCalled set_of b
    called_in called j b (inl old) = lawful.called j b old
    called_in called j b (inr new) = subst (IsCalled set_of) new.1 called

    ready_in : (evaluation set_of opening h i).ending ≡ Ready → (j : ℕ) (b : Instance) → IsEither j b → (evaluation set_of opening h b).ending ≡ Ready
    ready_in ends j b (inl old) = lawful.ready j b old
    ready_in ends j b (inr new) = ap (λ x. (evaluation set_of opening h x).ending) (sym new.1) ∙ ends

    apart_in :
        IsClash (commits_of set_of opening h) i.start (evaluation set_of opening h i).changes None →
        (n j : ℕ) (a b : Instance) (c : Cell) → IsEither n a → IsEither j b → b.start < n → n < j → j ≤ length h + 1 →
        touches_cell (evaluation set_of opening h a).changes c ≡ true → touches_cell (evaluation set_of opening h b).changes c ≡ true → ⊥
    apart_in none n j a b c (inr new) at_j between less within one other = omega (arith, new.0)
    apart_in none n j a b c (inl old) (inl later) between less within one other = lawful.apart n j a b c old later between less one other
    apart_in none n j a b c (inl old) (inr new) between less within one other =
        let ws = commits_of set_of opening h in
        let w = (evaluation set_of opening h i).changes in
        let changes = λ (x : Instance). (evaluation set_of opening h x).changes in
        let here : touches_cell w c ≡ true = ap (λ x. touches_cell (changes x) c) new.1 ∙ other in
        let first : 1 ≤ n = (nth_instance_within h n a old).0 in
        let at : slice_get h (n - 1) ≡ Some a = sym (nth_instance-back h n first) ∙ old in
        let place : slice_get ws (n - 1) ≡ Some (changes a) = ap (λ vs. slice_get vs (n - 1)) (commits_of-is set_of opening h lawful.starts) ∙ slice_get-map changes h (n - 1) ∙ ap (option_map changes) at in
        let reach : 1 + (n - 1) ≤ last_touch c 1 ws = last_touch-at c 1 ws (n - 1) (changes a) place one in
        let same : i.start ≡ b.start = ap (λ (x : Instance). x.start) new.1 in
        none c here (omega arith)

    pub lawful-push :
        IsCalled set_of i → (evaluation set_of opening h i).ending ≡ Ready →
        IsClash (commits_of set_of opening h) i.start (evaluation set_of opening h i).changes None → IsLawful set_of opening (h ++ i ∷ [])
    lawful-push called ends none = record {
      called = λ j b found. called_in called j b (either j b found);
      starts = λ j b found. (stands j b (either j b found)).0;
      ready = λ j b found. ap (λ e. e.ending) (stands j b (either j b found)).2 ∙ ready_in ends j b (either j b found);
      apart = λ n j a b c at_n at_j between less one other.
          let this = stands n a (either n a at_n) in
          let that = stands j b (either j b at_j) in
          apart_in none n j a b c (either n a at_n) (either j b at_j) between less that.1
          (ap (λ e. touches_cell e.changes c) (sym this.2) ∙ one) (ap (λ e. touches_cell e.changes c) (sym that.2) ∙ other);
    }
