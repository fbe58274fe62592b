-- Laws of the states of a history.
use Rattle.std.proofs.Common.{◌≡◌, ℕ, zero, suc, ◌+◌, ◌-◌, ◌<◌, ◌≤◌, List, [], ◌∷◌, ◌++◌, length, map, take, refl, ap, sym, ◌∙◌, append_assoc, append-nil, arith}
use Rattle.std.specs.Prelude.{fold, slice_get, Some}
use Rattle.std.proofs.lemmas.List.{take-append-le, length-append}
use Rattle.std.proofs.lemmas.Option.{slice_get-map, slice_get_within}
use Rattle.std.specs.Option.{option_map}
use Rattle.prog_tree.specs.ChangeSet.{ChangeSet, changed}
use Rattle.prog_tree.specs.Syntax.{DraftTree}
use Rattle.prog_tree.specs.Table.{TableState, IsTableState}
use Rattle.prog_tree.proofs.TableStates.{IsTableState-changed}
use Rattle.version_store.specs.Commits.{state_at}
use Rattle.history_book.specs.History.{Instance, eval_of, commits_after, commits_of, state_after, evaluation, nth_instance, StartsBelow}
use Rattle.serial_orders.specs.Orders.{IsUpTo}

-- ---- instances by their numbers

-- behind n others an instance has the next number
pub nth_instance-behind : (h : List Instance) (n : ℕ) → nth_instance h (n + 1) ≡ slice_get h n
nth_instance-behind h n = let next : n + 1 ≡ suc n = omega arith in ap (nth_instance h) next

pub nth_instance-back : (h : List Instance) (n : ℕ) → 1 ≤ n → nth_instance h n ≡ slice_get h (n - 1)
nth_instance-back h zero first = absurd (omega (arith, first))
nth_instance-back h (suc n) first = let back : n ≡ suc n - 1 = omega arith in ap (slice_get h) back

-- whoever has a number, has one of as many as there are instances
pub nth_instance_within : (h : List Instance) (n : ℕ) (b : Instance) → nth_instance h n ≡ Some b → IsUpTo (length h) n
nth_instance_within h zero b found = absurd (cc)
nth_instance_within h (suc n) b found =
    let inside : n < length h = slice_get_within h n b found in (omega arith, omega arith)

-- ---- states

-- one more commit leaves the states before it
pub state_at-push : (opening : TableState) (ws : List ChangeSet) (w : ChangeSet) (n : ℕ) → n ≤ length ws → state_at opening (ws ++ w ∷ []) n ≡ state_at opening ws n
state_at-push opening ws w n before = ap (fold (λ m v. changed m v.cells) opening) (take-append-le n ws (w ∷ []) before)

-- ---- the commits, instance by instance

-- later instances leave the states before them
pub state_at-commits_after : (set : DraftTree) (opening : TableState) (past : List ChangeSet) (h : List Instance) (n : ℕ) → n ≤ length past →
    state_at opening (commits_after set opening past h) n ≡ state_at opening past n
state_at-commits_after set opening past [] n before = refl
state_at-commits_after set opening past (i ∷ h) n before =
    let w = (eval_of set i (state_at opening past i.start)).changes in
    state_at-commits_after set opening (past ++ w ∷ []) h n (omega (arith, length-append past (w ∷ []))) ∙ state_at-push opening past w n before

commits_after-is : (set : DraftTree) (opening : TableState) (past : List ChangeSet) (h : List Instance) →
    ((k : ℕ) (b : Instance) → slice_get h k ≡ Some b → b.start ≤ length past + k) →
    commits_after set opening past h ≡ past ++ map (λ i. (eval_of set i (state_at opening (commits_after set opening past h) i.start)).changes) h
commits_after-is set opening past [] starts = sym (append-nil past)
commits_after-is set opening past (i ∷ h) starts =
    commits_after-is set opening (past ++ w ∷ []) h later
    ∙ append_assoc past (w ∷ []) (map did h)
    ∙ ap (λ v. past ++ v ∷ map did h) (ap (λ m. (eval_of set i m).changes) (sym (state_at-commits_after set opening past (i ∷ h) i.start (omega (arith, starts 0 i refl)))))
  where
    w : ChangeSet
    w = (eval_of set i (state_at opening past i.start)).changes

    did : Instance → ChangeSet
    did b = (eval_of set b (state_at opening (commits_after set opening past (i ∷ h)) b.start)).changes

    later : (k : ℕ) (b : Instance) → slice_get h k ≡ Some b → b.start ≤ length (past ++ w ∷ []) + k
    later k b found = let s : b.start ≤ length past + suc k = starts (suc k) b found in omega (arith, length-append past (w ∷ []))

module _ (set : DraftTree) (opening : TableState) (h : List Instance) where
  -- what was committed is what the instances write on the states that they see
  pub commits_of-is : StartsBelow h → commits_of set opening h ≡ map (λ i. (evaluation set opening h i).changes) h
  commits_of-is starts = commits_after-is set opening [] h from_start
    where
      from_start : (k : ℕ) (b : Instance) → slice_get h k ≡ Some b → b.start ≤ 0 + k
      from_start k b found = let low : b.start < suc k = starts (suc k) b found in omega arith

  -- before the first commit
  pub state_after-zero : state_after set opening h 0 ≡ opening
  state_after-zero = refl

  next_state : (m : TableState) (ws : List ChangeSet) (n : ℕ) (w : ChangeSet) → slice_get ws n ≡ Some w → state_at m ws (suc n) ≡ changed (state_at m ws n) w.cells
  next_state m [] n w found = absurd (cc)
  next_state m (v ∷ ws) zero w found = let is : v ≡ w = cc in ap (λ (x : ChangeSet). changed m x.cells) is
  next_state m (v ∷ ws) (suc n) w found = next_state (changed m v.cells) ws n w found

  -- after one more commit, a state has the changes of its instance
  pub state_after-next : StartsBelow h → (n : ℕ) (i : Instance) → nth_instance h (n + 1) ≡ Some i →
      state_after set opening h (n + 1) ≡ changed (state_after set opening h n) (evaluation set opening h i).changes.cells
  state_after-next starts n i found =
      ap (state_after set opening h) one_more ∙ next_state opening (commits_of set opening h) n (changes i) at
    where
      changes : Instance → ChangeSet
      changes b = (evaluation set opening h b).changes

      one_more : n + 1 ≡ suc n
      one_more = omega arith

      at : slice_get (commits_of set opening h) n ≡ Some (changes i)
      at = ap (λ ws. slice_get ws n) (commits_of-is starts) ∙ slice_get-map changes h n ∙ ap (option_map changes) (sym (nth_instance-behind h n) ∙ found)

  -- all states are in cell order, if the opening is
  ordered_after : (m : TableState) (ws : List ChangeSet) → IsTableState m → IsTableState (fold (λ n w. changed n w.cells) m ws)
  ordered_after m [] ordered = ordered
  ordered_after m (w ∷ ws) ordered = ordered_after (changed m w.cells) ws (IsTableState-changed m w.cells ordered)

  pub IsTableState-state_after : (n : ℕ) → IsTableState opening → IsTableState (state_after set opening h n)
  IsTableState-state_after n ordered = ordered_after opening (take n (commits_of set opening h)) ordered
