-- Keys that compare equal, and what is noted at them.
use Rattle.std.proofs.Common.{◌≡◌, ℕ, refl, ap, ◌∙◌, Bool, true, false, ◌&&◌, ◌==◌, List, [], ◌∷◌, ℤ, arith, if◌then◌else◌}
use Rattle.std.specs.Cmp.Lexicographic.{slice_cmp, pointwise}
use Rattle.std.specs.Ordering.{nat_cmp, int_cmp, int_eq, ordering_then, is_eq}
use Rattle.std.specs.declared.cmp.Ordering.{Ordering}
use Rattle.std.specs.declared.cmp.Ordering.TheVariants.{Less, Equal, Greater}
use Rattle.std.proofs.lemmas.Bool.Decides.{nat_tests}
use Rattle.std.proofs.lemmas.Cmp.{int_eq_equiv, eq_by_cmp_equiv, lists_equiv}
use Rattle.prog_tree.proofs.TableLemmas.{cell_total}
use Rattle.prog_tree.specs.Table.{cell_cmp}
use Rattle.prog_tree.specs.declared.deed.Cause.{Cause}
use Rattle.version_store.specs.declared.clash.Clash.{Clash}
use Rattle.si_engine.specs.Headline.{Call}
use Rattle.si_workers.specs.Calls.{is_same_call, is_same_cause, is_same_clash}
use Rattle.si_workers.specs.Keys.{call_at, cause_at, clash_at, call_cmp, cause_cmp, abort_cmp, clash_cmp}
use Rattle.si_workers.specs.declared.keys.AbortKey.{AbortKey}
use Rattle.si_workers.specs.declared.keys.CallKey.{CallKey}
use Rattle.si_workers.specs.declared.keys.CauseKey.{CauseKey}
use Rattle.si_workers.specs.declared.keys.CauseKey.TheVariants.{Asked, Missing, Present, Overflow}
use Rattle.si_workers.specs.declared.keys.ClashKey.{ClashKey}

-- ---- keys that compare equal

then-tie : (a b : Ordering) → is_eq (ordering_then a b) ≡ (is_eq a && is_eq b)
then-tie Less b = refl
then-tie Equal b = refl
then-tie Greater b = refl

-- the second to the first, as the tests of endings and jobs have it
nat-tie : (x y : ℕ) → is_eq (nat_cmp x y) ≡ (y == x)
nat-tie x y = grind (arith, nat_tests)

lists-tie : (xs ys : List ℤ) → is_eq (slice_cmp int_cmp xs ys) ≡ pointwise int_eq xs ys
lists-tie [] [] = refl
lists-tie [] (y ∷ ys) = refl
lists-tie (x ∷ xs) [] = refl
lists-tie (x ∷ xs) (y ∷ ys) = then-tie (int_cmp x y) (slice_cmp int_cmp xs ys) ∙ ap (λ b. int_eq x y && b) (lists-tie xs ys)

lists-tie_back : (xs ys : List ℤ) → is_eq (slice_cmp int_cmp xs ys) ≡ pointwise int_eq ys xs
lists-tie_back xs ys = lists-tie xs ys ∙ (lists_equiv int_eq_equiv).symm xs ys

both : (a b c d : Bool) → a ≡ b → c ≡ d → (a && c) ≡ (b && d)
both a b c d e f = λ i. e i && f i

pub call-tie : (a b : CallKey) → is_eq (call_cmp a b) ≡ is_same_call (call_at b) (call_at a)
call-tie a b =
    then-tie (nat_cmp a.program b.program) (slice_cmp int_cmp a.args.now b.args.now)
    ∙ both _ _ _ _ (nat-tie a.program b.program) (lists-tie_back a.args.now b.args.now)

cause-tie : (a b : CauseKey) → is_eq (cause_cmp a b) ≡ is_same_cause (cause_at b) (cause_at a)
cause-tie Asked Asked = refl
cause-tie Asked (Missing d) = refl
cause-tie Asked (Present d) = refl
cause-tie Asked Overflow = refl
cause-tie (Missing c) Asked = refl
cause-tie (Missing c) (Missing d) = (eq_by_cmp_equiv cell_total).symm c d
cause-tie (Missing c) (Present d) = refl
cause-tie (Missing c) Overflow = refl
cause-tie (Present c) Asked = refl
cause-tie (Present c) (Missing d) = refl
cause-tie (Present c) (Present d) = (eq_by_cmp_equiv cell_total).symm c d
cause-tie (Present c) Overflow = refl
cause-tie Overflow Asked = refl
cause-tie Overflow (Missing d) = refl
cause-tie Overflow (Present d) = refl
cause-tie Overflow Overflow = refl

pub abort-tie : (a b : AbortKey) → is_eq (abort_cmp a b) ≡ (is_same_call (call_at b.call) (call_at a.call) && is_same_cause (cause_at b.cause) (cause_at a.cause))
abort-tie a b = then-tie (call_cmp a.call b.call) (cause_cmp a.cause b.cause) ∙ both _ _ _ _ (call-tie a.call b.call) (cause-tie a.cause b.cause)

-- three tests, in the other order
turned : (a b c d e f : Bool) → a ≡ d → b ≡ e → c ≡ f → (a && (b && c)) ≡ (f && (e && d))
turned a b c d e f p q r = (λ i. p i && (q i && r i)) ∙ and_turned d e f
  where
    and_turned : (x y z : Bool) → (x && (y && z)) ≡ (z && (y && x))
    and_turned true true true = refl
    and_turned true true false = refl
    and_turned true false true = refl
    and_turned true false false = refl
    and_turned false true true = refl
    and_turned false true false = refl
    and_turned false false true = refl
    and_turned false false false = refl

pub clash-tie : (a b : ClashKey) → is_eq (clash_cmp a b) ≡ (is_same_call (call_at b.call) (call_at a.call) && is_same_clash (clash_at b) (clash_at a))
clash-tie a b =
    then-tie (nat_cmp a.number b.number) (ordering_then (cell_cmp a.cell b.cell) (call_cmp a.call b.call))
    ∙ ap (λ more. is_eq (nat_cmp a.number b.number) && more) (then-tie (cell_cmp a.cell b.cell) (call_cmp a.call b.call))
    ∙ turned _ _ _ _ _ _ (nat-tie a.number b.number) ((eq_by_cmp_equiv cell_total).symm a.cell b.cell) (call-tie a.call b.call)

-- ---- what is noted

-- a key is noted where its test finds it the same
pub call_noted : (key q : CallKey) (call : Call) (times : ℕ) → call_at key ≡ call → (if is_eq (call_cmp key q) then times else 0) ≡ (if is_same_call (call_at q) call then times else 0)
call_noted key q call times is = ap (λ b. if b then times else 0) (call-tie key q ∙ ap (is_same_call (call_at q)) is)

pub abort_noted : (key q : AbortKey) (call : Call) (by : Cause) (times : ℕ) → call_at key.call ≡ call → cause_at key.cause ≡ by → (if is_eq (abort_cmp key q) then times else 0) ≡ (if is_same_call (call_at q.call) call && is_same_cause (cause_at q.cause) by then times else 0)
abort_noted key q call by times is cause =
    ap (λ b. if b then times else 0) (abort-tie key q ∙ (λ i. is_same_call (call_at q.call) (is i) && is_same_cause (cause_at q.cause) (cause i)))

pub clash_noted : (key q : ClashKey) (call : Call) (on : Clash) (times : ℕ) → call_at key.call ≡ call → clash_at key ≡ on → (if is_eq (clash_cmp key q) then times else 0) ≡ (if is_same_call (call_at q.call) call && is_same_clash (clash_at q) on then times else 0)
clash_noted key q call on times is clash =
    ap (λ b. if b then times else 0) (clash-tie key q ∙ (λ i. is_same_call (call_at q.call) (is i) && is_same_clash (clash_at q) (clash i)))
