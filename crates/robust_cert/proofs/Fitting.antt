-- Numbers in their ranges, and what is so anyway.
use Rattle.std.proofs.Common.{◌≡◌, ◌≤◌, ◌-◌, ℕ, List, [], ◌∷◌, length, take, drop, get_or, subst, arith, Result, Ok, Err, OnOk}
use Rattle.std.proofs.lemmas.Grind.{common_steps}
use Rattle.std.proofs.lemmas.List.Elements.{All-cons}
use Rattle.std.specs.Prelude.{All}
use Rattle.order_facts.specs.declared.steps.Node.{Node}
use Rattle.order_facts.specs.declared.steps.Node.TheVariants.{Mine, MineUnknown, Theirs, TheirsUnknown, Number}
use Rattle.robust_cert.specs.Ranges.{IsOfSmall, NodeFits}

pub small_from_fits : (n : Node) → NodeFits n → IsOfSmall n
small_from_fits (Mine i) h = h
small_from_fits (MineUnknown i) h = h
small_from_fits (Theirs i) h = h
small_from_fits (TheirsUnknown i) h = h
small_from_fits (Number k) h = tt

pub all_small : (nodes : List Node) → All NodeFits nodes → All IsOfSmall nodes
all_small nodes h n d inside = small_from_fits (get_or nodes n d) (h n d inside)

-- what is so of the first thing and of each behind it is so of all
pub all_from_first : {A : Type 0} (P : A → Type 0) (xs : List A) (x : A) (i : ℕ) → 1 ≤ length xs → x ≡ get_or xs 0 x → length (take (length xs - 1) (drop 1 xs)) ≤ i
    → P x → All P (take i (take (length xs - 1) (drop 1 xs))) → All P xs
all_from_first P [] x i some e past p rest = absurd (omega (arith, some))
all_from_first P (y ∷ ys) x i some e past p rest =
    let whole : take i (take (length (y ∷ ys) - 1) (drop 1 (y ∷ ys))) ≡ ys = grind (arith, common_steps) in
    All-cons P y ys (subst P e p) (subst (All P) whole rest)

-- what is so anyway is so of an `Ok`
pub on_ok_anyway : {T E P : Type 0} (r : Result T E) → P → OnOk r P
on_ok_anyway (Ok _) p = p
on_ok_anyway (Err _) p = tt
