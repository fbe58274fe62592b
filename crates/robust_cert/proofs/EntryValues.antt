-- What the value of an entry shows of its parts.
use Rattle.std.proofs.Common.{◌≡◌, ◌≢◌, ◌≤◌, ◌<◌, ◌-◌, ◌∷◌, [], ℕ, List, length, get_or, take, drop, codes, option_map, slice_index, refl, ap, sym, ◌∙◌, Vec, arith}
use Rattle.std.specs.declared.alloc.Global.{Global}
use Rattle.std.proofs.lemmas.List.{take_all}
use Rattle.serde_json.specs.Data.{item, array}
use Rattle.serde_json.specs.Find.{as_array}
use Rattle.serde_json.specs.Events.{items_len}
use Rattle.serde_json.specs.View.{view, items_view}
use Rattle.serde_json.specs.declared.value.Value.{Value, Array}
use Rattle.serde_json.proofs.Views.{view-Array, items_len-items_view}
use Rattle.robust_cert.specs.declared.certificate.EntryQuestion.{EntryQuestion}
use Rattle.robust_cert.specs.declared.entries.Reason.{Reason}
use Rattle.robust_cert.specs.declared.entries.Reason.TheVariants.{Apart, Cover}
use Rattle.robust_cert.specs.Json.{QuestionFits, ReasonFits, EntryFits, entry_data, AreNumbersOf, IsWordedAs}
use Rattle.robust_cert.specs.Sharing.{Entry, entry_with}

shown : (value : Value) (items : Vec Value Global) (seen : List Value) → value ≡ Array items → seen ≡ items.items → view value ≡ array (items_view seen)
shown value items seen is here = ap view is ∙ view-Array items ∙ ap (λ vs. array (items_view vs)) (sym here)

-- fewer than five items are no entry
short_differs : (value : Value) (items : Vec Value Global) (seen : List Value) → value ≡ Array items → seen ≡ items.items → length seen < 5 → (q : EntryQuestion) (reason : Reason) → view value ≢ entry_data (entry_with q reason)
short_differs value items seen is here short q (Apart chain) e =
    let n : items_len (items_view seen) ≡ 6 = cc (ap (λ d. option_map items_len (as_array d)) (sym (shown value items seen is here) ∙ e)) in
    omega (arith, items_len-items_view seen)
short_differs value items seen is here short q (Cover mine theirs chains) e =
    let n : items_len (items_view seen) ≡ 8 = cc (ap (λ d. option_map items_len (as_array d)) (sym (shown value items seen is here) ∙ e)) in
    omega (arith, items_len-items_view seen)

pub not_short : (value : Value) (items : Vec Value Global) (seen : List Value) → value ≡ Array items → seen ≡ items.items → length seen < 5 → (entry : Entry) → view value ≢ entry_data entry
not_short value items seen is here short entry = short_differs value items seen is here short entry.question entry.reason

-- a question in its range and a reason in its own make an entry in its own
pub entry_fits : (q : EntryQuestion) (reason : Reason) → QuestionFits q → ReasonFits reason → EntryFits (entry_with q reason)
entry_fits q reason f g = (f, g)

pub kinds_differ : codes "apart" ≢ codes "cover"
kinds_differ e = let h : ◌≡◌ {A = ℕ} 97 99 = ap (λ (s : List ℕ). slice_index s 0) e in omega (arith, h)

behind_five : (vs : List Value) (k x a y b : Value) → take (length (k ∷ x ∷ a ∷ y ∷ b ∷ vs) - 5) vs ≡ vs
behind_five vs k x a y b = take_all _ vs (omega arith)

-- the items behind the fifth
abbrev pub behind : List Value → List Value
behind vs = take (length vs - 5) (drop 5 vs)

five : (vs : List Value) (k x a y b : Value) → 5 ≤ length vs → k ≡ get_or vs 0 k → x ≡ get_or vs 1 x → a ≡ get_or vs 2 a → y ≡ get_or vs 3 y → b ≡ get_or vs 4 b
    → items_view vs ≡ item (view k) (item (view x) (item (view a) (item (view y) (item (view b) (items_view (behind vs))))))
five [] k x a y b n e f g h i = absurd (omega arith)
five (_ ∷ []) k x a y b n e f g h i = absurd (omega arith)
five (_ ∷ _ ∷ []) k x a y b n e f g h i = absurd (omega arith)
five (_ ∷ _ ∷ _ ∷ []) k x a y b n e f g h i = absurd (omega arith)
five (_ ∷ _ ∷ _ ∷ _ ∷ []) k x a y b n e f g h i = absurd (omega arith)
five (k' ∷ x' ∷ a' ∷ y' ∷ b' ∷ vs) k x a y b n e f g h i = rw (e, f, g, h, i, behind_five vs k' x' a' y' b') refl

-- the items of an entry, in order
pub record Parts (value : Value) (items : Vec Value Global) (seen : List Value) (k x a y b : Value) : Type 0 where
  pub is : value ≡ Array items
  pub here : seen ≡ items.items
  pub enough : 5 ≤ length seen
  pub first : k ≡ get_or seen 0 k
  pub second : x ≡ get_or seen 1 x
  pub third : a ≡ get_or seen 2 a
  pub fourth : y ≡ get_or seen 3 y
  pub fifth : b ≡ get_or seen 4 b

module _ (value : Value) (items : Vec Value Global) (seen : List Value) (k x a y b : Value) (p : Parts value items seen k x a y b) where
  whole : view value ≡ array (item (view k) (item (view x) (item (view a) (item (view y) (item (view b) (items_view (behind seen)))))))
  whole = shown value items seen p.is p.here ∙ ap array (five seen k x a y b p.enough p.first p.second p.third p.fourth p.fifth)

  pub entry_taken : (q : EntryQuestion) (reason : Reason) → AreNumbersOf q (view x) (view a) (view y) (view b) → IsWordedAs reason (view k) (items_view (behind seen)) → view value ≡ entry_data (entry_with q reason)
  entry_taken q reason e f = whole ∙ rw (e.0, e.1, e.2, e.3, f.0, f.1) refl

  pub not_entry : ((reason : Reason) → ReasonFits reason → ¬ IsWordedAs reason (view k) (items_view (behind seen))) → (entry : Entry) → EntryFits entry → view value ≢ entry_data entry
  not_entry none entry fits g = none entry.reason fits.1 (cc (sym whole ∙ g), cc (sym whole ∙ g))
