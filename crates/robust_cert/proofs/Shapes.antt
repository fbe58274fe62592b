-- What the value of a list shows of its items.
use Rattle.std.proofs.Common.{◌≡◌, ◌≢◌, ◌<◌, ◌≤◌, ◌+◌, ◌∷◌, ◌++◌, append-nil, [], ℕ, zero, suc, List, length, get_or, take, map, Some, option_map, Result, Ok, Err, IsErrAnd, refl, ap, subst, ◌∙◌, sym, arith}
use Rattle.std.proofs.lemmas.List.{take_all, take_more, map-append}
use Rattle.std.proofs.lemmas.List.Elements.{All-push}
use Rattle.std.specs.Prelude.{All}
use Rattle.std.specs.declared.alloc.Global.{Global}
use Rattle.std.proofs.Common.{Vec}
use Rattle.serde_json.specs.Data.{Data, array}
use Rattle.serde_json.specs.View.{items_of, view, items_view}
use Rattle.serde_json.specs.declared.value.Value.{Value, Array}
use Rattle.serde_json.proofs.Views.{view-Array, items_len-items_view}
use Rattle.serde_json.specs.Events.{items_len}
use Rattle.serde_json.specs.Find.{as_array}
use Rattle.order_facts.specs.declared.steps.Node.{Node}
use Rattle.order_facts.specs.declared.steps.Node.TheVariants.{Mine, MineUnknown, Theirs, TheirsUnknown, Number}
use Rattle.robust_cert.specs.Json.{list_data, node_data}

module _ {A : Type 0} (f : A → Data) (Fits : A → Type 0) where
  not_items : (vs : List Value) (i : ℕ) (d : Value) → i < length vs → ((a : A) → Fits a → view (get_or vs i d) ≢ f a) → (ys : List A) → All Fits ys → items_view vs ≢ items_of (map f ys)
  not_items [] i d within none ys fits e = absurd (omega arith)
  not_items (v ∷ vs) i d within none [] fits e = absurd (cc)
  not_items (v ∷ vs) zero d within none (y ∷ ys) fits e = none y (fits 0 y (omega arith)) (cc)
  not_items (v ∷ vs) (suc i) d within none (y ∷ ys) fits e = not_items vs i d (omega arith) none ys (λ k x h. fits (suc k) x (omega arith)) (cc)

  -- an item that is the value of nothing, behind others and before others
  pub not_among : (before : List Value) (v : Value) (after all : List Value) → all ≡ before ++ v ∷ after → ((a : A) → Fits a → view v ≢ f a) → (ys : List A) → All Fits ys → array (items_view all) ≢ list_data f ys
  not_among before v after all e none ys fits h = go before ys fits (cc (h, e))
    where
      go : (before : List Value) (ys : List A) → All Fits ys → items_view (before ++ v ∷ after) ≢ items_of (map f ys)
      go [] [] fits h = absurd (cc)
      go [] (y ∷ ys) fits h = none y (fits 0 y (omega arith)) (cc)
      go (b ∷ before) [] fits h = absurd (cc)
      go (b ∷ before) (y ∷ ys) fits h = go before ys (λ k x h. fits (suc k) x (omega arith)) (cc)

  module _ (value : Value) (items : Vec Value Global) (seen : List Value) (i : ℕ) (is : value ≡ Array items) (here : seen ≡ items.items) where
    shown : view value ≡ array (items_view seen)
    shown = ap view is ∙ view-Array items ∙ ap (λ vs. array (items_view vs)) (sym here)

    -- where one item is the value of nothing, the list isn't either
    pub not_list : (v : Value) → i < length seen → v ≡ get_or seen i v → ((a : A) → Fits a → view v ≢ f a) → (ys : List A) → All Fits ys → view value ≢ list_data f ys
    not_list v within at none ys fits e = not_items seen i v within (subst (λ w. (a : A) → Fits a → view w ≢ f a) at none) ys fits (cc (sym shown ∙ e))

    -- where each item is taken, the list is
    pub list_taken : (xs ys : List A) → length seen ≤ i → map view (take i seen) ≡ map f xs → ys ≡ xs → All Fits xs → All Fits ys × (view value ≡ list_data f ys)
    list_taken xs ys all same e fits =
        let whole : items_view seen ≡ items_of (map f xs) = ap (λ vs. items_view vs) (sym (take_all i seen all)) ∙ ap items_of same in
        (subst (All Fits) (sym e) fits, shown ∙ ap array whole ∙ ap (list_data f) (sym e))

  -- one more item is taken
  pub one_pushed : (done : List Value) (v : Value) (xs ys : List A) (x : A) → All Fits xs → map view done ≡ map f xs → Fits x → view v ≡ f x → ys ≡ xs ++ x ∷ []
      → All Fits ys × (map view (done ++ v ∷ []) ≡ map f ys)
  one_pushed done v xs ys x fits same fit is e = (
    subst (All Fits) (sym e) (All-push Fits xs x fits fit),
    map-append view done (v ∷ []) ∙ ap (λ ds. ds ++ view v ∷ []) same ∙ ap (λ d. map f xs ++ d ∷ []) is ∙ sym (map-append f xs (x ∷ [])) ∙ ap (map f) (sym e),
  )

  pub one_more : (seen : List Value) (i : ℕ) (v : Value) (xs ys : List A) (x : A) → i < length seen → v ≡ get_or seen i v → All Fits xs → map view (take i seen) ≡ map f xs → Fits x → view v ≡ f x → ys ≡ xs ++ x ∷ []
      → All Fits ys × (map view (take (i + 1) seen) ≡ map f ys)
  one_more seen i v xs ys x within here fits same fit is e =
      let p = one_pushed (take i seen) v xs ys x fits same fit is e in
      (p.0, ap (map view) (take_more seen i v within ∙ ap (λ w. take i seen ++ w ∷ []) (sym here)) ∙ p.1)

  -- none is left
  pub all_pushed : (all done rest : List Value) (xs ys : List A) → all ≡ done ++ rest → length rest ≡ 0 → map view done ≡ map f xs → ys ≡ xs → All Fits xs → All Fits ys × (array (items_view all) ≡ list_data f ys)
  all_pushed all done [] xs ys e none same is fits =
      (subst (All Fits) (sym is) fits, ap (λ vs. array (items_view vs)) (e ∙ append-nil done) ∙ ap (λ ds. array (items_of ds)) same ∙ ap (list_data f) (sym is))
  all_pushed all done (v ∷ rest) xs ys e none same is fits = absurd (omega arith)

-- ---- a node's value has two items

node_len : (node : Node) → option_map items_len (as_array (node_data node)) ≡ Some 2
node_len (Mine i) = refl
node_len (MineUnknown i) = refl
node_len (Theirs i) = refl
node_len (TheirsUnknown i) = refl
node_len (Number k) = refl

pub not_node : (d : Data) (vs : List Value) → Some (items_view vs) ≡ as_array d → ¬ (length vs ≡ 2) → (node : Node) → d ≢ node_data node
not_node d vs same other node e = other (cc (ap (option_map items_len) (same ∙ ap as_array e), node_len node, items_len-items_view vs))

-- ---- a fault that a `?` passes on

pub passed_on : {T U E : Type 0} (r : Result T E) (before after : E) → IsErrAnd r (λ e. e ≡ before) → r ≡ Err after → ◌≡◌ {A = Result U E} (Err before) (Err after)
passed_on (Ok t) before after h e = absurd h
passed_on (Err x) before after h e = cc
