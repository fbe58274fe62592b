use Rattle.std.proofs.Common.{◌≡◌, ◌∙◌, ◌+◌, List, Option, ℕ, ap, length, refl, slice_get, sym}
use Rattle.text_places.proofs.Finding.{has_no_program, has_none, is_place}
use Rattle.text_places.specs.Reading.{without_comments}
use Rattle.text_places.proofs.set_text.SetText.statement_place.Goals as goal

-- what is found in a list is found in an equal one
in_same : (xs ys : List ℕ) (index : ℕ) (found other : Option ℕ) → xs ≡ ys → found ≡ slice_get xs index → found ≡ other → slice_get ys index ≡ other
in_same xs ys index found other same got is = ap (λ list. slice_get list index) (sym same) ∙ sym got ∙ is

pub returns-in-Some-clause-found : goal.returns-in-Some-clause-found
returns-in-Some-clause-found c =
    let ahead = in_same _ _ c.args.program _ _ (c.as_slice.ensures.value ∙ c.self.invariant.1.ahead) c.nth.ensures c.in-Some.is in
    let place = sym (in_same _ _ (c.in-Some.ahead + c.args.statement) _ _ (c.as_slice-in-Some.ensures.value ∙ c.self.invariant.1.statements) c.nth_behind.ensures refl) in
    let bytes = c.self.inside.bytes.now in
    rw (← c.self.view_is) (is_place bytes c.args.program c.args.statement c.in-Some.ahead (length (without_comments bytes)) c.nth_behind.result ahead place)

pub returns-in-Some-clause-none : goal.returns-in-Some-clause-none
returns-in-Some-clause-none c =
    let ahead = in_same _ _ c.args.program _ _ (c.as_slice.ensures.value ∙ c.self.invariant.1.ahead) c.nth.ensures c.in-Some.is in
    let place = sym (in_same _ _ (c.in-Some.ahead + c.args.statement) _ _ (c.as_slice-in-Some.ensures.value ∙ c.self.invariant.1.statements) c.nth_behind.ensures refl) in
    rw (← c.self.view_is) (has_none c.self.inside.bytes.now c.args.program c.args.statement c.in-Some.ahead c.nth_behind.result ahead place)

pub returns-in-None-clause-none : goal.returns-in-None-clause-none
returns-in-None-clause-none c =
    let none = in_same _ _ c.args.program _ _ (c.as_slice.ensures.value ∙ c.self.invariant.1.ahead) c.nth.ensures c.in-None.is in
    rw (← c.self.view_is) (has_no_program c.self.inside.bytes.now c.args.program c.args.statement none)
