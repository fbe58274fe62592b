use Rattle.std.proofs.Common.{◌≡◌, ◌*◌, ◌∙◌, ℕ, List, length, ap, subst, arith}
use Rattle.std.specs.Prelude.{Bool}
use Rattle.order_facts.specs.Square.{Grid, JoinsSet}
use Rattle.order_facts.specs.Words.{grid_of, JoinsWords}
use Rattle.order_facts.proofs.WordRows.{in_row, row_inside, row-joined_with_set, set_size}
use Rattle.order_facts.proofs.square.Square.join_set.Goals as goal

pub join_others-requires-clause-into : goal.join_others-requires-clause-into
join_others-requires-clause-into c =
    let m = c.self.inside in
    let same : m.size ≡ c.args.self.now.size = ap (λ (g : Grid). g.size) c.self.view_is in
    omega (arith, row_inside m.size m.width c.args.row m.words.items c.self.invariant (omega (arith, same, c.requires.row)), c.min-count.ensures)

pub join_others-requires-clause-others : goal.join_others-requires-clause-others
join_others-requires-clause-others c = omega (arith, c.min-count.ensures, c.len.ensures, c.deref.ensures.len)

pub returns : goal.returns
returns c =
    let m = c.self.inside in
    let s = c.set.inside in
    let new = c.join_others.new.words.items in
    let same : m.size ≡ c.args.self.now.size = ap (λ (g : Grid). g.size) c.self.view_is in
    let whole = ap (λ (l : List Bool). length l) c.set.view_is ∙ c.requires.size in
    subst (λ (l : List Bool). JoinsSet c.args.self.now (grid_of m.size m.width new) c.args.row l) c.set.view_is
    (row-joined_with_set m.size m.width c.min-count.result s.size m.words.items new s.words.items c.args.self.now c.args.row c.self.view_is c.self.invariant c.requires.row (omega (arith, c.min-count.ensures)) whole
    (λ j p.
    let own = in_row m.size m.width j c.self.invariant.wide p in
    let its = in_row s.size (length s.words.items) j c.set.invariant (omega (arith, p, same, whole, set_size s.size s.words.items)) in
    omega (arith, own, its, c.min-count.ensures, c.len.ensures))
    (subst (λ (l : List ℕ). JoinsWords m.words.items new l (c.args.row * m.width) 0 c.min-count.result) c.deref.ensures.value c.join_others.ensures))
