use Rattle.std.proofs.Common.{◌∙◌, ℕ, ◌<◌, length, get_or, subst, vec_len, vec_capacity, ap, sym, arith}
use Rattle.std.proofs.lemmas.List.{get_or_read}
use Rattle.conflict_pairs.specs.declared.listing.Listed.{Listed}
use Rattle.conflict_pairs.specs.Pairing.{no_place}
use Rattle.conflict_pairs.proofs.Entered.{adds-no, adds-yes}
use Rattle.conflict_pairs.proofs.listing.push_questions.Goals as goal
use Rattle.conflict_pairs.proofs.listing.push_questions.Goals.{then-asks, else-asks}

pub index-class-requires : goal.index-class-requires
index-class-requires c =
    let its = c.requires.classes c.number_of-other.result c.number_of-other.ensures.within in
    omega (arith, its.number_within, c.args.classes.now.numbers.ok.0)

pub new-requires-clause-second_fits : goal.new-requires-clause-second_fits
new-requires-clause-second_fits c = omega (arith, c.number_of-other.ensures.within, c.requires.few)

pub number_at-requires : goal.number_at-requires
number_at-requires c =
    let classes = c.args.classes.now in
    let n = c.number_of-other.result in
    let its = c.requires.classes n c.number_of-other.ensures.within in
    let class_is = get_or_read classes.numbers.items n c.index-class.result.now its.number_within c.index-class.ensures 0 in
    subst (λ (z : ℕ). z < length c.args.answers.now) (sym class_is) its.class_within

pub loop-second-preserved : goal.loop-second-preserved
loop-second-preserved c =
    let classes = c.args.classes.now in
    let places = classes.places.items in
    let answers = c.args.answers.now in
    let m = c.args.number in
    let i = c.loop-second.second-index in
    let mid = c.loop-second.listed in
    let new = c.if-asks.listed in
    let from = get_or_read places m c.index-first.result.now c.requires.number c.index-first.ensures no_place in
    elim c.if-asks.branch [
      | then-asks w ↦
          let n = w.number_of-other.result in
          let there = w.number_of-other.ensures.within in
          let class_is = get_or_read classes.numbers.items n w.index-class.result.now (c.requires.classes n there).number_within w.index-class.ensures 0 in
          let pairs_longer = ap (λ (l : Listed). vec_len l.pairs) w.listed-is ∙ w.push_reserved.ensures.len in
          let pairs_as_wide = ap (λ (l : Listed). vec_capacity l.pairs) w.listed-is ∙ w.push_reserved.ensures.capacity in
          let numbers_longer = ap (λ (l : Listed). vec_len l.numbers) w.listed-is ∙ w.push_reserved-then-asks.ensures.len in
          let numbers_as_wide = ap (λ (l : Listed). vec_capacity l.numbers) w.listed-is ∙ w.push_reserved-then-asks.ensures.capacity in
          record {
            added =
                adds-yes classes m answers c.args.listed.now mid new i c.args.seconds.now _ c.loop-second-test.true c.loop-second.invariant.added c.index-first.result.now from w.new.result n w.number_at.result (sym c.asks.ensures ∙ w.if-asks.true)
                (ap (λ (l : Listed). l.pairs.items) w.listed-is ∙ w.push_reserved.ensures.items)
                (ap (λ (l : Listed). l.numbers.items) w.listed-is ∙ w.push_reserved-then-asks.ensures.items)
                w.new.ensures.first w.new.ensures.second c.requires.number there
                w.number_of-other.ensures.is
                (w.number_at.ensures ∙ ap (λ (z : ℕ). get_or answers z 0) class_is);
            room_of_pairs = omega (arith, c.loop-second.invariant.room_of_pairs, pairs_longer, pairs_as_wide);
            room_of_numbers = omega (arith, c.loop-second.invariant.room_of_numbers, numbers_longer, numbers_as_wide);
          }
      | else-asks w ↦ record {
        added = adds-no classes m answers c.args.listed.now mid new i c.args.seconds.now _ c.loop-second-test.true c.loop-second.invariant.added c.index-first.result.now from (sym c.asks.ensures ∙ w.if-asks.false) w.listed-is;
        room_of_pairs = omega (arith, ap (λ (l : Listed). vec_len l.pairs) w.listed-is, ap (λ (l : Listed). vec_capacity l.pairs) w.listed-is, c.loop-second.invariant.room_of_pairs);
        room_of_numbers = omega (arith, ap (λ (l : Listed). vec_len l.numbers) w.listed-is, ap (λ (l : Listed). vec_capacity l.numbers) w.listed-is, c.loop-second.invariant.room_of_numbers);
      }
    ]
