use Rattle.std.proofs.Common.{◌≡◌, ap, arith}
use Rattle.order_facts.specs.Square.{Grid}
use Rattle.order_facts.proofs.WordRows.{row_inside, rows_apart, row_joined}
use Rattle.order_facts.proofs.square.Square.join_row.Goals as goal

pub join_words-requires-clause-into : goal.join_words-requires-clause-into
join_words-requires-clause-into c =
    let m = c.self.inside in
    let same : m.size ≡ c.args.self.now.size = ap (λ (g : Grid). g.size) c.self.view_is in
    row_inside m.size m.width c.args.row m.words.items c.self.invariant (omega (arith, same, c.requires.row))

pub join_words-requires-clause-from : goal.join_words-requires-clause-from
join_words-requires-clause-from c =
    let m = c.self.inside in
    let same : m.size ≡ c.args.self.now.size = ap (λ (g : Grid). g.size) c.self.view_is in
    row_inside m.size m.width c.args.through m.words.items c.self.invariant (omega (arith, same, c.requires.through))

pub join_words-requires-clause-apart : goal.join_words-requires-clause-apart
join_words-requires-clause-apart c = rows_apart c.args.row c.args.through c.self.inside.width

pub returns : goal.returns
returns c =
    let m = c.self.inside in
    row_joined m.size m.width m.words.items c.join_words.new.words.items c.args.self.now c.args.row c.args.through c.self.view_is c.self.invariant c.requires.row c.requires.through c.join_words.ensures
