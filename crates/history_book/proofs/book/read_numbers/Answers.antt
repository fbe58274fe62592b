use Rattle.std.proofs.Common.{◌≡◌, length, take, subst, ap, ◌∙◌, arith}
use Rattle.std.specs.Prelude.{All}
use Rattle.std.proofs.Math.Seq.{take-length}
use Rattle.std.proofs.lemmas.List.Elements.{All-more}
use Rattle.prog_tree.specs.Number.{IsI64}
use Rattle.history_book.proofs.book.read_numbers.Goals as goal

pub loop-number-preserved : goal.loop-number-preserved
loop-number-preserved c =
    All-more IsI64 c.args.numbers.now c.loop-number.number-index _ c.loop-number-test.true c.loop-number.invariant c.read_number.ensures

pub returns : goal.returns
returns c =
    let numbers = c.args.numbers.now in
    let all : c.loop-number.number-index ≡ length numbers = omega arith in
    subst (All IsI64) (ap (λ n. take n numbers) all ∙ take-length numbers) c.loop-number.invariant
