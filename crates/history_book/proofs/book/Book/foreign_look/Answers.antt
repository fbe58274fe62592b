use Rattle.std.proofs.Common.{◌≡◌, length, take, subst, ap, ◌∙◌, arith}
use Rattle.std.proofs.Math.Seq.{take-length}
use Rattle.prog_run.specs.Looks.{AreFound}
use Rattle.history_book.specs.View.{state_in}
use Rattle.history_book.proofs.FoundLaws.{found_one_more, first_foreign}
use Rattle.history_book.proofs.book.Book.foreign_look.Goals as goal

pub returns-then-not-is_found_next : goal.returns-then-not-is_found_next
returns-then-not-is_found_next c =
    first_foreign (state_in c.args.self.now c.args.start) c.args.looks.now c.loop-number.number c.index-looks-number.result c.is_found_next.result
    (omega arith) c.index-looks-number.is c.loop-number.invariant c.is_found_next.ensures c.if-not-is_found_next.true

pub loop-number-preserved : goal.loop-number-preserved
loop-number-preserved c =
    found_one_more (state_in c.args.self.now c.args.start) c.args.looks.now c.loop-number.number c.index-looks-number.result
    (omega arith) c.index-looks-number.is c.loop-number.invariant (c.is_found_next.ensures.0 c.if-not-is_found_next.false)

pub returns : goal.returns
returns c =
    let looks = c.args.looks.now in
    let all : c.loop-number.number ≡ length looks = omega arith in
    subst (AreFound (state_in c.args.self.now c.args.start)) (ap (λ n. take n looks) all ∙ take-length looks) c.loop-number.invariant
