use Rattle.std.proofs.Common.{ℕ, length, subst, sym}
use Rattle.std.specs.Prelude.{IfSome, Option}
use Rattle.serial_orders.specs.Orders.{IsUpTo}
use Rattle.serial_orders.proofs.WriterLaws.{seen_holds, missed_holds}
use Rattle.serial_orders.proofs.reduced.add_reader.Goals as goal

pub add_seen-requires-clause-writer : goal.add_seen-requires-clause-writer
add_seen-requires-clause-writer c =
    let P : ℕ → Type 0 = IsUpTo (length c.args.precedence.now) in
    subst (λ (o : Option ℕ). IfSome o P) (sym (c.last_seen.ensures c.args.start c.count_seen-seen.ensures.cut)) (seen_holds P c.args.start c.args.writers.now c.requires.within)

pub add_missed-requires-clause-writer : goal.add_missed-requires-clause-writer
add_missed-requires-clause-writer c =
    let P : ℕ → ℕ → Type 0 = λ n. IsUpTo n in
    let here = missed_holds (P (length c.args.precedence.now)) c.args.start c.args.writers.now c.requires.within in
    subst (λ (n : ℕ). IfSome c.first_missed.result (P n)) (sym c.in_ok-add_seen.ensures.commits)
    (subst (λ (o : Option ℕ). IfSome o (P (length c.args.precedence.now))) (sym (c.first_missed.ensures c.args.start c.count_seen-seen.ensures.cut)) here)
