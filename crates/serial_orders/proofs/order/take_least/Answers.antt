use Rattle.std.proofs.Common.{◌≡◌, [], ◌∙◌, length, ap, subst, sym, arith}
use Rattle.std.proofs.lemmas.Option.{IfSome_then}
use Rattle.serial_orders.specs.Placing.{free_from, all_free, AreBelow}
use Rattle.serial_orders.proofs.FreeLaws.{passed-first, passed-low, passed-left, next-first, no-numbers}
use Rattle.serial_orders.proofs.NumberLists.{none-left}
use Rattle.serial_orders.proofs.order.take_least.Goals as goal
use Rattle.prog_tree.proofs.Outcomes.{none_then}

pub returns-in-Some-clause-within : goal.returns-in-Some-clause-within
returns-in-Some-clause-within c =
    let low = passed-low c.args.passed.now.keys c.pop_first.new.self.keys c.args.next c.in-Some.number c.in-Some.ensures.removal c.requires.passed in
    omega arith

pub returns-in-Some-clause-least : goal.returns-in-Some-clause-least
returns-in-Some-clause-least c =
    passed-first c.args.passed.now.keys c.pop_first.new.self.keys c.args.waits.now c.args.next c.in-Some.number c.in-Some.ensures.removal c.in-Some.ensures.all_above c.requires.passed

pub returns-in-Some-clause-passed : goal.returns-in-Some-clause-passed
returns-in-Some-clause-passed c =
    passed-left c.args.passed.now.keys c.pop_first.new.self.keys c.args.next c.in-Some.number c.in-Some.ensures.removal c.requires.passed

pub returns-in-None-clause-within : goal.returns-in-None-clause-within
returns-in-None-clause-within c = IfSome_then c.next_free.result c.next_free.ensures.some (λ n is. is.within)

pub returns-in-None-clause-least : goal.returns-in-None-clause-least
returns-in-None-clause-least c =
    let none = no-numbers c.args.passed.now.keys (none-left (length c.args.passed.now.keys) c.in-None.ensures.variant.1) in
    IfSome_then c.next_free.result c.next_free.ensures.some
    (λ n is. next-first c.args.passed.now.keys c.pop_first.new.self.keys c.args.waits.now c.args.next n none (c.in-None.ensures.unchanged ∙ none) is)

pub returns-in-None-clause-none : goal.returns-in-None-clause-none
returns-in-None-clause-none c =
    let none = no-numbers c.args.passed.now.keys (none-left (length c.args.passed.now.keys) c.in-None.ensures.variant.1) in
    none_then c.next_free.result (free_from c.args.waits.now c.args.next ≡ []) (all_free c.args.passed.now.keys c.args.waits.now c.args.next ≡ [])
    (λ e. ap (λ ns. all_free ns c.args.waits.now c.args.next) none ∙ e)
    c.next_free.ensures.none

pub returns-in-None-clause-passed : goal.returns-in-None-clause-passed
returns-in-None-clause-passed c = subst (AreBelow c.args.next) (sym c.in-None.ensures.unchanged) c.requires.passed
