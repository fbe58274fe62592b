use Rattle.std.proofs.Common.{List, sym, subst}
use Rattle.std.proofs.lemmas.Bool.{both_ways}
use Rattle.si_repair.specs.declared.plans.closing.ProgramTriple.{ProgramTriple}
use Rattle.si_repair.specs.Planning.{IsOpenAtTurn, AreWithout}
use Rattle.si_repair.proofs.Turns.{turn-left, turn-put}
use Rattle.si_repair.proofs.plans.choosing.take_turn.Goals as goal

pub returns-then-not-is_open_at : goal.returns-then-not-is_open_at
returns-then-not-is_open_at c nodes is =
    turn-left nodes c.args.partial.plan.items c.args.partial.left.items c.args.turn is
    (λ h. both_ways c.is_open_at.result c.if-not-is_open_at.true (c.is_open_at.ensures.1 (subst (λ (ts : List ProgramTriple). IsOpenAtTurn ts c.args.turn) (sym c.deref.ensures.value) h)))

pub returns : goal.returns
returns c nodes is =
    let left = c.args.partial.left.items in
    let rest = c.in_ok-left.left.items in
    rw c.in_ok-push.ensures.items
    (turn-put nodes c.args.partial.plan.items left c.args.turn is rest
    (subst (λ (ts : List ProgramTriple). IsOpenAtTurn ts c.args.turn) c.deref.ensures.value (c.is_open_at.ensures.0 c.if-not-is_open_at.false))
    (subst (λ (ts : List ProgramTriple). AreWithout ts c.args.turn rest) c.deref-2.ensures.value c.in_ok-left.ensures))
