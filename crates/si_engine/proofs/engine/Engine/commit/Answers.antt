use Rattle.std.proofs.Common.{refl, arith}
use Rattle.std.proofs.lemmas.Bool.{not-true, not-false}
use Rattle.si_engine.proofs.CommitLaws.{engine-committed, commit_applies, engine-back, commit_early, commit_lacks}
use Rattle.si_engine.proofs.EngineLaws.{applied, is_active, still_within}
use Rattle.si_engine.proofs.engine.Engine.commit.Goals as goal

pub invariant_of-self-then-not-active : goal.invariant_of-self-then-not-active
invariant_of-self-then-not-active c =
    let e = c.self.inside in
    engine-back e.book e.begun.items c.self.invariant c.args.number c.in-Ok.active c.in-Ok.ensures.found _ c.in-Ok.ensures.taken e.book c.in-Ok.active refl refl

pub returns-then-not-active : goal.returns-then-not-active
returns-then-not-active c =
    let e = c.self.inside in
    applied c.self.view_is
    (commit_early e.book e.begun.items c.self.invariant c.args.number c.in-Ok.active c.in-Ok.ensures.found _ c.in-Ok.ensures.taken
    (not-true c.in-Ok.active.ready c.if-not-active.true))

pub commit-requires-clause-active : goal.commit-requires-clause-active
commit-requires-clause-active c =
    let e = c.self.inside in
    is_active e.book e.begun.items c.self.invariant c.args.number c.in-Ok.active c.in-Ok.ensures.found

pub commit-requires-clause-ready : goal.commit-requires-clause-ready
commit-requires-clause-ready c =
    (c.self.invariant.held c.args.number c.in-Ok.active c.in-Ok.ensures.found).ready (not-false c.in-Ok.active.ready c.if-not-active.false)

pub invariant_of-self-in-Ok-commit : goal.invariant_of-self-in-Ok-commit
invariant_of-self-in-Ok-commit c =
    let e = c.self.inside in
    engine-committed e.book e.begun.items c.self.invariant c.args.number c.in-Ok.active c.in-Ok.ensures.found _ c.in-Ok.ensures.taken
    c.commit.new.book c.in-Ok-commit.reply c.in-Ok-commit.ensures.ok

pub returns-in-Ok-commit : goal.returns-in-Ok-commit
returns-in-Ok-commit c =
    let e = c.self.inside in
    applied c.self.view_is
    (commit_applies e.book e.begun.items c.self.invariant c.args.number c.in-Ok.active c.in-Ok.ensures.found _ c.in-Ok.ensures.taken
    c.commit.new.book c.in-Ok-commit.reply (not-false c.in-Ok.active.ready c.if-not-active.false) c.in-Ok-commit.ensures.ok)

pub index_mut-requires-in-Err-commit : goal.index_mut-requires-in-Err-commit
index_mut-requires-in-Err-commit c =
    let e = c.self.inside in
    let within = still_within e.book e.begun.items c.self.invariant c.args.number c.in-Ok.active c.in-Ok.ensures.found _ c.in-Ok.ensures.taken in
    omega (arith, within, c.take_active.new.begun.ok.0)

pub invariant_of-self-in-Err-commit : goal.invariant_of-self-in-Err-commit
invariant_of-self-in-Err-commit c =
    let e = c.self.inside in
    engine-back e.book e.begun.items c.self.invariant c.args.number c.in-Ok.active c.in-Ok.ensures.found _ c.in-Ok.ensures.taken
    c.commit.new.book c.in-Err-commit.back c.in-Err-commit.ensures.err_book c.in-Err-commit.ensures.err

pub returns-in-Err-commit : goal.returns-in-Err-commit
returns-in-Err-commit c =
    let e = c.self.inside in
    applied c.self.view_is
    (commit_lacks e.book e.begun.items c.self.invariant c.args.number c.in-Ok.active c.in-Ok.ensures.found _ c.in-Ok.ensures.taken
    c.commit.new.book c.in-Err-commit.back _ (not-false c.in-Ok.active.ready c.if-not-active.false) c.in-Err-commit.ensures.err_book c.in-Err-commit.ensures.err)
