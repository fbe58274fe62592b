use Rattle.std.proofs.Common.{◌-◌, ◌≡◌, ◌≤◌, ℕ, List, true, length, subst, ap, ◌∙◌, sym}
use Rattle.std.proofs.lemmas.Result.{err_from_is_err_and}
use Rattle.serial_orders.specs.Orders.{is_one_of}
use Rattle.serial_orders.specs.Precedence.{behind, precedes, HasCommitsAlone}
use Rattle.serial_orders.proofs.NumberLists.{one-get}
use Rattle.serial_orders.proofs.PrecedenceLaws.{behind-items, kept, added, within-kept, within-added, told-twice}
use Rattle.serial_orders.proofs.precedence.Precedence.add.Goals as goal

pub invariant_of-self : goal.invariant_of-self
invariant_of-self c =
    let within = subst (λ (w : List (List ℕ)). HasCommitsAlone w) c.self.view_is c.self.invariant in
    within-added c.self.inside.after.items c.args.self.now c.self.view_is c.args.first c.args.second c.requires.first c.requires.first_within c.index_mut.result.now c.push.new.self c.index_mut.ensures.value c.in_ok-push.ensures.items c.requires.second c.requires.second_within within

pub invariant_of-self-in_err-push : goal.invariant_of-self-in_err-push
invariant_of-self-in_err-push c =
    let within = subst (λ (w : List (List ℕ)). HasCommitsAlone w) c.self.view_is c.self.invariant in
    within-kept c.self.inside.after.items c.args.self.now c.self.view_is c.args.first c.args.second c.requires.first c.requires.first_within c.index_mut.result.now c.push.new.self c.index_mut.ensures.value c.in_err-push.ensures.items within

pub returns-in_err-push-clause-err : goal.returns-in_err-push-clause-err
returns-in_err-push-clause-err c =
    let same = kept c.self.inside.after.items c.args.self.now c.self.view_is c.args.first c.args.second c.requires.first c.requires.first_within c.index_mut.result.now c.push.new.self c.index_mut.ensures.value c.in_err-push.ensures.items in
    let p = err_from_is_err_and c.from_residual.result c.from_residual.ensures.1 in
    rw p.1 same

pub returns-in_ok-push-clause-ok : goal.returns-in_ok-push-clause-ok
returns-in_ok-push-clause-ok c =
    added c.self.inside.after.items c.args.self.now c.self.view_is c.args.first c.args.second c.requires.first c.requires.first_within c.index_mut.result.now c.push.new.self c.index_mut.ensures.value c.in_ok-push.ensures.items

pub returns-else-not-ends_with-clause-ok : goal.returns-else-not-ends_with-clause-ok
returns-else-not-ends_with-clause-ok c =
    let high = subst (λ (w : List (List ℕ)). c.args.first ≤ length w) (sym c.self.view_is) c.requires.first_within in
    let numbers =
    c.deref.ensures.value ∙ behind-items c.self.inside.after.items c.args.first c.index.result.now c.requires.first high c.index.ensures
    ∙ ap (λ (w : List (List ℕ)). behind w c.args.first) c.self.view_is in
    let before : precedes c.args.self.now c.args.first c.args.second ≡ true =
    ap (λ (w : List ℕ). is_one_of w c.args.second) (sym numbers) ∙ one-get c.deref.result.now (length c.deref.result.now - 1) c.args.second (c.ends_with.ensures.0 c.if-not-ends_with.false) in
    told-twice c.args.self.now c.args.first c.args.second before
