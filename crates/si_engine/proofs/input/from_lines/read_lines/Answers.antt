use Rattle.std.proofs.Common.{◌≡◌, ◌+◌, ◌++◌, ◌∷◌, [], ◌<◌, length, ◌∙◌, ap, arith}
use Rattle.std.proofs.lemmas.Grind.{common_steps}
use Rattle.std.proofs.lemmas.Result.{err_from_is_err_and}
use Rattle.std.specs.Str.Lines.{strip_carriage_return}
use Rattle.prog_tree.specs.Tree.{draft_tree}
use Rattle.si_engine.specs.Sayings.{all_sayings}
use Rattle.si_engine.proofs.SayingLemmas.{fails_on, all_said, made, line_fails, said_fails, said_stands, stands}
use Rattle.si_engine.proofs.input.from_lines.read_lines.Goals as goal

pub returns : goal.returns
returns g c =
    let inv = c.loop-rest.invariant in
    let say = g.W.FromLines.says (draft_tree c.args.set.now) in
    let wrong = g.W.FromLines.wrong in
    let all = all_sayings say wrong c.args.part.now in
    let none : length c.loop-rest.rest.now ≡ 0 = grind (arith, common_steps) in
    made g.W.FromLines.whole all inv.before c.loop-rest.whole (all_said say wrong (c.loop-rest.line + 1) inv.before c.loop-rest.rest.now all inv.same none) inv.made

pub returns-in_err-said : goal.returns-in_err-said
returns-in_err-said g c =
    let all = all_sayings (g.W.FromLines.says (draft_tree c.args.set.now)) g.W.FromLines.wrong c.args.part.now in
    let some : 0 < length c.loop-rest.rest.now = grind (arith, common_steps) in
    let p = err_from_is_err_and c.from_residual.result c.from_residual.ensures.1 in
    let here = stands c.loop-rest.invariant.same some (c.without_return.ensures ∙ ap strip_carriage_return c.cut.ensures.first) in
    rw (p.1, p.2) (fails_on all _ c.in_err-said.field-0.0 (line_fails _ _ _ _ _ _ _ here c.in_err-said.field-0.0 c.in_err-said.ensures))

pub returns-in_err-add : goal.returns-in_err-add
returns-in_err-add g c =
    let inv = c.loop-rest.invariant in
    let all = all_sayings (g.W.FromLines.says (draft_tree c.args.set.now)) g.W.FromLines.wrong c.args.part.now in
    let some : 0 < length c.loop-rest.rest.now = grind (arith, common_steps) in
    let p = err_from_is_err_and c.from_residual-in_err-add.result c.from_residual-in_err-add.ensures.1 in
    let here = stands inv.same some (c.without_return.ensures ∙ ap strip_carriage_return c.cut.ensures.first) in
    rw (p.1, p.2)
    (fails_on all _ c.in_err-add.field-0.0 (said_fails _ _ _ _ _ _ _ here c.in_ok-said.said c.in_err-add.field-0.0 c.in_ok-said.ensures (c.in_err-add.ensures.fault inv.before inv.made)))

pub loop-rest-preserved : goal.loop-rest-preserved
loop-rest-preserved g c =
    let inv = c.loop-rest.invariant in
    let said = c.in_ok-said.said in
    let grows = c.in_ok-add.ensures.grows inv.before inv.made in
    let some : 0 < length c.loop-rest.rest.now = grind (arith, common_steps) in
    let here = stands inv.same some (c.without_return.ensures ∙ ap strip_carriage_return c.cut.ensures.first) in
    record {
      before = inv.before ++ said ∷ [];
      made = grows.1;
      same = said_stands _ _ _ _ _ _ _ here said c.cut.result.1.now c.in_ok-said.ensures grows.0 c.cut.ensures.rest;
      counted = omega (arith, c.cut.ensures.shorter some, inv.counted);
    }
