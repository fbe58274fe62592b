use Rattle.std.proofs.Common.{◌≡◌, ◌∙◌, ◌++◌, ◌∷◌, [], Some, None, ap, length, refl, sym}
use Rattle.prog_text.specs.declared.lexing.words.Beginning.TheVariants as b
use Rattle.text_places.proofs.Begun.{next-ahead, next-statements}
use Rattle.text_places.proofs.set_text.statement_places.Goals.{in-Program+in_ok-push-in-Program, in-Statement+in_ok-push-in-Statement}
use Rattle.text_places.proofs.set_text.statement_places.Goals as goal

pub loop-place-preserved-in_default : goal.loop-place-preserved-in_default
loop-place-preserved-in_default c =
    let text = c.args.text.now in
    let place = c.loop-place.place in
    let so_far = c.loop-place.invariant in
    let is = sym c.in_default.is ∙ c.begun_at.ensures in record {
      statements = next-statements text place None _ _ is so_far.statements refl;
      ahead = next-ahead text place None _ _ _ is so_far.statements so_far.ahead refl;
    }

pub loop-place-preserved-in-Table : goal.loop-place-preserved-in-Table
loop-place-preserved-in-Table c =
    let text = c.args.text.now in
    let place = c.loop-place.place in
    let so_far = c.loop-place.invariant in
    let is = sym (c.in-Some.is ∙ ap Some c.in-Table.is) ∙ c.begun_at.ensures in record {
      statements = next-statements text place (Some b.Table) _ _ is so_far.statements refl;
      ahead = next-ahead text place (Some b.Table) _ _ _ is so_far.statements so_far.ahead refl;
    }

pub loop-place-preserved : goal.loop-place-preserved
loop-place-preserved c =
    let text = c.args.text.now in
    let place = c.loop-place.place in
    let so_far = c.loop-place.invariant in
    let numbers = c.loop-place.ahead.items in
    let many : c.loop-place.statements.len ≡ length c.loop-place.statements.items = c.loop-place.statements.ok.0 in
    elim c.match-beginning.branch [
      | in-Program+in_ok-push-in-Program w ↦
          let is = sym (c.in-Some.is ∙ ap Some w.in-Program.is) ∙ c.begun_at.ensures in
          let count = w.len.ensures ∙ many in record {
            statements = rw w.statements-is (next-statements text place (Some b.Program) _ _ is so_far.statements refl);
            ahead = rw w.ahead-is (next-ahead text place (Some b.Program) _ _ _ is so_far.statements so_far.ahead
                (w.in_ok-push-in-Program.ensures.items ∙ ap (λ n. numbers ++ n ∷ []) count));
          }
      | in-Statement+in_ok-push-in-Statement w ↦
          let is = sym (c.in-Some.is ∙ ap Some w.in-Statement.is) ∙ c.begun_at.ensures in record {
            statements = rw w.statements-is (next-statements text place (Some b.Statement) _ _ is so_far.statements w.in_ok-push-in-Statement.ensures.items);
            ahead = rw w.ahead-is (next-ahead text place (Some b.Statement) _ _ _ is so_far.statements so_far.ahead refl);
          }
    ]
