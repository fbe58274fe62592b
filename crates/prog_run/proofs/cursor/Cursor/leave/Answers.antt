use Rattle.std.proofs.Common.{◌≡◌, [], map, arith, ap, sym, refl, ◌∙◌}
use Rattle.std.specs.Prelude.{option_map}
use Rattle.std.proofs.lemmas.Grind.{common_steps}
use Rattle.std.proofs.lemmas.List.{map-append}
use Rattle.prog_tree.specs.Tree.{stmts_tree}
use Rattle.prog_tree.proofs.Outcomes.{on_any_err}
use Rattle.prog_run.specs.Todo.{named}
use Rattle.prog_run.specs.Cursor.{open_tree, cursor_tree, turn_tree}
use Rattle.prog_run.proofs.TodoLemmas.{turn_moves, turn_waits, block_moves, block_over}
use Rattle.prog_run.proofs.cursor.Cursor.leave.Goals as goal

pub returns-in_err-note_turn-clause-err : goal.returns-in_err-note_turn-clause-err
returns-in_err-note_turn-clause-err c =
    let p = c.args.progress.now in
    let old = cursor_tree c.args.self.now in
    on_any_err c.from_residual.result
    (turn_waits old old p c.note_turn.new.progress (ap stmts_tree c.requires) refl (c.in_err-note_turn.ensures.err ∙ (λ i. record p { env = c.cut.ensures i }))).0

pub returns-in_err-note_turn-clause-err_store : goal.returns-in_err-note_turn-clause-err_store
returns-in_err-note_turn-clause-err_store c =
    let p = c.args.progress.now in
    let old = cursor_tree c.args.self.now in
    on_any_err c.from_residual.result
    (turn_waits old old p c.note_turn.new.progress (ap stmts_tree c.requires) refl (c.in_err-note_turn.ensures.err ∙ (λ i. record p { env = c.cut.ensures i }))).1

pub returns-in-Some-clause-step : goal.returns-in-Some-clause-step
returns-in-Some-clause-step c =
    let p = c.args.progress.now in
    let old = cursor_tree c.args.self.now in
    let turn = c.in-Some.turn in
    let next = sym c.next_turn.ensures ∙ ap (option_map turn_tree) c.in-Some.is in
    turn_moves (named turn.names.key.now turn.names.value.now) (turn.key, turn.value) c.len-names.result old _ p (record p { env = c.cut.new.self }) c.note_turn.new.progress (ap stmts_tree c.requires) next
    (λ i. record p { env = c.cut.ensures i }) c.len-names.ensures c.in_ok-note_turn.ensures.ok (λ i. record old { here = c.begin_turn.ensures i })

pub returns-in_default-pop-clause-step : goal.returns-in_default-pop-clause-step
returns-in_default-pop-clause-step c =
    let p = c.args.progress.now in
    let old = cursor_tree c.args.self.now in
    let none = sym c.next_turn.ensures ∙ ap (option_map turn_tree) c.in_default.is in
    let empty : c.args.self.now.outer.items ≡ [] = grind (arith, common_steps, c.in_default-pop.ensures.cases) in
    block_over old old p (record p { env = c.cut.new.self }) (ap stmts_tree c.requires) none (ap (map open_tree) empty) (λ i. record p { env = c.cut.ensures i })

pub returns-clause-step : goal.returns-clause-step
returns-clause-step c =
    let p = c.args.progress.now in
    let old = cursor_tree c.args.self.now in
    let none = sym c.next_turn.ensures ∙ ap (option_map turn_tree) c.in_default.is in
    let outer = c.pop.new.self.items in
    let was = ap (map open_tree) c.in-Some-pop.ensures.items ∙ map-append open_tree outer _ in
    block_moves (map open_tree outer) (open_tree c.in-Some-pop.outer) old p (record p { env = c.cut.new.self }) (ap stmts_tree c.requires) none was (λ i. record p { env = c.cut.ensures i })
