use Rattle.std.proofs.Common.{◌≡◌, [], ap, sym, ◌∙◌}
use Rattle.std.specs.Prelude.{Some}
use Rattle.prog_tree.specs.declared.look.Look.TheVariants as look
use Rattle.prog_run.specs.Looks.{last_look}
use Rattle.prog_run.proofs.AgainLaws.{held_again, same_look}
use Rattle.prog_run.proofs.region.found_last.Goals as goal

pub returns-in-Range-clause-last : goal.returns-in-Range-clause-last
returns-in-Range-clause-last c =
    let range = c.in-Range in
    let last : last_look c.args.looks.now ≡ Some (look.Range range.looked range.own range.rows) =
    sym c.in_ok-last.ensures.value ∙ ap (λ l. Some l) range.is in
    let none : range.own ≡ [] = c.is_empty.ensures.0 c.if-is_empty.true in
    same_look c.args.looks.now range.looked c.args.region.now range.own range.rows last none (c.is_same.ensures.0 c.if-is_same.true)

pub returns-in-Range-clause-held : goal.returns-in-Range-clause-held
returns-in-Range-clause-held c =
    let range = c.in-Range in
    let last : last_look c.args.looks.now ≡ Some (look.Range range.looked range.own range.rows) =
    sym c.in_ok-last.ensures.value ∙ ap (λ l. Some l) range.is in
    let none : range.own ≡ [] = c.is_empty.ensures.0 c.if-is_empty.true in
    held_again c.args.looks.now c.args.region.now range.rows
    (same_look c.args.looks.now range.looked c.args.region.now range.own range.rows last none (c.is_same.ensures.0 c.if-is_same.true))
