use Rattle.std.proofs.Common.{◌<◌, ◌∙◌, ap, sym, subst, length, map, get_or}
use Rattle.std.specs.Prelude.{IfSome, unwrap_or}
use Rattle.prog_tree.specs.Numbering.{number_of}
use Rattle.prog_check.specs.Names.{place_among}
use Rattle.prog_check.specs.Tables.{grows}
use Rattle.prog_paths.proofs.TableNumbers.{grows_at, none_declared}
use Rattle.prog_paths.proofs.path.kinds.table_at.Goals as goal

pub returns-in-Some-clause-grow : goal.returns-in-Some-clause-grow
returns-in-Some-clause-grow c =
    let tables = c.args.set.now.tables.items in
    let x = c.args.name.now in
    let n = c.in-Some.number in
    let d = c.index-tables-number.result in
    ap (λ t. t.grow) (sym c.index-tables-number.is)
    ∙ grows_at tables x n d
    (sym c.in-Some.is ∙ c.table_number.ensures.place ∙ ap (λ y. place_among (map (λ t. t.name) tables) y) c.as_str.ensures)
    (subst (λ r. IfSome r (λ i. i < length tables)) c.in-Some.is c.table_number.ensures.within)
    (c.index-tables-number.is ∙ ap (λ ts. get_or ts n d) (c.as_slice-tables.ensures.value ∙ ap (λ s. s.tables.items) c.draft.ensures.same))

pub returns-in-None-clause-number : goal.returns-in-None-clause-number
returns-in-None-clause-number c =
    let tables = c.args.set.now.tables.items in
    ap length (c.as_slice-tables.ensures.value ∙ ap (λ s. s.tables.items) c.draft.ensures.same)
    ∙ ap (λ place. unwrap_or place (length tables)) (sym c.in-None.is)
    ∙ c.table_number.ensures.number
    ∙ ap (number_of tables) c.as_str.ensures

pub returns-in-None-clause-grow : goal.returns-in-None-clause-grow
returns-in-None-clause-grow c =
    let tables = c.args.set.now.tables.items in
    ap grows (none_declared tables c.args.name.now (sym c.in-None.is ∙ c.table_number.ensures.place ∙ ap (λ y. place_among (map (λ t. t.name) tables) y) c.as_str.ensures))
