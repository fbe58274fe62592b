use Rattle.std.proofs.Common.{◌∙◌, ◌++◌, map, ap}
use Rattle.prog_tree.specs.Tree.{program_tree}
use Rattle.prog_check.specs.Paths.{routes}
use Rattle.prog_paths.specs.Trails.{path_with, trail_of, along}
use Rattle.prog_paths.proofs.Listed.{listed}
use Rattle.prog_paths.proofs.path.listing.add_paths.Goals as goal

pub returns : goal.returns
returns c =
    let program = program_tree c.args.program.now in
    let tables = c.args.set.now.tables.items in
    c.in_ok-push_paths.ensures
    ∙ ap (λ ts. c.args.paths.now.items ++ map (path_with c.args.number) ts) (c.in_ok-trails.ensures ∙ (λ i. map (along tables (c.deref.ensures.value i) (trail_of (c.new.ensures i) (c.new-2.ensures i) 0)) (routes 0 program.body)))
    ∙ ap (λ l. c.args.paths.now.items ++ l) (listed tables program.params c.args.number (routes 0 program.body))
