use Rattle.std.proofs.Common.{◌-◌, ◌∙◌, List, ap, sym, subst, take, drop}
use Rattle.prog_paths.specs.declared.accesses.places.Placed.{Placed}
use Rattle.prog_paths.specs.Tally.{of_table}
use Rattle.prog_paths.specs.Changers.{AreByTable}
use Rattle.prog_paths.proofs.accesses.changers.Changers.of_table.Goals as goal

pub bounds-start-requires : goal.bounds-start-requires
bounds-start-requires c = subst (λ (l : List Placed). AreByTable l) (sym c.deref.ensures.value) c.self.invariant

pub returns : goal.returns
returns c =
    ap (λ (l : List Placed). take (c.bounds-start.result.1 - c.bounds-start.result.0) (drop c.bounds-start.result.0 l)) (c.deref-2.ensures.value ∙ sym c.deref.ensures.value)
    ∙ c.bounds-start.ensures.cut
    ∙ ap (of_table c.args.table) (c.deref.ensures.value ∙ c.self.view_is)
