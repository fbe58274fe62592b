use Rattle.std.proofs.Common.{ℕ, List, [], ◌∷◌, ◌++◌, ap, sym, subst, ◌∙◌}
use Rattle.std.specs.Prelude.{All}
use Rattle.prog_tree.specs.declared.program.Draft.{Draft}
use Rattle.prog_tree.specs.Tree.{draft_tree}
use Rattle.prog_check.specs.declared.path.Path.{Path}
use Rattle.prog_check.specs.Paths.{paths_of}
use Rattle.prog_paths.specs.Questions.{ChangesSingleCells}
use Rattle.prog_paths.proofs.SingleCells.{law_of_single_changes}
use Rattle.repair_laws.specs.declared.plan.NewTable.{NewTable}
use Rattle.repair_laws.specs.Keys.{IsKeyOf}
use Rattle.repair_laws.specs.Materialised.{params_of, AreNewTables, IsLeastFree}
use Rattle.si_repair.specs.Names.{taken_names}
use Rattle.si_repair.proofs.NewTables.{met_more}
use Rattle.si_repair.proofs.repairs.materialise.push_new_table.Goals as goal

pub key_of-requires : goal.key_of-requires
key_of-requires c = subst (λ (l : List Path). All ChangesSingleCells l) (sym c.requires) (law_of_single_changes (draft_tree c.args.set.now))

pub returns : goal.returns
returns c earlier met =
    let draft = draft_tree c.args.set.now in
    let pair = c.args.pair in
    let key = c.in_ok-key.key in
    let made = c.args.made.now.items in
    let m : NewTable = record { pair = pair; table = c.in_ok-table.table; key = key } in
    let firsts = c.params_of-first_count.ensures ∙ ap (λ (d : Draft). params_of (draft_tree d) pair.from) c.draft.ensures.same in
    let seconds = c.params_of-second_count.ensures ∙ ap (λ (d : Draft). params_of (draft_tree d) pair.to) c.draft-2.ensures.same in
    let by_paths = subst (λ (l : List Path). IsKeyOf l pair c.params_of-first_count.result c.params_of-second_count.result key) c.requires c.in_ok-key.ensures in
    let by_firsts = subst (λ (n : ℕ). IsKeyOf (paths_of draft) pair n c.params_of-second_count.result key) firsts by_paths in
    let own = subst (λ (n : ℕ). IsKeyOf (paths_of draft) pair (params_of draft pair.from) n key) seconds by_firsts in
    let free = subst (λ (l : List NewTable). IsLeastFree (taken_names draft l) m.table) c.deref.ensures.value c.in_ok-table.ensures in
    subst (λ (l : List NewTable). AreNewTables draft (earlier ++ pair ∷ []) l) (sym c.in_ok-push.ensures.items) (met_more draft earlier made m met free own)
