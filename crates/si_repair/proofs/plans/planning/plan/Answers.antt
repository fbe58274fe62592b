use Rattle.std.proofs.Common.{◌≡◌, List, length, sym, subst, ap, ◌∙◌, arith}
use Rattle.std.proofs.lemmas.List.{length-map}
use Rattle.prog_tree.specs.declared.program.Draft.{Draft}
use Rattle.prog_tree.specs.Tree.{draft_tree, program_tree}
use Rattle.prog_check.specs.Paths.{paths_of}
use Rattle.repair_laws.specs.declared.plan.Pair.{Pair}
use Rattle.repair_laws.specs.Plans.{IsPlan}
use Rattle.repair_laws.proofs.PlanLaws.{law_of_plans}
use Rattle.si_repair.proofs.Analysing.{all_single}
use Rattle.si_repair.proofs.Turns.{in_range, planned}
use Rattle.si_repair.proofs.plans.planning.plan.Goals as goal

pub class_table-requires : goal.class_table-requires
class_table-requires c = record {
  single = all_single _ _ c.deref.ensures.value c.in_ok-paths.ensures.single;
}

is_plan : (c : goal.After-drop-paths-2) → IsPlan (paths_of (draft_tree c.args.set.now)) c.from_vec.result
is_plan c =
    let draft = draft_tree c.args.set.now in
    let programs = c.draft.result.now.programs in
    let as_many : length programs.items ≡ length draft.programs = ap (λ (d : Draft). length d.programs.items) c.draft.ensures.same ∙ sym (length-map c.args.set.now.programs.items program_tree) in
    let count : c.len-programs.result ≡ length draft.programs = omega (arith, c.len-programs.ensures, programs.ok.0, as_many) in
    subst (λ (plan : List Pair). IsPlan (paths_of draft) plan) (sym c.from_vec.ensures) (planned draft c.deref-2.result.now c.len-programs.result c.in_ok-triples.triples.items c.in_ok-chosen.chosen.items (c.deref-2.ensures.value ∙ c.in_ok-paths.ensures.exact) count c.in_ok-triples.ensures c.in_ok-chosen.ensures)

pub returns-clause-plan : goal.returns-clause-plan
returns-clause-plan c = is_plan c

pub returns-clause-enough : goal.returns-clause-enough
returns-clause-enough c = law_of_plans (paths_of (draft_tree c.args.set.now)) c.from_vec.result (is_plan c)

pub returns-clause-in_range : goal.returns-clause-in_range
returns-clause-in_range c = in_range (draft_tree c.args.set.now) c.from_vec.result (is_plan c)
