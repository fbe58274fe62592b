use Rattle.std.proofs.Common.{◌≡◌, [], ◌∙◌, map, ap, sym}
use Rattle.std.specs.Prelude.{None}
use Rattle.std.proofs.lemmas.Simd.{map-map}
use Rattle.prog_tree.specs.Tree.{program_tree, draft_tree}
use Rattle.prog_check.specs.Faults.{tables_fault, programs_fault, ◌or_else◌, first_fault}
use Rattle.prog_check.proofs.SoundLemmas.{soundness}
use Rattle.prog_check.proofs.set.check.Goals as goal

faultless : (c : goal.In_ok-programs) → first_fault (draft_tree c.args.draft) ≡ None
faultless c =
    let tables = c.args.draft.tables.items in
    let programs = c.args.draft.programs.items in
    let no_table = (λ i. tables_fault [] (map (λ d. d.name) (sym c.deref.ensures.value i))) ∙ c.in_ok-tables.ensures.0 in
    let declared = c.new.ensures ∙ c.deref-2.ensures.value in
    let no_program = (λ i. programs_fault (sym declared i) [] (map program_tree (sym c.deref-3.ensures.value i))) ∙ c.in_ok-programs.ensures.0 in
    ap (λ o. o or_else programs_fault tables [] (map program_tree programs)) no_table ∙ no_program

pub invariant_of-result : goal.invariant_of-result
invariant_of-result c =
    record {
      tables_named = c.in_ok-tables.ensures.1 ∙ (λ i. map (λ d. d.name) (c.deref.ensures.value i));
      programs_named = c.in_ok-programs.ensures.1 ∙ (λ i. map (λ p. p.name) (c.deref-3.ensures.value i)) ∙ sym (map-map (λ p. p.name) program_tree c.args.draft.programs.items);
      faultless = faultless c;
      sound = soundness (draft_tree c.args.draft) (faultless c) c.read_literals.ensures;
    }

pub returns-clause-sound : goal.returns-clause-sound
returns-clause-sound c = soundness (draft_tree c.args.draft) (faultless c) c.read_literals.ensures
