use Rattle.std.proofs.Common.{ap, sym, ◌∙◌}
use Rattle.prog_tree.specs.Tree.{draft_tree}
use Rattle.prog_check.specs.Paths.{paths_of}
use Rattle.analysis_words.specs.Nodes.{Sight}
use Rattle.analysis_words.proofs.repair_faults.obstructed_look.Goals as goal

pub hindered_question-requires : goal.hindered_question-requires
hindered_question-requires c =
    ap (λ (s : Sight). s.paths) (c.shown-shown.ensures ∙ c.in_ok-whole.ensures) ∙ sym (ap (λ d. paths_of (draft_tree d)) c.draft.ensures.same)
