use Rattle.std.proofs.Common.{◌∙◌, sym}
use Rattle.std.proofs.lemmas.Bool.{false≢true}
use Rattle.prog_tree.specs.Tree.{draft_tree}
use Rattle.si_repair.proofs.Obstacles.{HasBoth-each, IsObstacle-range, IsObstacle-unknown, IsObstacle-body, IsObstacle-none}
use Rattle.si_repair.proofs.repairs.obstacles.first_obstacle.Goals as goal

pub is_hindered-requires : goal.is_hindered-requires
is_hindered-requires c = HasBoth-each c.args.paths.now c.args.pair c.args.questions.now c.requires.exposed

pub is_hindered-requires-2 : goal.is_hindered-requires-2
is_hindered-requires-2 c = HasBoth-each c.args.paths.now c.args.pair c.args.questions.now c.requires.exposed

pub is_hindered-requires-3 : goal.is_hindered-requires-3
is_hindered-requires-3 c = HasBoth-each c.args.paths.now c.args.pair c.args.questions.now c.requires.exposed

pub returns-then-is_hindered : goal.returns-then-is_hindered
returns-then-is_hindered c =
    IsObstacle-range (draft_tree c.args.draft.now) c.args.paths.now c.requires.paths c.args.pair c.args.questions.now c.requires.exposed
    c.as_slice-ranges.result.now (c.as_slice-ranges.ensures.value ∙ c.in_ok-listed.ensures)
    (c.is_hindered.ensures.0 c.if-is_hindered.true)

pub returns-then-is_hindered-2 : goal.returns-then-is_hindered-2
returns-then-is_hindered-2 c =
    IsObstacle-unknown (draft_tree c.args.draft.now) c.args.paths.now c.requires.paths c.args.pair c.args.questions.now c.requires.exposed
    c.as_slice-ranges.result.now (c.as_slice-ranges.ensures.value ∙ c.in_ok-listed.ensures)
    (λ h. false≢true (sym c.if-is_hindered.false ∙ c.is_hindered.ensures.1 h))
    (c.is_hindered-2.ensures.0 c.if-is_hindered-2.true)

pub returns-then-is_hindered-3 : goal.returns-then-is_hindered-3
returns-then-is_hindered-3 c =
    IsObstacle-body (draft_tree c.args.draft.now) c.args.paths.now c.requires.paths c.args.pair c.args.questions.now c.requires.exposed
    c.as_slice-ranges.result.now (c.as_slice-ranges.ensures.value ∙ c.in_ok-listed.ensures)
    (λ h. false≢true (sym c.if-is_hindered.false ∙ c.is_hindered.ensures.1 h))
    (λ h. false≢true (sym c.if-is_hindered-2.false ∙ c.is_hindered-2.ensures.1 h))
    (c.is_hindered-3.ensures.0 c.if-is_hindered-3.true)

pub returns : goal.returns
returns c =
    IsObstacle-none (draft_tree c.args.draft.now) c.args.paths.now c.requires.paths c.args.pair c.args.questions.now c.requires.exposed
    c.as_slice-ranges.result.now (c.as_slice-ranges.ensures.value ∙ c.in_ok-listed.ensures)
    (λ h. false≢true (sym c.if-is_hindered.false ∙ c.is_hindered.ensures.1 h))
    (λ h. false≢true (sym c.if-is_hindered-2.false ∙ c.is_hindered-2.ensures.1 h))
    (λ h. false≢true (sym c.if-is_hindered-3.false ∙ c.is_hindered-3.ensures.1 h))
