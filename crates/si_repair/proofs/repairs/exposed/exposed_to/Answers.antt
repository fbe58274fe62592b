use Rattle.std.proofs.Common.{◌∙◌, ◌++◌, ◌∷◌, [], Vec, Global, ap, sym, arith}
use Rattle.std.proofs.lemmas.Bool.{false≢true}
use Rattle.prog_paths.specs.declared.accesses.questions.Question.{Question}
use Rattle.si_repair.proofs.Exposed.{more-exposed, more-unexposed}
use Rattle.si_repair.proofs.repairs.exposed.exposed_to.Goals as goal
use Rattle.si_repair.proofs.repairs.exposed.exposed_to.Goals.{then-branch+in_ok-push, else-branch}

pub loop-second-preserved : goal.loop-second-preserved
loop-second-preserved c =
    let nodes = c.args.paths.now in
    let first = c.args.first.now in
    let before = c.loop-second.questions.items in
    elim c.if-branch.branch [
      | then-branch+in_ok-push w ↦
          more-exposed nodes first c.loop-second.second-index c.args.seconds.now _ before c.if-branch.questions.items (omega arith) (c.in_ok-is_exposed.ensures.0 w.if-branch.true)
          (ap (λ (v : Vec Question Global). v.items) w.questions-is ∙ w.in_ok-push.ensures.items ∙ ap (λ (q : Question). before ++ q ∷ []) w.question_between.ensures) c.loop-second.invariant
      | else-branch w ↦
          more-unexposed nodes first c.loop-second.second-index c.args.seconds.now _ before c.if-branch.questions.items (omega arith) (λ e. false≢true (sym w.if-branch.false ∙ c.in_ok-is_exposed.ensures.1 e))
          (ap (λ (v : Vec Question Global). v.items) w.questions-is) c.loop-second.invariant
    ]
