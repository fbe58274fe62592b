use Rattle.std.proofs.lemmas.Result.{IfOk-weaker}
use Rattle.conflict_pairs.proofs.SharedVerdicts.{IfOk-both, on-pair, new-sound, new-served, new-keeps}
use Rattle.conflict_pairs.proofs.judge.number_of_pair.Goals as goal

pub returns-in-Some-clause-served : goal.returns-in-Some-clause-served
returns-in-Some-clause-served c =
    on-pair c.args.paths.now c.args.places.now c.args.pair c.question_of-question.result c.deref.result.now c.args.values.now.items c.in-Some.known c.question_of-question.ensures c.deref.ensures.value
    (rw c.in-Some.is at c.number_before.ensures)

pub returns-clause-sound : goal.returns-clause-sound
returns-clause-sound c =
    IfOk-weaker c.push_numbered.result _ _
    (λ number added. new-sound c.args.paths.now c.args.places.now c.args.pair c.question_of-question.result c.args.values.now.items c.push_numbered.new.values.items c.in_ok-found.found c.question_of-question.ensures c.in_ok-found.ensures added c.requires.pair c.requires.sound)
    c.push_numbered.ensures.values

pub returns-clause-served : goal.returns-clause-served
returns-clause-served c =
    IfOk-both c.push_numbered.result _ _ _
    (λ number added last. new-served c.args.paths.now c.args.places.now c.args.pair c.question_of-question.result c.args.values.now.items c.push_numbered.new.values.items c.in_ok-found.found c.question_of-question.ensures c.in_ok-found.ensures added number last)
    c.push_numbered.ensures.values c.push_numbered.ensures.number

pub returns-clause-keeps : goal.returns-clause-keeps
returns-clause-keeps c =
    IfOk-weaker c.push_numbered.result _ _
    (λ number added. new-keeps c.args.paths.now c.args.places.now c.args.pair c.question_of-question.result c.args.values.now.items c.push_numbered.new.values.items c.in_ok-found.found c.question_of-question.ensures c.in_ok-found.ensures added)
    c.push_numbered.ensures.values
