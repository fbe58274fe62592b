use Rattle.std.proofs.Common.{◌≡◌, List, [], true, sym, ap, subst, ◌∙◌}
use Rattle.std.specs.Prelude.{All}
use Rattle.std.proofs.lemmas.List.Elements.{All-head}
use Rattle.prog_paths.specs.StaticGraph.{QuestionNumbers}
use Rattle.prog_paths.specs.declared.accesses.questions.Question.{Question}
use Rattle.prog_paths.specs.Questions.{asks, question_between, numbers_of}
use Rattle.prog_paths.proofs.Questions.{if_yes}
use Rattle.robust_cert.specs.Telling.{question_with, telling_of, IsBehind, mark_with}
use Rattle.robust_cert.specs.Leaving.{Passes}
use Rattle.robust_cert.proofs.Passing.{Passes-one}
use Rattle.robust_cert.proofs.checking.left.enter_question.Goals as goal

pub telling_at-telling-requires-clause-behind : goal.telling_at-telling-requires-clause-behind
telling_at-telling-requires-clause-behind c =
    let es = c.args.entries.now in
    let q : Question = question_between c.args.first.now c.args.second.now in
    let asked : asks c.args.first.now c.args.second.now ≡ true = sym c.asks.ensures ∙ c.if-not-asks.false in
    let named : numbers_of q ≡ question_with c.from.result = sym (c.from.ensures ∙ ap numbers_of c.question_between-question.ensures) in
    let all = subst (λ (l : List Question). All (λ p. IsBehind es c.args.cursor (numbers_of p)) l) (if_yes (asks c.args.first.now c.args.second.now) q [] asked) c.requires.behind in
    subst (λ (p : QuestionNumbers). IsBehind es c.args.cursor p) named (All-head (λ p. IsBehind es c.args.cursor (numbers_of p)) q [] all)

pub returns : goal.returns
returns c =
    let es = c.args.entries.now in
    let q : Question = question_between c.args.first.now c.args.second.now in
    let asked : asks c.args.first.now c.args.second.now ≡ true = sym c.asks.ensures ∙ c.if-not-asks.false in
    let told = c.telling_at-telling.result in
    let named : numbers_of q ≡ question_with c.from.result = sym (c.from.ensures ∙ ap numbers_of c.question_between-question.ensures) in
    let tells : told.0 ≡ telling_of es (numbers_of q) = c.telling_at-telling.ensures.telling ∙ ap (telling_of es) (sym named) in
    let is = c.mark_with.ensures ∙ ap (λ (p : Question). mark_with p told.0) c.question_between-question.ensures in
    let behind = subst (λ (p : QuestionNumbers). IsBehind es told.1 p) (sym named) c.telling_at-telling.ensures.behind in
    subst (λ (l : List Question). Passes es l c.args.cursor told.1 c.args.left.now c.enter.new.self) (sym (if_yes (asks c.args.first.now c.args.second.now) q [] asked))
    (Passes-one es q told.0 c.mark_with.result c.args.cursor told.1 c.args.left.now c.enter.new.self tells is c.enter.ensures behind)
