use Rattle.std.proofs.Common.{rules, inl, inr, string_bytes}
use Rattle.std.proofs.lemmas.Option.{MatchOption-at_none}
use Rattle.analysis_words.specs.Nodes.{seen}
use Rattle.analysis_words.specs.Refusing.{LacksQuestion}
use Rattle.analysis_words.proofs.refusal.both_words.Goals as goal

pub returns-clause-said : goal.returns-clause-said
returns-clause-said c = (
  string_bytes c.in-Some.first,
  string_bytes c.in-Some-2.second,
  string_bytes c.in_ok-advice.advice,
  search rules,
  search rules,
  c.in_ok-advice.ensures,
  search rules,
)

pub returns-in_default-clause-none : goal.returns-in_default-clause-none
returns-in_default-clause-none c =
    let shown = c.args.shown in
    let q = c.args.danger.now.first.question in
    inl (MatchOption-at_none (LacksQuestion (seen shown) q) _ c.in_default.is c.in_ok-first.ensures.none)

pub returns-in_default-2-clause-none : goal.returns-in_default-2-clause-none
returns-in_default-2-clause-none c =
    let shown = c.args.shown in
    let q = c.args.danger.now.second.question in
    inr (MatchOption-at_none (LacksQuestion (seen shown) q) _ c.in_default-2.is c.in_ok-second.ensures.none)
