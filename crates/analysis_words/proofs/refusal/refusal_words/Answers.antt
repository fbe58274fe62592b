use Rattle.std.proofs.Common.{◌∙◌, ◌++◌, ap, string_bytes, subst}
use Rattle.std.proofs.lemmas.Option.{MatchOption-at_none}
use Rattle.prog_tree.specs.Tree.{draft_tree}
use Rattle.analysis_words.specs.Left.{left_text}
use Rattle.analysis_words.specs.Nodes.{seen, Sight}
use Rattle.analysis_words.specs.Refusing.{LacksDanger, ShowsDanger}
use Rattle.analysis_words.proofs.refusal.refusal_words.Goals as goal

pub returns-clause-said : goal.returns-clause-said
returns-clause-said c =
    let front = string_bytes c.in-Some.front in
    let left = c.in_ok-left.ensures ∙ ap (left_text (draft_tree c.args.set.now)) c.as_slice.ensures in (
      front,
      c.in_ok-ways.ways.now,
      subst (λ (s : Sight). ShowsDanger s c.args.danger.now front) (c.shown-shown.ensures ∙ c.in_ok-whole.ensures) (rw c.in-Some.is at c.in_ok-front.ensures.said),
      c.in_ok-ways.ensures,
      c.in_ok-words.ensures.ok ∙ ap (λ l. front ++ (l ++ c.in_ok-ways.ways.now)) left,
    )

pub returns-in_default-clause-none : goal.returns-in_default-clause-none
returns-in_default-clause-none c =
    subst (λ (s : Sight). LacksDanger s c.args.danger.now) (c.shown-shown.ensures ∙ c.in_ok-whole.ensures)
    (MatchOption-at_none (LacksDanger (seen c.shown-shown.result) c.args.danger.now) _ c.in_default.is c.in_ok-front.ensures.none)
