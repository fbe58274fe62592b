use Rattle.std.proofs.Common.{◌≡◌, ◌∙◌, [], ◌∷◌, ap}
use Rattle.std.proofs.lemmas.Result.{IfOk-weaker}
use Rattle.clap.specs.Words.{App, Shape, with_subcommand}
use Rattle.clap.specs.Walk.{Rule, Text}
use Rattle.sirob.specs.CommandLine.{command_with}
use Rattle.sirob.proofs.command_line.command.Goals as goal

-- one more subcommand
added : (above below : App) (has is : Shape) (made : App) → made ≡ with_subcommand above has → above ≡ below → has ≡ is → made ≡ with_subcommand below is
added above below has is made makes before same = makes ∙ (ap (λ (a : App). with_subcommand a has) before ∙ ap (λ (s : Shape). with_subcommand below s) same)

-- a subcommand with one argument
with_rule : (name : Text) (has is : Rule) (made : Shape) → made ≡ command_with name (has ∷ []) → has ≡ is → made ≡ command_with name (is ∷ [])
with_rule name has is made makes same = makes ∙ ap (λ (rule : Rule). command_with name (rule ∷ [])) same

pub returns : goal.returns
returns c =
    IfOk-weaker c.add-7.result _ _ (λ made is. added _ _ _ _ _ is
    (added _ _ _ _ _ c.in_ok-with_audit.ensures
    (added _ _ _ _ _ c.in_ok-with_run.ensures
    (added _ _ _ _ _ c.in_ok-with_repair.ensures
    (added _ _ _ _ _ c.in_ok-with_verify.ensures
    (added _ _ _ _ _ c.in_ok-with_certify.ensures
    (added _ _ _ _ _ c.in_ok-with_check.ensures c.in_ok-none.ensures c.plain-check.ensures.shape) c.plain-certify.ensures.shape) c.plain-verify.ensures.shape)
    (with_rule _ _ _ _ c.in_ok-repair.ensures.shape c.flag-promote.ensures.rule)) (with_rule _ _ _ _ c.in_ok-run.ensures.shape c.flag-robust.ensures.rule)) c.plain-audit.ensures.shape) (with_rule _ _ _ _ c.in_ok-work.ensures.shape c.byte_option-workers.ensures.rule)) c.add-7.ensures
