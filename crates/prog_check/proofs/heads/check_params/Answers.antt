use Rattle.std.proofs.Common.{◌+◌, [], ◌∷◌, ◌++◌, ◌∙◌, ap, sym, drop, not, if◌then◌else◌, append_assoc}
use Rattle.std.specs.Prelude.{Some, None}
use Rattle.std.proofs.lemmas.List.{drop_more}
use Rattle.prog_check.specs.declared.fault.CheckFault.TheVariants.{DuplicateParameter}
use Rattle.prog_check.specs.Names.{is_among, has_twice}
use Rattle.prog_check.proofs.NameLemmas.{negated, has_twice-seen, has_twice-push}
use Rattle.prog_check.proofs.heads.check_params.Goals as goal

pub returns-then-not-branch : goal.returns-then-not-branch
returns-then-not-branch c =
    let names = c.loop-param.visible in
    let param = c.param-item.result in
    let later = drop (c.loop-param.param-index + 1) c.args.params.now in
    let seen = negated (is_among names param) c.in_ok-insert.field-0 c.in_ok-insert.ensures.new ∙ ap not c.if-not-branch.true in
    let parts = ap (λ ps. names ++ ps) (drop_more c.args.params.now c.loop-param.param-index param c.loop-param-test.true ∙ ap (λ x. x ∷ later) (sym c.param-item.is)) in
    ap (λ b. if b then Some (DuplicateParameter c.args.place) else None) (ap has_twice (sym c.loop-param.invariant.named ∙ parts) ∙ has_twice-seen names param later seen)

pub loop-param-preserved : goal.loop-param-preserved
loop-param-preserved c =
    let names = c.loop-param.visible in
    let param = c.param-item.result in
    let later = drop (c.loop-param.param-index + 1) c.args.params.now in
    let new = negated (is_among names param) c.in_ok-insert.field-0 c.in_ok-insert.ensures.new ∙ ap not c.if-not-branch.false in
    let parts = ap (λ ps. names ++ ps) (drop_more c.args.params.now c.loop-param.param-index param c.loop-param-test.true ∙ ap (λ x. x ∷ later) (sym c.param-item.is)) in
    let grown = c.in_ok-insert.ensures.names ∙ ap (λ b. if b then names ++ param ∷ [] else names) c.if-not-branch.false in
    record {
      named = ap (λ ps. ps ++ later) grown ∙ append_assoc names (param ∷ []) later ∙ sym parts ∙ c.loop-param.invariant.named;
      once = ap has_twice grown ∙ has_twice-push names param c.loop-param.invariant.once new;
    }
