use Rattle.std.proofs.Common.{◌≡◌, List, sym, ap, subst, ◌∙◌, true≢false}
use Rattle.std.specs.Prelude.{min}
use Rattle.history_book.specs.History.{Instance}
use Rattle.history_book.specs.View.{least_start}
use Rattle.history_book.proofs.ActiveLaws.{Entry}
use Rattle.history_book.proofs.StartLaws.{least_both, least_alone, least_of_none}
use Rattle.history_book.proofs.instances.active_set.ActiveSet.least_start.Goals as goal

pub returns-in_default : goal.returns-in_default
returns-in_default c =
    subst (λ (es : List Entry). c.args.commits ≡ least_start c.args.commits es) c.self.view_is
    (least_of_none c.args.commits _ (λ some. true≢false (sym (c.in_default.ensures.variant.1 some))))

pub returns-in-Some-first : goal.returns-in-Some-first
returns-in-Some-first c =
    subst (λ (es : List Entry). c.min.result ≡ least_start c.args.commits es) c.self.view_is
    (c.min.ensures ∙ ap (min c.in-Some-first.other.now.start) (c.min-least.ensures ∙ ap (λ (x : Instance). min x.start c.args.commits) c.first.view_is)
    ∙ least_both c.args.commits _ c.self.inside.out_of_turn _ c.in-Some.field-0-0.now c.in-Some.first.now c.in-Some-first.other.now c.self.invariant c.in-Some.ensures.first c.in-Some.ensures.least c.in-Some-first.ensures.member c.in-Some-first.ensures.least)

pub returns-in-None : goal.returns-in-None
returns-in-None c =
    subst (λ (es : List Entry). c.min-least.result ≡ least_start c.args.commits es) c.self.view_is
    (c.min-least.ensures ∙ ap (λ (x : Instance). min x.start c.args.commits) c.first.view_is
    ∙ least_alone c.args.commits _ c.self.inside.out_of_turn _ c.in-Some.field-0-0.now c.in-Some.first.now c.self.invariant c.in-Some.ensures.first c.in-Some.ensures.least (λ some. true≢false (sym (c.in-None.ensures.variant.1 some))))
