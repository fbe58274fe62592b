use Rattle.std.proofs.Common.{List, [], ◌+◌, get_or, refl, sym, subst, take}
use Rattle.std.proofs.lemmas.Option.{slice_get-get_or}
use Rattle.prog_tree.specs.Tree.{draft_tree}
use Rattle.prog_check.specs.declared.path.Path.{Path}
use Rattle.si_repair.specs.declared.repairs.promotion.CoverablePair.{CoverablePair}
use Rattle.si_repair.specs.Exposed.{AreExposed}
use Rattle.si_repair.specs.Promotion.{AreCoverable, HasCoverableReads}
use Rattle.si_repair.proofs.Promotion.{none_coverable, one_more_coverable, all_coverable}
use Rattle.si_repair.proofs.repairs.promotion.coverable_pairs.Goals as goal

pub loop-pair-init : goal.loop-pair-init
loop-pair-init c = subst (λ (l : List CoverablePair). AreCoverable (draft_tree c.args.draft.now) [] l) (sym c.new-coverable.ensures.items) (none_coverable (draft_tree c.args.draft.now))

pub loop-pair-preserved : goal.loop-pair-preserved
loop-pair-preserved c =
    let draft = draft_tree c.args.draft.now in
    let pairs = c.args.pairs.now in
    let n = c.loop-pair.pair-index in
    let pair = get_or pairs n (record { from = 0; to = 0 }) in
    let next : CoverablePair = record { pair = pair; questions = c.in-Ok.questions } in
    let own : HasCoverableReads draft next = (c.in-Ok.ensures.passed, subst (λ (l : List Path). AreExposed l pair c.in-Ok.questions.items) c.requires c.in-Ok.ensures.exposed) in
    subst (λ (l : List CoverablePair). AreCoverable draft (take (n + 1) pairs) l) (sym c.in_ok-push-in-Ok.ensures.items)
    (one_more_coverable draft pairs n _ c.loop-pair.coverable.items next c.loop-pair-test.true refl c.loop-pair.invariant own)

pub returns-in-Err : goal.returns-in-Err
returns-in-Err c =
    let pairs = c.args.pairs.now in
    let n = c.loop-pair.pair-index in
    (n, get_or pairs n _, slice_get-get_or pairs n _ c.loop-pair-test.true, c.loop-pair.invariant, c.in-Err.ensures.refused)

pub returns : goal.returns
returns c = all_coverable (draft_tree c.args.draft.now) c.args.pairs.now c.loop-pair.pair-index c.loop-pair.coverable.items c.loop-pair-test.false c.loop-pair.invariant
