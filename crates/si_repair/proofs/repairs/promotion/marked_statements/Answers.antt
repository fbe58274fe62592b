use Rattle.std.proofs.Common.{List, [], ◌∷◌, ◌++◌, ◌+◌, map, sym, subst, ap, take, ◌∙◌}
use Rattle.std.proofs.lemmas.List.{map-append, take_all, take_more}
use Rattle.prog_paths.specs.declared.accesses.questions.Question.{Question}
use Rattle.repair_laws.specs.declared.plan.Pair.{Pair}
use Rattle.repair_laws.specs.Promoted.{MarksExposed}
use Rattle.si_repair.specs.declared.repairs.marks.MarkedStatement.{MarkedStatement}
use Rattle.si_repair.specs.declared.repairs.promotion.CoverablePair.{CoverablePair}
use Rattle.si_repair.specs.Promotion.{pairs_of, HasItsQuestions}
use Rattle.si_repair.specs.Exposed.{AreExposed}
use Rattle.si_repair.specs.Marks.{is_marked}
use Rattle.si_repair.proofs.Obstacles.{HasRead-each}
use Rattle.si_repair.proofs.Marks.{adds-reads, marks-none, marks-more}
use Rattle.si_repair.proofs.repairs.promotion.marked_statements.Goals as goal

pub loop-each-init : goal.loop-each-init
loop-each-init c = subst (λ (ms : List MarkedStatement). MarksExposed c.args.paths.now [] (is_marked ms)) (sym c.new-marks.ensures.items) (marks-none c.args.paths.now)

pub push_reads-requires : goal.push_reads-requires
push_reads-requires c =
    let nodes = c.args.paths.now in
    let each = c.each-item.result in
    let own = subst (HasItsQuestions nodes) (sym c.each-item.is) (c.requires c.loop-each.each-index each c.loop-each-test.true) in
    HasRead-each nodes each.pair c.deref.result.now (subst (λ (l : List Question). AreExposed nodes each.pair l) (sym c.deref.ensures.value) own)

pub loop-each-preserved : goal.loop-each-preserved
loop-each-preserved c =
    let nodes = c.args.paths.now in
    let coverable = c.args.coverable.now in
    let n = c.loop-each.each-index in
    let each = c.each-item.result in
    let pair = λ (x : CoverablePair). x.pair in
    let old = is_marked c.loop-each.marks.items in
    let new = is_marked c.push_reads.new.marks.items in
    let own = subst (HasItsQuestions nodes) (sym c.each-item.is) (c.requires n each c.loop-each-test.true) in
    let exposed = subst (λ (l : List Question). AreExposed nodes each.pair l) (sym c.deref.ensures.value) own in
    let next = ap (map pair) (take_more coverable n each c.loop-each-test.true ∙ ap (λ x. take n coverable ++ x ∷ []) (sym c.each-item.is)) ∙ map-append pair (take n coverable) (each ∷ []) in
    subst (λ (l : List Pair). MarksExposed nodes l new) (sym next)
    (marks-more nodes (pairs_of (take n coverable)) each.pair old new c.loop-each.invariant
    (adds-reads nodes each.pair c.deref.result.now old new exposed c.in_ok-push_reads.ensures))

pub returns : goal.returns
returns c =
    subst (λ (l : List CoverablePair). MarksExposed c.args.paths.now (pairs_of l) (is_marked c.loop-each.marks.items)) (take_all c.loop-each.each-index c.args.coverable.now c.loop-each-test.false)
    c.loop-each.invariant
