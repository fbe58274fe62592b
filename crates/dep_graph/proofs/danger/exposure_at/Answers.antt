use Rattle.std.proofs.Common.{refl, subst}
use Rattle.prog_paths.specs.Questions.{two, between}
use Rattle.conflict_pairs.specs.declared.verdicts.Verdict.{Verdict}
use Rattle.conflict_pairs.specs.declared.verdicts.Verdict.TheVariants.{Exposed}
use Rattle.conflict_pairs.specs.Verdicts.{IsRight}
use Rattle.dep_graph.proofs.Exposing.{path_at, access_at, not_asked, exposed_here, exposure_here, right_here, sample_of}
use Rattle.dep_graph.proofs.danger.exposure_at.Goals as goal

pub returns-then-not-may_miss-clause-none : goal.returns-then-not-may_miss-clause-none
returns-then-not-may_miss-clause-none c =
    let paths = c.args.paths.now in
    let x = c.args.x in
    let a = c.args.a in
    let y = c.args.y in
    let b = c.args.b in
    not_asked paths x a y b _ _
    (access_at paths x a c.accesses_of.result.now _ c.requires.x c.requires.a c.accesses_of.ensures)
    (access_at paths y b c.accesses_of-2.result.now _ c.requires.y c.requires.b c.accesses_of-2.ensures)
    c.may_miss.result c.may_miss.ensures c.if-not-may_miss.true

pub returns-in-Exposed-clause-found : goal.returns-in-Exposed-clause-found
returns-in-Exposed-clause-found c =
    let paths = c.args.paths.now in
    let x = c.args.x in
    let a = c.args.a in
    let y = c.args.y in
    let b = c.args.b in
    let one = c.index-paths-x.result in
    let other = c.index-paths-y.result in
    let right = subst (λ (v : Verdict). IsRight (two one other) (between a b) v) c.in-Exposed.is c.in_ok-sample.ensures.right in
    let at_mine = access_at paths x a c.accesses_of.result.now _ c.requires.x c.requires.a c.accesses_of.ensures in
    let at_theirs = access_at paths y b c.accesses_of-2.result.now _ c.requires.y c.requires.b c.accesses_of-2.ensures in
    let asks = c.may_miss.ensures.0 c.if-not-may_miss.false in
    exposure_here paths x a y b _ _ at_mine at_theirs asks c.in-Exposed.sample _
    (right_here paths x a y b _ _ at_mine at_theirs asks one other
    (path_at paths x one c.requires.x c.index-paths-x.is) (path_at paths y other c.requires.y c.index-paths-y.is) (Exposed c.in-Exposed.sample) right)
    refl refl

pub returns-clause-none : goal.returns-clause-none
returns-clause-none c =
    λ h is.
    let paths = c.args.paths.now in
    let x = c.args.x in
    let a = c.args.a in
    let y = c.args.y in
    let b = c.args.b in
    let one = c.index-paths-x.result in
    let other = c.index-paths-y.result in
    let v = c.in_ok-sample.field-0 in
    let at_mine = access_at paths x a c.accesses_of.result.now _ c.requires.x c.requires.a c.accesses_of.ensures in
    let at_theirs = access_at paths y b c.accesses_of-2.result.now _ c.requires.y c.requires.b c.accesses_of-2.ensures in
    let asks = c.may_miss.ensures.0 c.if-not-may_miss.false in
    let right =
    right_here paths x a y b _ _ at_mine at_theirs asks one other
    (path_at paths x one c.requires.x c.index-paths-x.is) (path_at paths y other c.requires.y c.index-paths-y.is) v c.in_ok-sample.ensures.right in
    let s = sample_of v (exposed_here paths x a y b _ _ at_mine at_theirs v right h is) in
    c.in_default.not-Exposed s.0 s.1
