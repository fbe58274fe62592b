use Rattle.std.proofs.Common.{◌≡◌, ℕ, ◌+◌, not, Option, sym, subst, arith, ◌∙◌, List}
use Rattle.std.specs.Prelude.{All}
use Rattle.std.proofs.lemmas.Bool.{true≢false}
use Rattle.std.proofs.lemmas.List.{take_all}
use Rattle.std.proofs.lemmas.List.Elements.{All-nil}
use Rattle.prog_check.specs.declared.path.Access.{Access}
use Rattle.prog_paths.specs.Tally.{is_behind, is_before}
use Rattle.prog_paths.proofs.Walked.{IsNextOf, next_found, next_passed}
use Rattle.prog_paths.proofs.accesses.count.next_in.Goals as goal
use Rattle.prog_paths.proofs.accesses.count.next_in.Goals.{then-is_behind+then-is_before, else-is_behind, else-is_behind-via-then-is_behind+else-is_before, else-is_behind-via-else-is_behind}

pub loop-access-init : goal.loop-access-init
loop-access-init c = record {
  rises = λ r. r;
  keeps = λ table e. e;
  all = λ r. All-nil _;
}

pub loop-access-preserved : goal.loop-access-preserved
loop-access-preserved c =
    let last = c.args.last in
    let found = c.args.found in
    let next = c.loop-access.next in
    let k = c.loop-access.access-index in
    let xs = c.args.accesses.now in
    elim c.if-is_behind.branch [
      | then-is_behind+then-is_before w ↦
          subst (λ (n : Option ℕ). IsNextOf last found xs (k + 1) n) (sym w.next-is)
          (next_found last found next xs k _ c.loop-access-test.true (sym c.is_behind.ensures ∙ w.if-is_behind.true) (sym w.is_before.ensures ∙ w.if-is_before.true) c.loop-access.invariant)
      | else-is_behind w ↦
          subst (λ (n : Option ℕ). IsNextOf last found xs (k + 1) n) (sym w.next-is)
          (elim w.else-is_behind.branch [
            | else-is_behind-via-then-is_behind+else-is_before w' ↦
                next_passed last found next xs k _ c.loop-access-test.true (λ e. sym w'.is_before.ensures ∙ w'.if-is_before.false) c.loop-access.invariant
            | else-is_behind-via-else-is_behind w' ↦
                next_passed last found next xs k _ c.loop-access-test.true (λ e. absurd (true≢false (sym e ∙ (sym c.is_behind.ensures ∙ w'.if-is_behind.false)))) c.loop-access.invariant
          ])
    ]

pub returns-clause-rises : goal.returns-clause-rises
returns-clause-rises c = c.loop-access.invariant.rises

pub returns-clause-keeps : goal.returns-clause-keeps
returns-clause-keeps c = c.loop-access.invariant.keeps

pub returns-clause-all : goal.returns-clause-all
returns-clause-all c = λ r. subst (λ (l : List Access). All (λ a. is_before c.loop-access.next a.table ≡ not (is_behind c.args.last a.table)) l) (take_all c.loop-access.access-index c.args.accesses.now (omega arith)) (c.loop-access.invariant.all r)
