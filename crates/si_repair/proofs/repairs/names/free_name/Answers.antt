use Rattle.std.proofs.Common.{◌≡◌, ◌+◌, true, false, length, sym, ap, ◌∙◌, arith}
use Rattle.std.specs.Prelude.{vec_len}
use Rattle.std.proofs.lemmas.Result.{IfOk-weaker}
use Rattle.prog_tree.specs.declared.program.Draft.{Draft}
use Rattle.prog_tree.specs.Syntax.{Name}
use Rattle.prog_tree.specs.Tree.{draft_tree}
use Rattle.prog_check.specs.Names.{is_among}
use Rattle.repair_laws.specs.Materialised.{mat_name, IsLeastFree}
use Rattle.si_repair.specs.Names.{taken_names}
use Rattle.si_repair.proofs.Naming.{first_free, one_free}
use Rattle.si_repair.proofs.repairs.names.free_name.Goals as goal
use Rattle.si_repair.proofs.repairs.names.free_name.Goals.{else-loop-number-test, then-loop-number-test+in_ok-name+else-not-is_taken+else-number-counter-taken}

pub returns-then-not-is_taken : goal.returns-then-not-is_taken
returns-then-not-is_taken c =
    let taken = taken_names (draft_tree c.args.set.now) c.args.made.now in
    let n = c.loop-number.number-counter in
    let tested = c.as_str.result.now in
    let spelled : tested ≡ mat_name n = c.as_str.ensures.value ∙ c.in_ok-name.ensures.ok in
    let free : is_among taken (mat_name n) ≡ false = ap (is_among taken) (sym spelled) ∙ sym c.is_taken.ensures ∙ c.if-not-is_taken.true in
    let again : c.as_str-then-not-is_taken.result.now ≡ mat_name n = c.as_str-then-not-is_taken.ensures.value ∙ c.in_ok-name.ensures.ok in
    IfOk-weaker c.new.result (λ (name : Name). name ≡ c.as_str-then-not-is_taken.result.now) (IsLeastFree taken)
    (λ name e. first_free taken n name (e ∙ again) (ap (is_among taken) (e ∙ again) ∙ free) c.loop-number.invariant) c.new.ensures

pub unreachable-requires : goal.unreachable-requires
unreachable-requires c = elim c.loop-number-test.branch [
  | else-loop-number-test w ↦ omega arith
  | then-loop-number-test+in_ok-name+else-not-is_taken+else-number-counter-taken w ↦
      let taken = taken_names (draft_tree c.args.set.now) c.args.made.now in
      let n = c.loop-number.number-counter in
      let same = ap (λ (d : Draft). vec_len d.tables) c.draft.ensures.same in
      let listed = c.args.set.now.tables.ok.0 in
      let size : length c.args.set.now.tables.items + length c.args.made.now ≡ n = omega (arith, same, listed, c.len.ensures) in
      let spelled : w.as_str.result.now ≡ mat_name n = w.as_str.ensures.value ∙ w.in_ok-name.ensures.ok in
      let last : is_among taken (mat_name n) ≡ true = ap (is_among taken) (sym spelled) ∙ sym w.is_taken.ensures ∙ w.if-not-is_taken.false in
      one_free (draft_tree c.args.set.now) c.args.made.now n size (omega arith) c.loop-number.invariant last
]
