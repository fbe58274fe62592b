use Rattle.std.proofs.Common.{◌≡◌, arith, List, ◌++◌, ap, get_or, sym, subst, ◌∙◌, string_bytes}
use Rattle.std.specs.Prelude.{All}
use Rattle.std.proofs.lemmas.List.{take_all}
use Rattle.prog_tree.specs.Tree.{draft_tree}
use Rattle.prog_tree.specs.declared.program.Draft.{Draft}
use Rattle.prog_paths.specs.Questions.{ChangesSingleCells}
use Rattle.prog_paths.proofs.SingleCells.{law_of_single_changes}
use Rattle.repair_laws.specs.declared.plan.Pair.{Pair}
use Rattle.analysis_words.specs.Nodes.{Sight}
use Rattle.analysis_words.specs.Repairs.{TellsPair, TellsRepair, heading}
use Rattle.analysis_words.proofs.TellsMore.{tells_more}
use Rattle.analysis_words.proofs.repair.repair_words.Goals as goal

pub pair_words-requires : goal.pair_words-requires
pair_words-requires c =
    subst (λ (s : Sight). All ChangesSingleCells s.paths) (sym (c.shown-shown.ensures ∙ c.in_ok-whole.ensures))
    (law_of_single_changes (draft_tree c.args.set.now))

pub loop-number-preserved : goal.loop-number-preserved
loop-number-preserved c =
    let none : Pair = record { from = 0; to = 0 } in
    let pair = get_or c.args.pairs.now c.loop-number.number none in
    let set : c.shown-shown.result.set.now ≡ c.args.set.now = ap (λ (s : Sight). s.set) (c.shown-shown.ensures ∙ c.in_ok-whole.ensures) in
    tells_more (draft_tree c.args.set.now) c.args.pairs.now c.loop-number.number none heading c.loop-number.invariant.0
    (string_bytes c.loop-number.words) (string_bytes c.push_str.new.self) (string_bytes c.in_ok-said.said) c.loop-number-test.true
    c.loop-number.invariant.2
    (c.in_ok-push_str.ensures.bytes ∙ ap (λ l. string_bytes c.loop-number.words ++ l) c.deref.ensures)
    c.loop-number.invariant.1 (subst (λ (d : Draft). TellsPair (draft_tree d) pair (string_bytes c.in_ok-said.said)) set c.in_ok-said.ensures)

pub returns-clause-said : goal.returns-clause-said
returns-clause-said c =
    subst (λ (l : List Pair). TellsRepair (draft_tree c.args.set.now) l (string_bytes c.loop-number.words))
    (take_all c.loop-number.number c.args.pairs.now (omega (arith, c.loop-number-test.false))) c.loop-number.invariant
