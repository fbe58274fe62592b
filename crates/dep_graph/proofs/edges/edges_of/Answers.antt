use Rattle.std.proofs.Common.{◌∙◌, ◌<◌, ℕ, List, length, take_all, ap, sym, subst, arith}
use Rattle.std.proofs.lemmas.Option.{get_or_from_slice_get}
use Rattle.order_facts.specs.Square.{IsEmptySquare}
use Rattle.prog_check.specs.declared.path.Path.{Path}
use Rattle.conflict_pairs.specs.Classed.{ClassAnswer}
use Rattle.dep_graph.specs.Edges.{EntersAnswer}
use Rattle.dep_graph.proofs.Answering.{edges-told, vulnerable-told}
use Rattle.dep_graph.proofs.Entering.{GiveAnswers, GiveAnswers-begun, GiveAnswers-more}
use Rattle.dep_graph.proofs.edges.edges_of.Goals as goal
use Rattle.prog_tree.proofs.Elements.{element_at}

pub loop-n-init : goal.loop-n-init
loop-n-init c =
    let tables = c.in_ok-tables.tables in
    let nodes = ap (λ (paths : List Path). length paths) c.paths-nodes.ensures.paths in
    let edges = c.in_ok-tables.ensures.edges in
    let vulnerable = c.in_ok-tables.ensures.vulnerable in
    record {
      given =
          GiveAnswers-begun tables (length c.args.table.now.paths)
          (subst (λ (n : ℕ). IsEmptySquare tables.edges n) nodes edges) (subst (λ (n : ℕ). IsEmptySquare tables.vulnerable n) nodes vulnerable);
      nodes = record { edges = edges.size_is ∙ sym c.in_ok-set.ensures.size_is; vulnerable = vulnerable.size_is ∙ sym c.in_ok-set.ensures.size_is };
    }

pub loop-n-preserved : goal.loop-n-preserved
loop-n-preserved c =
    let answers = c.args.table.now.answers in
    let n = c.loop-n.n in
    let inside : n < length answers = omega (arith, c.loop-n-test.true, c.len-n-end.ensures) in
    let e = element_at answers n inside in
    let old = c.loop-n.tables in
    let new = c.enter_answer.new.tables in
    let entered = c.enter_answer.ensures.entered e.0 e.1 in
    let own = subst (λ (a : ClassAnswer). EntersAnswer old new a) (sym (get_or_from_slice_get answers n e.0 e.0 e.1)) entered in
    let size = c.enter_answer.ensures.size in
    let before = c.loop-n.invariant in
    record {
      given = GiveAnswers-more answers n e.0 inside old new (length c.args.table.now.paths) before.given own;
      nodes = record { edges = entered.edges.size ∙ before.nodes.edges ∙ sym size; vulnerable = entered.vulnerable.size ∙ before.nodes.vulnerable ∙ sym size };
    }

pub returns : goal.returns
returns c =
    let t = c.args.table.now in
    let tables = c.loop-n.tables in
    let give =
    subst (λ (answers : List ClassAnswer). GiveAnswers tables (length t.paths) answers)
    (take_all c.loop-n.n t.answers (omega (arith, c.loop-n-test.false, c.len-n-end.ensures))) c.loop-n.invariant.given in
    record { edges = edges-told t c.paths-nodes.ensures.all tables give; vulnerable = vulnerable-told t c.paths-nodes.ensures.all tables give }
