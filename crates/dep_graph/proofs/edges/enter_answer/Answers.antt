use Rattle.std.proofs.Common.{◌∙◌, ap, sym}
use Rattle.conflict_pairs.specs.Verdicts.{can_meet}
use Rattle.dep_graph.proofs.Answering.{EntersAnswer-apart, EntersAnswer-given}
use Rattle.dep_graph.proofs.edges.enter_answer.Goals as goal

pub returns-then-not-can_meet-clause-entered : goal.returns-then-not-can_meet-clause-entered
returns-then-not-can_meet-clause-entered c =
    λ e at. EntersAnswer-apart e c.args.tables.now (ap can_meet (sym (c.verdict-verdict.ensures e at)) ∙ sym c.can_meet.ensures ∙ c.if-not-can_meet.true)

pub returns-clause-entered : goal.returns-clause-entered
returns-clause-entered c =
    λ e at. EntersAnswer-given e c.args.tables.now c.enter_given.new.tables _ _ _ _ _ c.gives_by-given.result c.first_nodes-firsts.result.now c.second_nodes-seconds.result.now
    c.can_meet-2.ensures c.is_exposed.ensures c.gives_by-given.ensures (c.kinds-mine.ensures e at) (c.verdict-verdict.ensures e at) (c.first_nodes-firsts.ensures e at) (c.second_nodes-seconds.ensures e at)
    c.enter_given.ensures.edges c.enter_given.ensures.vulnerable
