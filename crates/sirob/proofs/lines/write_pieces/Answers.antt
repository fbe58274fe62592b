use Rattle.std.proofs.Common.{rules}
use Rattle.robust_cert.specs.Pieces.{text_left}
use Rattle.sirob.proofs.PieceLaws.{first_taken, first_lost, next_taken, next_lost, all_taken}
use Rattle.sirob.proofs.lines.write_pieces.Goals as goal
use Rattle.prog_tree.proofs.Outcomes.{on_any_err}

pub returns-in_err-write_whole-clause-first : goal.returns-in_err-write_whole-clause-first
returns-in_err-write_whole-clause-first g c =
    on_any_err c.from_residual.result
    (first_lost (g.K.Sink.taken c.args.sink.now) (g.K.Sink.taken c.write_whole.new.sink) c.args.text.now c.piece.result.now c.as_bytes.result.now
    c.piece.ensures c.as_bytes.ensures.value c.in_err-write_whole.ensures.first)

pub loop-text-init : goal.loop-text-init
loop-text-init g c = record {
  working = search rules;
  given =
      first_taken (g.K.Sink.taken c.args.sink.now) (g.K.Sink.taken c.write_whole.new.sink) c.args.text.now c.piece.result.now c.as_bytes.result.now
      c.piece.ensures c.as_bytes.ensures.value c.in_ok-write_whole.ensures.whole;
}

pub loop-text-preserved : goal.loop-text-preserved
loop-text-preserved g c = record {
  working = search rules;
  given =
      next_taken (g.K.Sink.taken c.args.sink.now) (g.K.Sink.taken c.loop-text.sink) (g.K.Sink.taken c.write_whole-in-loop-text.new.sink) c.loop-text.text c.advance_par.new.self c.piece-in-loop-text.result.now c.as_bytes-in-loop-text.result.now (text_left c.args.text.now)
      c.advance_par.ensures.text c.piece-in-loop-text.ensures c.as_bytes-in-loop-text.ensures.value c.loop-text.invariant.given c.in_ok-write_whole-2.ensures.whole;
}

pub loop-text-smaller : goal.loop-text-smaller
loop-text-smaller g c = c.advance_par.ensures.fewer (c.has_more.ensures.more (search rules))

pub returns-in_err-write_whole-2-clause-first : goal.returns-in_err-write_whole-2-clause-first
returns-in_err-write_whole-2-clause-first g c =
    on_any_err c.from_residual-in_err-write_whole-2.result
    (next_lost (g.K.Sink.taken c.args.sink.now) (g.K.Sink.taken c.loop-text.sink) (g.K.Sink.taken c.write_whole-in-loop-text.new.sink) c.loop-text.text c.advance_par.new.self c.piece-in-loop-text.result.now c.as_bytes-in-loop-text.result.now (text_left c.args.text.now)
    c.advance_par.ensures.text c.piece-in-loop-text.ensures c.as_bytes-in-loop-text.ensures.value c.loop-text.invariant.given c.in_err-write_whole-2.ensures.first)

pub returns-clause-whole : goal.returns-clause-whole
returns-clause-whole g c =
    all_taken (g.K.Sink.taken c.args.sink.now) (g.K.Sink.taken c.loop-text.sink) c.loop-text.text.behind (text_left c.args.text.now) c.loop-text.invariant.given (c.has_more.ensures.end (search rules))
