use Rattle.std.proofs.Common.{◌≡◌, ◌<◌, ◌≤◌, ◌+◌, false, vec_len}
use Rattle.std.specs.Io.KnownBytes.{Consumes}
use Rattle.si_engine.specs.Limits.{input_limit}
use Rattle.si_engine.proofs.input.source.read_whole.Given as goal

abbrev pub invariant-loop-turn : goal.invariant-loop-turn
invariant-loop-turn g l = record {
  working : g.S.Source.has_failed l.source ≡ false;
  taken : Consumes (g.S.Source.left l.fn.source) (g.S.Source.left l.source) l.all.items;
  fits : vec_len l.all ≤ input_limit;
  some_each : l._turn ≤ vec_len l.all;
  counted : g.S.Source.pulls l.source ≡ g.S.Source.pulls l.fn.source + l._turn;
  room : 0 < vec_len l.piece;
}
