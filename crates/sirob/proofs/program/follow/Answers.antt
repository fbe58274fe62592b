use Rattle.std.proofs.Common.{map, string_bytes}
use Rattle.clap.specs.Words.{kind_of}
use Rattle.si_engine.proofs.SinkLaws.{writes_as}
use Rattle.sirob.specs.declared.status.Status.TheVariants as status
use Rattle.sirob.specs.Output.{IsReply}
use Rattle.sirob.specs.Program.{IsModeless, IsEnd, done, no_mode}
use Rattle.sirob.proofs.program.follow.Goals as goal

pub returns-in-Ok-clause-end : goal.returns-in-Ok-clause-end
returns-in-Ok-clause-end g c =
    let words = map string_bytes c.args.words.now in
    let left = g.S.Source.left c.args.source.now in
    let failed = g.S.Source.has_failed c.run_mode.new.source in
    let mode = c.in-Ok.mode in
    let read = c.in-Ok.ensures in
    writes_as status.Faulty (IsReply mode left failed) (IsEnd words left failed) _ _ _ _ (done mode read.fault read.meaning) c.run_mode.ensures.reply

pub returns-in-Err-clause-end : goal.returns-in-Err-clause-end
returns-in-Err-clause-end g c =
    let words = map string_bytes c.args.words.now in
    let left = g.S.Source.left c.args.source.now in
    let failed = g.S.Source.has_failed c.args.source.now in
    let kind = kind_of c.in-Err.error in
    writes_as status.Faulty (IsModeless kind) (IsEnd words left failed) _ _ _ _ (no_mode kind c.in-Err.ensures.fault) c.refuse_words.ensures

pub returns-in-Ok-clause-unread : goal.returns-in-Ok-clause-unread
returns-in-Ok-clause-unread g c = λ given. absurd (given.faulty c.in-Ok.ensures.fault)
