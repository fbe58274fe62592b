use Rattle.std.proofs.Common.{length, ap}
use Rattle.si_engine.proofs.WritingLaws.{may_be_cut, is_cut_back}
use Rattle.si_engine.proofs.output.printed.push_last_line.Goals as goal

pub or_cut-requires : goal.or_cut-requires
or_cut-requires c = may_be_cut _ _ _ _ c.write_last_line-written.ensures _ (ap length c.as_bytes-start.ensures.value)

pub returns : goal.returns
returns c =
    is_cut_back _ _ _ _ c.write_last_line-written.ensures _ (ap length c.as_bytes-start.ensures.value) c.or_cut.new.text c.or_cut.result
    c.or_cut.ensures.same c.or_cut.ensures.ok c.or_cut.ensures.err
