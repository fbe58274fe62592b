-- Keys of maps: what they stand for, and their orders.
use Rattle.std.specs.Cmp.Lexicographic.{slice_cmp}
use Rattle.std.specs.Ordering.{nat_cmp, int_cmp, ordering_then}
use Rattle.std.specs.declared.cmp.Ordering.{Ordering}
use Rattle.prog_tree.specs.Table.{cell_cmp}
use Rattle.prog_tree.specs.declared.deed.Cause.{Cause}
use Rattle.prog_tree.specs.declared.deed.Cause.TheVariants as cause
use Rattle.version_store.specs.declared.clash.Clash.{Clash}
use Rattle.si_engine.specs.Headline.{Call}
use Rattle.si_workers.specs.contracts.keys.CauseKeyOrd.TheImpl.{cmp-value}
use Rattle.si_workers.specs.declared.keys.AbortKey.{AbortKey}
use Rattle.si_workers.specs.declared.keys.CallKey.{CallKey}
use Rattle.si_workers.specs.declared.keys.CauseKey.{CauseKey}
use Rattle.si_workers.specs.declared.keys.CauseKey.TheVariants.{Asked, Missing, Present, Overflow}
use Rattle.si_workers.specs.declared.keys.ClashKey.{ClashKey}

-- ---- what keys stand for

abbrev pub call_at : CallKey → Call
call_at k = record { program = k.program; args = k.args.now }

abbrev pub cause_at : CauseKey → Cause
cause_at Asked = cause.Asked
cause_at (Missing cell) = cause.Missing cell
cause_at (Present cell) = cause.Present cell
cause_at Overflow = cause.Overflow

abbrev pub clash_at : ClashKey → Clash
clash_at k = record { cell = k.cell; number = k.number }

-- ---- their orders

abbrev pub call_cmp : CallKey → CallKey → Ordering
call_cmp a b = ordering_then (nat_cmp a.program b.program) (slice_cmp int_cmp a.args.now b.args.now)

-- the order that its type derives
abbrev pub cause_cmp : CauseKey → CauseKey → Ordering
cause_cmp = cmp-value.it

abbrev pub abort_cmp : AbortKey → AbortKey → Ordering
abort_cmp a b = ordering_then (call_cmp a.call b.call) (cause_cmp a.cause b.cause)

abbrev pub clash_cmp : ClashKey → ClashKey → Ordering
clash_cmp a b =
    ordering_then (nat_cmp a.number b.number) (ordering_then (cell_cmp a.cell b.cell) (call_cmp a.call b.call))
