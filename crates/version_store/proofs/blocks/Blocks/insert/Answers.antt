use Rattle.std.proofs.Common.{subst, sym}
use Rattle.prog_tree.specs.declared.cell.Cell.{Cell}
use Rattle.version_store.specs.Blocks.{AreApart, IsPut, LeavesFree, one_block}
use Rattle.version_store.proofs.ApartLaws.{apart_new, one_high, one_low}
use Rattle.version_store.proofs.BlockLaws.{put_true, true_from}
use Rattle.version_store.proofs.blocks.Blocks.insert.Goals as goal

pub invariant_of-self : goal.invariant_of-self
invariant_of-self c = subst AreApart (sym c.in_err-insert.ensures.err) c.self.invariant

pub invariant_of-self-2 : goal.invariant_of-self-2
invariant_of-self-2 c =
    let free = rw (← c.self.view_is) at (c.is_free.ensures.0 c.if-not-is_free.false) in
    apart_new c.self.inside.slots.entries c.insert.new.self.entries c.in-Some.low c.in-Some.high _ c.in-Some.ensures free c.in_ok-insert.ensures.updates.0 c.self.invariant

pub returns : goal.returns
returns c =
    let m = c.self.inside.slots.entries in
    let n = c.insert.new.self.entries in
    let put = c.in_ok-insert.ensures.updates.0 in
    rw (← c.self.view_is) (record {
      inserted = λ low high corners free.
          subst (λ h. IsPut m n h (one_block c.args.region.now c.args.block)) (sym (one_high c.args.region.now low high c.in-Some.low c.in-Some.high corners c.in-Some.ensures)) put;
      stays = λ chains fresh floor all. put_true floor chains m n c.in-Some.high _ (true_from floor chains _ _ fresh, tt) put all;
    })

pub returns-then-not-is_free-clause-inserted : goal.returns-then-not-is_free-clause-inserted
returns-then-not-is_free-clause-inserted c = λ low high corners free.
    let first = one_low c.args.region.now low high c.in-Some.low c.in-Some.high corners c.in-Some.ensures in
    let last = one_high c.args.region.now low high c.in-Some.low c.in-Some.high corners c.in-Some.ensures in
    let is = c.is_free.ensures.1 (subst (λ (l : Cell). LeavesFree l c.in-Some.high c.args.self.now) first (subst (λ (h : Cell). LeavesFree low h c.args.self.now) last free)) in
    absurd (cc)
