use Rattle.std.proofs.Common.{ℕ, sym, subst, arith}
use Rattle.std.specs.Prelude.{All}
use Rattle.robust_cert.specs.Parts.{HasRoomFor}
use Rattle.robust_cert.proofs.Slates.{one_fits}
use Rattle.robust_cert.proofs.text.slates.Slate.take.Goals as goal

pub returns-clause-fewer : goal.returns-clause-fewer
returns-clause-fewer c some =
    let rs = c.args.reasons.now in
    let short = subst (λ (n : ℕ). All (HasRoomFor n) rs) (sym c.capacity.ensures) c.requires.has_room in
    let one = one_fits rs c.args.told.now c.fitting-count.result c.capacity.result c.requires.have_reasons short c.fitting-count.ensures.full some in
    omega (arith, one, c.split_at.ensures.back_len, c.fitting-count.ensures.within)
