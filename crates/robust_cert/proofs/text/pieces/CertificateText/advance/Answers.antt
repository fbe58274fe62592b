use Rattle.std.proofs.Common.{◌<◌, ℕ, length, ap, arith}
use Rattle.std.proofs.lemmas.Grind.{common_steps}
use Rattle.robust_cert.specs.Pieces.{TextLeft}
use Rattle.robust_cert.proofs.Slates.{times_less}
use Rattle.robust_cert.proofs.text.pieces.CertificateText.advance.Goals as goal

pub invariant_of-self : goal.invariant_of-self
invariant_of-self c =
    let room = c.self.inside.room in
    record {
      have_reasons = c.self.invariant.have_reasons;
      have_tails = c.self.invariant.have_tails;
      have_room = c.self.invariant.have_room;
      is_wide = λ some. (c.give_next.ensures.wide room (c.self.invariant.is_wide some) (c.self.invariant.are_wide some)).1;
      are_wide = λ some. (c.give_next.ensures.wide room (c.self.invariant.is_wide some) (c.self.invariant.are_wide some)).0;
    }

pub put_entries-left-requires-clause-room : goal.put_entries-left-requires-clause-room
put_entries-left-requires-clause-room c =
    let some : 0 < length c.self.inside.left.now = grind (arith, common_steps) in
    omega (arith, c.self.invariant.is_wide some, c.clear.ensures.len, c.clear.ensures.capacity)

pub returns-clause-fewer : goal.returns-clause-fewer
returns-clause-fewer c _ =
    let some : 0 < length c.self.inside.left.now = grind (arith, common_steps) in
    let less = times_less (length c.self.inside.slates.all.items) (length c.put_entries-left.result.now) (length c.self.inside.left.now) (c.put_entries-left.ensures.fewer some) in
    omega (arith, less, ap (λ (t : TextLeft). t.steps) c.self.view_is)
