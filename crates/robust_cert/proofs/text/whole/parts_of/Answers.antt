use Rattle.std.proofs.Common.{length, ap}
use Rattle.std.proofs.lemmas.Bool.{false≢true}
use Rattle.robust_cert.proofs.Members.{not_four}
use Rattle.robust_cert.proofs.text.whole.parts_of.Goals as goal

pub returns-then-not-is_empty-clause-none : goal.returns-then-not-is_empty-clause-none
returns-then-not-is_empty-clause-none c =
    not_four _ _ _ c.take_member-3.new.members.entries _ _ _ _ _ _ c.in_ok-entries.ensures.some c.in_ok-levels.ensures.some c.in_ok-_version.ensures.some
    (λ e. false≢true (c.if-not-is_empty.ensures.1 (ap length e)))
