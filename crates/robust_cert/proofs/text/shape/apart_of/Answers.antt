use Rattle.std.proofs.Common.{◌≡◌, length, sym, ap, ◌∙◌, arith}
use Rattle.std.proofs.lemmas.Bool.Decides.{nat_tests}
use Rattle.serde_json.specs.Events.{items_len}
use Rattle.serde_json.proofs.Views.{items_len-items_view}
use Rattle.robust_cert.proofs.text.shape.apart_of.Goals as goal
use Rattle.robust_cert.proofs.text.shape.apart_of.Goals.{in_default-via-then-items-lt1, in_default-via-else-items-lt1+else-items-lt2}

pub returns-in_default-clause-misshapen : goal.returns-in_default-clause-misshapen
returns-in_default-clause-misshapen c same chain fits e =
    let one : length c.args.items.now ≡ 1 = sym (items_len-items_view c.args.items.now) ∙ ap items_len e in
    elim c.in_default.branch [ in_default-via-then-items-lt1 w ↦ grind (arith, nat_tests) | in_default-via-else-items-lt1+else-items-lt2 w ↦ grind (arith, nat_tests) ]
