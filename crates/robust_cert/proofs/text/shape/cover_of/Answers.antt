use Rattle.std.proofs.Common.{◌≡◌, length, sym, ap, ◌∙◌, arith}
use Rattle.std.proofs.lemmas.Bool.Decides.{nat_tests}
use Rattle.serde_json.specs.Events.{items_len}
use Rattle.serde_json.proofs.Views.{items_len-items_view}
use Rattle.robust_cert.proofs.text.shape.cover_of.Goals as goal
use Rattle.robust_cert.proofs.text.shape.cover_of.Goals.{in_default-via-then-items-lt3, in_default-via-else-items-lt3+else-items-lt4}

pub returns-in_default-clause-misshapen : goal.returns-in_default-clause-misshapen
returns-in_default-clause-misshapen c same mine theirs chains small small' fits e =
    let three : length c.args.items.now ≡ 3 = sym (items_len-items_view c.args.items.now) ∙ ap items_len e in
    elim c.in_default.branch [ in_default-via-then-items-lt3 w ↦ grind (arith, nat_tests) | in_default-via-else-items-lt3+else-items-lt4 w ↦ grind (arith, nat_tests) ]
