use Rattle.std.proofs.Common.{length, ap, arith}
use Rattle.robust_cert.proofs.Pieces.{second_length}
use Rattle.robust_cert.proofs.text.middles.Middles.put_access.Goals as goal

pub put_str-requires : goal.put_str-requires
put_str-requires c = omega (arith, c.requires, ap length c.in-Some.ensures.text, second_length c.args.question c.in-Some.ensures.fits)

pub returns-in-Some-clause-len : goal.returns-in-Some-clause-len
returns-in-Some-clause-len c = omega (arith, c.put_str.ensures.len, ap length c.in-Some.ensures.text, second_length c.args.question c.in-Some.ensures.fits)
