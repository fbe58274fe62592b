use Rattle.std.proofs.Common.{◌≡◌, ◌+◌, ◌-◌, ℕ, List, Option, length, take, drop, sym, ap, rules, arith, subst}
use Rattle.std.proofs.Math.Seq.{take-add}
use Rattle.std.proofs.KnownBytes.{Appends-trans}
use Rattle.std.specs.Io.KnownBytes.{Appends}
use Rattle.std.proofs.lemmas.Grind.{common_steps}
use Rattle.std.proofs.lemmas.List.{take_rest}
use Rattle.si_engine.proofs.output.sink.write_whole.Goals as goal

-- the first m bytes, and then n more, are the first m + n
appends_more : (a b d : Option (List ℕ)) (xs : List ℕ) (m n : ℕ) → Appends a b (take m xs) → Appends b d (take n (take (length xs - m) (drop m xs)))
    → Appends a d (take (m + n) xs)
appends_more a b d xs m n first second =
    let all = ap (take n) (take_rest xs m) in
    subst (Appends a d) (sym (take-add m n xs)) (Appends-trans a b d _ _ first (subst (Appends b d) all second))

pub loop-written-preserved : goal.loop-written-preserved
loop-written-preserved g c = record {
  working = search rules;
  given = appends_more _ _ _ c.args.bytes.now c.loop-written.written c.in_ok-count.count c.loop-written.invariant.given c.in_ok-count.ensures.bytes;
  within = omega (arith, c.in_ok-count.ensures.bound);
}
