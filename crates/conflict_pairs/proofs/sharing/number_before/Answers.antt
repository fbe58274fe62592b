use Rattle.std.proofs.Common.{sym, ap, ◌∙◌, arith}
use Rattle.std.specs.Prelude.{Some}
use Rattle.std.proofs.lemmas.Option.{slice_get-get_or}
use Rattle.conflict_pairs.specs.Interning.{IsServed}
use Rattle.conflict_pairs.specs.Sharing.{IsOnPair}
use Rattle.conflict_pairs.proofs.Zipped.{AllZip-lengths}
use Rattle.conflict_pairs.proofs.SharedVerdicts.{kept-on, kept-there}
use Rattle.conflict_pairs.proofs.sharing.number_before.Goals as goal

pub bounds-numbers-place : goal.bounds-numbers-place
bounds-numbers-place c =
    let long = AllZip-lengths (IsServed (IsOnPair c.args.paths.now c.args.places.now) c.args.values.now) c.args.before.now c.args.numbers.now c.requires.judged in
    omega (arith, c.if-place-before.false, long)

pub bounds-values-number : goal.bounds-values-number
bounds-values-number c = kept-there c.args.paths.now c.args.places.now c.args.before.now c.args.numbers.now c.args.values.now c.args.place c.requires.judged c.if-place-before.false

pub is_shared-requires-clause-kept : goal.is_shared-requires-clause-kept
is_shared-requires-clause-kept c =
    kept-on c.args.paths.now c.args.places.now c.args.before.now c.args.numbers.now c.args.values.now c.args.place _ c.question_of-other.result c.index-values-number.result _ c.requires.judged c.if-place-before.false c.question_of-other.ensures c.index-values-number.is

pub returns-then-is_shared : goal.returns-then-is_shared
returns-then-is_shared c = record {
  value = c.index-values-number.result;
  at =
      slice_get-get_or c.args.values.now _ _ (kept-there c.args.paths.now c.args.places.now c.args.before.now c.args.numbers.now c.args.values.now c.args.place c.requires.judged c.if-place-before.false)
      ∙ ap Some (sym c.index-values-number.is);
  serves = c.is_shared.ensures c.if-is_shared.true;
}
