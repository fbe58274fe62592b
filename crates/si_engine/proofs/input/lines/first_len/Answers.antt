use Rattle.std.proofs.Common.{◌==◌, ℕ, slice_index, sym}
use Rattle.std.proofs.lemmas.Bool.{eq-eqb, ne_eqb}
use Rattle.std.proofs.lemmas.List.Sums.{position_or_len_is}
use Rattle.si_engine.proofs.input.lines.first_len.Goals as goal

pub returns-clause-value : goal.returns-clause-value
returns-clause-value c =
    let bytes = c.args.bytes.now in
    let separator = c.args.separator in
    let place = c.first_place.result in
    sym (position_or_len_is (λ (b : ℕ). b == separator) bytes place 0 c.first_place.ensures.within
    (λ k less. ne_eqb (slice_index bytes k) separator (c.first_place.ensures.before k less))
    (λ inside. eq-eqb (slice_index bytes place) separator (c.first_place.ensures.there inside)))
