-- A character of one byte that is added to a text.
use Rattle.std.proofs.Common.{◌≡◌, List, ◌++◌, ℕ, ◌∙◌, ap, string_bytes, Result, Ok, Err, is_ok, if◌then◌else◌}
use Rattle.std.specs.declared.alloc.AllocError.{AllocError}
use Rattle.std.specs.declared.string.String.{String}
use Rattle.si_engine.specs.Writing.{AddsBytes}
use Rattle.si_engine.proofs.KeepLaws.{keeps_same}

-- what a character is encoded as goes in as a whole, or not at all
pub writes_mark : {Z : Type 0} (old new : String Z) (r : Result (Unit {0}) AllocError) (encoded bytes : List ℕ) → string_bytes new ≡ (if is_ok r then string_bytes old ++ encoded else string_bytes old) → encoded ≡ bytes → AddsBytes old new r bytes
unfolding AddsBytes
writes_mark old new (Ok done) encoded bytes pushed is = pushed ∙ ap (λ bs. string_bytes old ++ bs) is
writes_mark old new (Err e) encoded bytes pushed is = keeps_same (string_bytes old) (string_bytes new) pushed
