-- Words of ASCII bytes are text.
use Rattle.std.proofs.Common.{◌≡◌, ℕ, ◌<◌, List, Some, Ok, Err, Result, Bor, true, arith, ap}
use Rattle.std.specs.Prelude.{IsUtf8, MatchResult}
use Rattle.std.specs.Char.{is_ascii}
use Rattle.std.specs.List.{list_all}
use Rattle.std.specs.Option.{option_copied}
use Rattle.std.specs.Result.{result_ok}
use Rattle.std.proofs.lemmas.List.Sums.{AllPass-from_list_all}
use Rattle.std.proofs.lemmas.Str.{IsUtf8-from_ascii}
use Rattle.std.proofs.lemmas.Str.Ascii.{IsAscii-from_all}
use Rattle.std.proofs.lemmas.Grind.{common_steps}

ascii_small : (b : ℕ) → is_ascii b ≡ true → b < 128
ascii_small b h = grind (arith, common_steps, h)

pub IsUtf8-from_list_all : (bytes : List ℕ) → list_all is_ascii bytes ≡ true → IsUtf8 bytes
IsUtf8-from_list_all bytes h = IsUtf8-from_ascii bytes (IsAscii-from_all bytes (λ k d within. ascii_small _ (AllPass-from_list_all is_ascii bytes h k d within)))

-- bytes that are text are read as such
pub text_read : {E : Type 0} (F : E → Type 0) (r : Result (Bor (List ℕ)) E) (bytes : List ℕ) → IsUtf8 bytes
    → MatchResult r (λ s. (s.now ≡ bytes) × IsUtf8 bytes) (λ e. (IsUtf8 bytes → ⊥) × F e) → option_copied (result_ok r) ≡ Some bytes
text_read F (Ok s) bytes text h = ap Some h.0
text_read F (Err e) bytes text h = absurd (h.0 text)
