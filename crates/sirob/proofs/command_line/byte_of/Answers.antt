use Rattle.std.proofs.Common.{◌≡◌, ◌∙◌, ℕ, ap, refl, Option, Some, None, Result, Ok, Err, unwrap_or}
use Rattle.std.specs.Option.{option_map_or}
use Rattle.std.specs.Str.Parse.{ParsesUnsigned, ExplainsUnsignedError, HasUnsignedDigitsIfOk}
use Rattle.clap.specs.Words.{found_of, ReadsOne}
use Rattle.clap.specs.Walk.{Text, byte_or_zero}
use Rattle.clap.proofs.WalkLemmas.{byte_read, one_text-rows}
use Rattle.sirob.proofs.command_line.byte_of.Goals as goal

-- the number that is read of a text
read_of : {E : Type 0} (gives : Text → Result ℕ E → Type 0) → ((t : Text) (r : Result ℕ E) → gives t r → ParsesUnsigned 8 10 t r)
    → (text : Option Text) (read : Option ℕ) → (text ≡ None → read ≡ None) → ((t : Text) → text ≡ Some t → ReadsOne gives t read)
    → unwrap_or read 0 ≡ option_map_or byte_or_zero text 0
read_of {E} gives parses None read none value = ap (λ (r : Option ℕ). unwrap_or r 0) (none refl)
read_of {E} gives parses (Some t) (Some n) none value = byte_read {E = E} t (Ok n) (parses t (Ok n) (value t refl))
read_of {E} gives parses (Some t) None none value = let failed = value t refl in byte_read {E = E} t (Err failed.0) (parses t (Err failed.0) failed.1)

pub returns : goal.returns
returns c =
    let found = found_of c.args.matches.now in
    c.unwrap_or.ensures
    ∙ read_of (λ bs r. ParsesUnsigned 8 10 bs r × ExplainsUnsignedError 10 bs r × HasUnsignedDigitsIfOk bs r) (λ t r given. given.0) _ c.get_one.result
    c.get_one.ensures.none c.get_one.ensures.value
    ∙ ap (λ (text : Option Text). option_map_or byte_or_zero text 0) (one_text-rows found c.args.name.now)
