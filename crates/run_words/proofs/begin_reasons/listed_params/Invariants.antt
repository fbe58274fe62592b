use Rattle.std.proofs.Common.{◌≡◌, string_bytes, take}
use Rattle.text_places.specs.Listing.{listed}
use Rattle.run_words.proofs.begin_reasons.listed_params.Given as goal

-- the parameters so far
abbrev pub invariant-loop-parameter : goal.invariant-loop-parameter
invariant-loop-parameter l = string_bytes l.text ≡ listed (take l.parameter-index l.params)
