use Rattle.std.proofs.Common.{◌≡◌, take, string_bytes}
use Rattle.text_places.specs.Listing.{further_numbers}
use Rattle.text_places.proofs.listing.further_numbers.Given as goal

-- the numbers so far are written
abbrev pub invariant-loop-number : goal.invariant-loop-number
invariant-loop-number l = string_bytes l.text ≡ further_numbers (take l.number-index l.numbers)
