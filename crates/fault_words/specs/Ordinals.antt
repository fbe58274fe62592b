-- Numbers as places in a row.
use Rattle.std.specs.Prelude.{ℕ, ◌==◌, ◌/◌, ◌%◌, List, ◌++◌, codes, if◌then◌else◌}
use Rattle.std.specs.Fmt.{decimal}

-- what stands behind the digits: `th` from 11 to 19, and else by the last digit
abbrev pub ordinal_ending : (number : ℕ) → List ℕ
ordinal_ending number =
    if (number / 10) % 10 == 1 then codes "th"
    else if number % 10 == 1 then codes "st"
    else if number % 10 == 2 then codes "nd"
    else if number % 10 == 3 then codes "rd"
    else codes "th"

-- as `33rd`
abbrev pub ordinal : (number : ℕ) → List ℕ
ordinal number = decimal number ++ ordinal_ending number
