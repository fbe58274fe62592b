-- The tables and programs that words name.
use Rattle.std.specs.Prelude.{ℕ, List, Option, Some, None, option_and_then, if◌then◌else◌}
use Rattle.std.specs.List.{list_all}
use Rattle.std.specs.Char.{is_ascii}
use Rattle.prog_tree.specs.Syntax.{Name}
use Rattle.prog_check.specs.Names.{place_among}

-- a word that can be a name has ASCII bytes alone
abbrev pub text_of : List ℕ → Option Name
text_of word = if list_all is_ascii word then Some word else None

-- the number of the table or program that has this name
abbrev pub number_named : List Name → List ℕ → Option ℕ
number_named names word = option_and_then (place_among names) (text_of word)
