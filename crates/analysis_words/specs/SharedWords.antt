-- Words that several sentences have.
use Rattle.std.specs.Prelude.{ℕ, ◌==◌, if◌then◌else◌, List, [], ◌++◌, codes}
use Rattle.std.specs.Fmt.{decimal}

-- what stands before a node or a program that is named behind another, where it is the same
abbrev pub other_run : (first second : ℕ) → List ℕ
other_run first second = if first == second then codes "another " else []

-- how many are not named behind those that are; nothing where there is none
abbrev pub more_text : (count : ℕ) → List ℕ
more_text count = if count == 0 then [] else codes ", and " ++ (decimal count ++ codes " more")
