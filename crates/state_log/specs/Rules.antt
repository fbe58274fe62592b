-- The rule of the list, and what its steps tell.
use Rattle.std.specs.Prelude.{ℕ, ◌≡◌, ◌<◌, ◌==◌, true, List, [], ◌∷◌, ◌++◌, length, MatchBool}
use mathlib.Core.List.{IsPrefix}
use Rattle.logbook.specs.Pages.{Cell, Step, View, Book, Named}
use Rattle.prog_tree.specs.Table.{TableState}

-- the first word is the length of the list. A book has two words, of which this one leaves the second at 0
abbrev pub IsCounted : List Cell → List TableState → Type 0
IsCounted cells log = cells ≡ (length log, true) ∷ (0, true) ∷ []

abbrev pub head_of : Book → Named
head_of b = record { tracked = true; key = 0; book = b }

-- the state was added to all that had been seen; or the list was longer, and was seen
abbrev pub Adds : Step TableState → View TableState ℕ → ℕ → View TableState ℕ → Type 0
Adds s v found w = MatchBool (found == s.old) (w.0 ≡ v.0 ++ s.ask ∷ []) (length w.0 ≡ found)

-- the same list later, when states were added to it
abbrev pub IsLonger : List TableState → List TableState → Type 0
IsLonger before after = IsPrefix before after × (length before < length after)
