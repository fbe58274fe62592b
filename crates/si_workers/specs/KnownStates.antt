-- The states that a book was in.
use Rattle.std.specs.Prelude.{◌≡◌, ℕ, ◌≤◌, List, length, Some, slice_get}
use Rattle.prog_tree.specs.Table.{TableState}
use Rattle.history_book.specs.View.{BookView, state_in}

-- each is the book's state after as many commits as its place says
abbrev pub AreStatesOf : BookView → List TableState → Type 0
AreStatesOf v states =
    (n : ℕ) → (m : TableState) → slice_get states n ≡ Some m → (n ≤ length v.rows) × (m ≡ state_in v n)
