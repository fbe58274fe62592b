-- Commits by what they write, and the states that they leave.
use Rattle.std.specs.Prelude.{ℕ, List, take, fold}
use Rattle.prog_tree.specs.ChangeSet.{ChangeSet, changed}
use Rattle.prog_tree.specs.Table.{TableState}

-- the state after the first n commits
abbrev pub state_at : TableState → List ChangeSet → ℕ → TableState
state_at opening ws n = fold (λ m w. changed m w.cells) opening (take n ws)
