-- What a source can give.
use Rattle.std.specs.Prelude.{◌≡◌, ℕ, List, Option, IfSome}

-- the source can give these bytes: they are those that it has left, where it tells them
abbrev pub CanGive : Option (List ℕ) → List ℕ → Type 0
CanGive left input = IfSome left (λ bytes. input ≡ bytes)

-- some input that the source can give is so
abbrev pub ForInput : Option (List ℕ) → (List ℕ → Type 0) → Type 0
ForInput left P = (input : List ℕ) × CanGive left input × P input
