-- What it means that one value serves many keys.
use Rattle.std.specs.Prelude.{◌≡◌, ℕ, List, All, Some, slice_get}
use Rattle.std.specs.List.{AllZip}

-- the value of this number serves a key
pub record IsServed {Key Value : Type 0} (Serves : Key → Value → Type 0)
    (values : List Value) (key : Key) (n : ℕ) : Type 0 where
  pub value : Value
  pub at : slice_get values n ≡ Some value
  pub serves : Serves key value

-- values that are sound, and for each key the number of one that serves it
pub record AreInterned {Key Value : Type 0} (IsSound : Value → Type 0) (Serves : Key → Value → Type 0)
    (keys : List Key) (values : List Value) (numbers : List ℕ) : Type 0 where
  pub sound : All IsSound values
  pub served : AllZip (IsServed Serves values) keys numbers
