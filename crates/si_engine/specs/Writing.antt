-- What a write that fails leaves behind.
use Rattle.std.specs.Prelude.{◌≡◌, ℕ, Bool, true, false, List, ◌++◌, Option, Result, Ok, Err, OnOk, OnErr, take, string_bytes}
use Rattle.std.specs.declared.alloc.AllocError.{AllocError}
use Rattle.std.specs.declared.string.String.{String}
use Rattle.std.specs.Io.KnownBytes.{Appends}

-- known bytes grow by some first bytes of bs
abbrev pub AppendsFront : Option (List ℕ) → Option (List ℕ) → List ℕ → Type 0
AppendsFront old new bs = (n : ℕ) × Appends old new (take n bs)

-- such bytes were written, and such an end is told; a sink that failed has some first of such bytes, and it is told
-- that it did
abbrev pub WritesOr :
    {E : Type 0} (lost : E) → (List ℕ → E → Type 0) → (failed : Bool) → Option (List ℕ) → Option (List ℕ) → E → Type 0
WritesOr lost P false old new ended = (written : List ℕ) × P written ended × Appends old new written
WritesOr {E = E} lost P true old new ended =
    (ended ≡ lost) × (written : List ℕ) × (meant : E) × P written meant × AppendsFront old new written

-- these bytes and this end
abbrev pub IsJust : {E : Type 0} → List ℕ → E → List ℕ → E → Type 0
IsJust bytes end written ended = (written ≡ bytes) × (ended ≡ end)

-- a text is under way: some first bytes of it were written, and the rest waits
abbrev pub IsUnderWay : (waiting : List ℕ) → Option (List ℕ) → Option (List ℕ) → List ℕ → Type 0
IsUnderWay waiting old new text = (sent : List ℕ) × (text ≡ sent ++ waiting) × Appends old new sent

-- a text with such an end is under way; a sink that failed has some first bytes of such a text
abbrev pub WritesSoFar :
    {E : Type 0} → (List ℕ → E → Type 0) → (waiting : List ℕ) → (failed : Bool) → Option (List ℕ) → Option (List ℕ) →
    E → Type 0
WritesSoFar P waiting false old new ended = (text : List ℕ) × P text ended × IsUnderWay waiting old new text
WritesSoFar {E = E} P waiting true old new ended =
    (text : List ℕ) × (meant : E) × P text meant × AppendsFront old new text

-- a text still begins as it did
unfoldable pub Keeps : List ℕ → List ℕ → Type 0
Keeps before after = (rest : List ℕ) × (after ≡ before ++ rest)

-- these bytes were added to a text; where memory ran out, it still begins as it did
unfoldable pub AddsBytes : {Z : Type 0} → (old new : String Z) → Result (Unit {0}) AllocError → List ℕ → Type 0
AddsBytes old new (Ok done) bytes = string_bytes new ≡ string_bytes old ++ bytes
AddsBytes old new (Err e) bytes = Keeps (string_bytes old) (string_bytes new)

-- these bytes were added to a text; where memory ran out, it is as it was
pub record AddsOrStays {Z : Type 0} (old new : String Z) (result : Result (Unit {0}) AllocError) (bytes : List ℕ) : Type 0 where
  pub ok : OnOk result (string_bytes new ≡ string_bytes old ++ bytes)
  pub err : OnErr result (string_bytes new ≡ string_bytes old)
