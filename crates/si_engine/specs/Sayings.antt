-- What the lines of a part say, one after another, or the first fault.
use Rattle.std.specs.Prelude.{◌≡◌, ℕ, ◌+◌, ◌<◌, ◌≤◌, List, [], ◌∷◌, ◌++◌, length, Option, Some, None, Result, Ok, Err}
use Rattle.si_engine.specs.declared.input.line_fault.LineFault.{LineFault}
use Rattle.si_engine.specs.declared.input.part_fault.PartFault.{PartFault}
use Rattle.si_engine.specs.declared.input.part_fault.PartFault.TheVariants as fault
use Rattle.si_engine.specs.declared.input.source.InputFault.TheVariants as input_fault
use Rattle.si_engine.specs.Lines.{lines_of}
use Rattle.si_engine.specs.Limits.{input_limit}
use Rattle.si_engine.specs.LineFaults.{◌>>=◌, Fails, IsFault}

-- a saying behind others, unless it is wrong there
abbrev pub behind : {S : Type 0} → Option LineFault → List S → S → Result (List S) LineFault
behind None before said = Ok (before ++ said ∷ [])
behind (Some fault) before said = Err fault

-- what lines from a number on say, behind what the lines before said; or the first fault
unfoldable pub sayings_from :
    {S : Type 0} → (say : (line : ℕ) → List ℕ → Result S LineFault) →
    (wrong : (line : ℕ) → List S → S → Option LineFault) →
    (line : ℕ) → (before : List S) → List (List ℕ) → Result (List S) LineFault
sayings_from say wrong line before [] = Ok before
sayings_from say wrong line before (bytes ∷ lines) = do
  said ← say line bytes
  sayings ← behind (wrong line before said) before said
  sayings_from say wrong (line + 1) sayings lines

-- what all lines of a part say, which are counted from 1; or the first fault
abbrev pub all_sayings :
    {S : Type 0} → (say : (line : ℕ) → List ℕ → Result S LineFault) →
    (wrong : (line : ℕ) → List S → S → Option LineFault) → (part : List ℕ) → Result (List S) LineFault
all_sayings say wrong part = sayings_from say wrong 1 [] (lines_of part)

-- what they make together
abbrev pub made_of :
    {S W : Type 0} → (say : (line : ℕ) → List ℕ → Result S LineFault) →
    (wrong : (line : ℕ) → List S → S → Option LineFault) →
    (whole : List S → W) → (part : List ℕ) → Result W LineFault
made_of say wrong whole part = do
  sayings ← all_sayings say wrong part
  Ok (whole sayings)

-- whatever sayings made the old whole, this one is right behind them, and they make the new one with it
abbrev pub TakesUp :
    {S W : Type 0} → (wrong : (line : ℕ) → List S → S → Option LineFault) → (whole : List S → W) →
    (line : ℕ) → (said : S) → (old new : W) → Type 0
TakesUp {S = S} wrong whole line said old new =
    (before : List S) → old ≡ whole before → (wrong line before said ≡ None) × (new ≡ whole (before ++ said ∷ []))

-- whatever sayings made the old whole, this is what is wrong with one behind them
abbrev pub IsMisplaced :
    {S W : Type 0} → (wrong : (line : ℕ) → List S → S → Option LineFault) → (whole : List S → W) →
    (line : ℕ) → (said : S) → (old : W) → (fault : LineFault) → Type 0
IsMisplaced {S = S} wrong whole line said old fault =
    (before : List S) → old ≡ whole before → IsFault fault (wrong line before said)

-- the bytes of a part are read as this, without a fault
pub record IsPart {Y : Type 0} (found : Result Y LineFault) (part : List ℕ) (whole : Y) : Type 0 where
  pub short : length part ≤ input_limit
  pub read : found ≡ Ok whole

-- the bytes of a part can't be read without a fault, and this is the first; want of memory says nothing of them
abbrev pub IsPartFault : {Y : Type 0} → Result Y LineFault → (part : List ℕ) → PartFault → Type 0
IsPartFault read part (fault.Input input_fault.TooLong) = input_limit < length part
IsPartFault read part (fault.Input input_fault.ReadFault) = ⊥
IsPartFault read part (fault.Input input_fault.Memory) = Unit {0}
IsPartFault read part (fault.Line f) = (length part ≤ input_limit) × Fails f read
IsPartFault read part fault.WriteFault = ⊥
