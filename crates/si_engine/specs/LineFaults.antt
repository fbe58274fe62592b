-- Lines that are read or have a fault, in definitions and in code.
use Rattle.std.specs.Prelude.{◌≡◌, Option, Some, Result, Ok, Err}
use Rattle.si_engine.specs.declared.input.line_fault.LineFault.{LineFault}
use Rattle.si_engine.specs.declared.input.line_fault.LineFault.TheVariants.{Memory}

-- one step after another, up to the first fault
infixl 10 ◌>>=◌
abbrev pub ◌>>=◌ : {A B : Type 0} → Result A LineFault → (A → Result B LineFault) → Result B LineFault
(Ok x) >>= f = f x
(Err fault) >>= f = Err fault

-- the definition finds this fault; want of memory says nothing of it
abbrev pub IsFault : LineFault → Option LineFault → Type 0
IsFault Memory found = Unit {0}
IsFault fault found = found ≡ Some fault

-- the definition reads nothing, for this fault; want of memory says nothing of it
abbrev pub Fails : {Y : Type 0} → LineFault → Result Y LineFault → Type 0
Fails Memory read = Unit {0}
Fails fault read = read ≡ Err fault

-- the code reads what the definition reads, unless memory runs out
abbrev pub Reads : {X Y : Type 0} → (X → Y) → Result X LineFault → Result Y LineFault → Type 0
Reads view (Ok x) read = read ≡ Ok (view x)
Reads view (Err fault) read = Fails fault read
