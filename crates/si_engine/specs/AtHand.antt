-- What a contract sees of bytes at hand, and of a reader or a writer as a port.
use Rattle.std.specs.Prelude.{◌≡◌, ℕ, false, List}
use Rattle.si_engine.specs.declared.input.bytes.Bytes.{Bytes}
use Rattle.si_engine.specs.declared.port.Port.{Port}

-- the bytes that no pull has given yet
abbrev pub bytes_left : Bytes → List ℕ
bytes_left bytes = bytes.left.now

-- no pull was answered yet, and none failed
abbrev pub IsUnpulled : Bytes → Type 0
IsUnpulled bytes = (bytes.pulls ≡ 0) × (bytes.broken ≡ false)

-- the reader or the writer
abbrev pub inner_of : {T : Type 0} → Port T → T
inner_of port = port.inner

-- no pull was answered yet, and nothing failed
abbrev pub IsUnused : {T : Type 0} → Port T → Type 0
IsUnused port = (port.pulls ≡ 0) × (port.broken ≡ false)
