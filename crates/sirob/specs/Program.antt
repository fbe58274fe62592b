-- What the program does with the words of its command line.
use Rattle.std.specs.Prelude.{◌≡◌, ◌≢◌, ◌⊎◌, ℕ, Bool, true, false, List, [], Option}
use Rattle.clap.specs.Faults.{fault_of}
use Rattle.clap.specs.Kinds.{IsAmong}
use Rattle.clap.specs.Simple.{subcommand_of}
use Rattle.clap.specs.Walk.{Text}
use Rattle.clap.specs.declared.error.kind.ErrorKind.{ErrorKind}
use Rattle.clap.specs.declared.error.kind.ErrorKind.TheVariants.{DisplayHelp, DisplayVersion, OutOfMemory}
use Rattle.std.specs.declared.io.ErrorKind.{ErrorKind as IoKind}
use Rattle.std.specs.declared.io.ErrorKind.TheVariants as io
use Rattle.sirob.specs.CommandLine.{sirob_app, IsNamedBy}
use Rattle.sirob.specs.Output.{IsReply, memory_line}
use Rattle.sirob.specs.declared.command_line.Mode.{Mode}
use Rattle.sirob.specs.declared.status.Status.{Status}
use Rattle.sirob.specs.declared.status.Status.TheVariants.{Done, Faulty, Memory}

-- the words ask for a text, which help and the version are
abbrev pub is_text : ErrorKind → Bool
is_text DisplayHelp = true
is_text DisplayVersion = true
is_text kind = false

-- the words name no mode: they are mistaken, or ask for a text
pub record NameNoMode (words : List Text) : Type 0 where
  pub faulty : fault_of sirob_app words ≢ []

-- what is written for words that name no mode, and the status behind it
pub data IsModeless : ErrorKind → List ℕ → Status → Type 0 where
  -- the text that is asked for
  told : (kind : ErrorKind) → is_text kind ≡ true → (text : List ℕ) → IsModeless kind text Done
  -- the line of want of memory, where it lacks for the text
  untold : (kind : ErrorKind) → is_text kind ≡ true → IsModeless kind memory_line Memory
  -- or where it lacks for the words
  stopped : IsModeless OutOfMemory memory_line Memory
  -- nothing, where the words are mistaken
  mistaken : (kind : ErrorKind) → is_text kind ≡ false → kind ≢ OutOfMemory → IsModeless kind [] Faulty

-- what is written where there are no words, and the status behind it: an argument is no text, or memory lacks
pub data IsWordless : IoKind → List ℕ → Status → Type 0 where
  no_text : (kind : IoKind) → kind ≢ io.OutOfMemory → IsWordless kind [] Faulty
  stopped : IsWordless io.OutOfMemory memory_line Memory

-- what is written for words, and the status behind it: the reply of the mode that they name, or what is written where
-- they name none
pub data IsEnd (words : List Text) (left : Option (List ℕ)) (failed : Bool) : List ℕ → Status → Type 0 where
  done : (mode : Mode) → fault_of sirob_app words ≡ [] → IsNamedBy mode (subcommand_of sirob_app words)
      → (written : List ℕ) (status : Status) → IsReply mode left failed written status
      → IsEnd words left failed written status
  no_mode : (kind : ErrorKind) → (kind ≡ OutOfMemory) ⊎ IsAmong kind (fault_of sirob_app words)
      → (written : List ℕ) (status : Status) → IsModeless kind written status → IsEnd words left failed written status
