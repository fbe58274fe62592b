-- The program's command line, as `clap` reads it.
use Rattle.std.specs.Prelude.{◌≡◌, Bool, List, [], ◌∷◌, ℕ, pos, Option, Some, None, true, false, codes, option_map}
use Rattle.std.specs.Option.{option_map_or}
use Rattle.std.specs.Str.{bytes_eq}
use Rattle.clap.specs.Walk.{Rule, Row, Text, byte_or_zero, first_of, one_of}
use Rattle.clap.specs.Simple.{App, Shape, new_shape, new_rule, with_subcommand}
use Rattle.clap.specs.declared.builder.action.ArgAction.TheVariants.{Set, SetTrue}
use Rattle.clap.specs.declared.builder.value_parser.ValueParser.TheVariants as parser
use Rattle.sirob.specs.declared.command_line.Mode.{Mode}
use Rattle.sirob.specs.declared.command_line.Mode.TheVariants.{Check, Certify, Verify, Repair, Run, Audit, Work}

-- a subcommand with these arguments
abbrev pub command_with : Text → List Rule → Shape
command_with name rules = record (new_shape name) { rules = rules }

-- an argument that is on where its word stands
abbrev pub flag_rule : Text → Rule
flag_rule name = record (new_rule name) { long = Some name; action = Some SetTrue }

-- an argument that is a number from 0 to 255 behind its word, or the default
abbrev pub byte_rule : Text → (default : Text) → Rule
byte_rule name default = record (new_rule name) {
  long = Some name;
  action = Some Set;
  value_names = 1;
  parser = Some (parser.Signed (pos 0) (pos 255));
  defaults = default ∷ [];
}

abbrev pub repair_shape : Shape
repair_shape = command_with (codes "repair") (flag_rule (codes "promote") ∷ [])

abbrev pub run_shape : Shape
run_shape = command_with (codes "run") (flag_rule (codes "robust") ∷ [])

abbrev pub work_shape : Shape
work_shape = command_with (codes "work") (byte_rule (codes "workers") (codes "2") ∷ [])

-- the program's own command, with no subcommand yet
abbrev pub top_app : App
top_app = record { top = record (new_shape (codes "sirob")) { subcommand_required = true }; subs = [] }

-- and with its subcommands
abbrev pub sirob_app : App
sirob_app =
    let with_check = with_subcommand top_app (command_with (codes "check") []) in
    let with_certify = with_subcommand with_check (command_with (codes "certify") []) in
    let with_verify = with_subcommand with_certify (command_with (codes "verify") []) in
    let with_repair = with_subcommand with_verify repair_shape in
    let with_run = with_subcommand with_repair run_shape in
    let with_audit = with_subcommand with_run (command_with (codes "audit") []) in
    with_subcommand with_audit work_shape

-- the name of the subcommand
abbrev pub name_in : Option (Text × List Row) → Option Text
name_in = option_map (λ p. p.0)

-- a text is there, and is `true`
abbrev pub is_true : Option Text → Bool
is_true (Some text) = bytes_eq text (codes "true")
is_true None = false

-- whether a flag is on
abbrev pub has_flag : Text → List Row → Bool
has_flag name rows = is_true (first_of name rows)

-- and whether one of the subcommand is
abbrev pub flag_in : Text → Option (Text × List Row) → Bool
flag_in name command = option_map_or (λ p. has_flag name p.1) command false

-- the number that the text of an argument spells
abbrev pub byte_of : Text → List Row → ℕ
byte_of name rows = option_map_or byte_or_zero (one_of name rows) 0

-- and that of an argument of the subcommand
abbrev pub byte_in : Text → Option (Text × List Row) → ℕ
byte_in name command = option_map_or (λ p. byte_of name p.1) command 0

-- the mode that a subcommand with its arguments names
abbrev pub IsNamedBy : Mode → Option (Text × List Row) → Type 0
IsNamedBy Check command = name_in command ≡ Some (codes "check")
IsNamedBy Certify command = name_in command ≡ Some (codes "certify")
IsNamedBy Verify command = name_in command ≡ Some (codes "verify")
IsNamedBy (Repair promote) command =
    (name_in command ≡ Some (codes "repair")) × (promote ≡ flag_in (codes "promote") command)
IsNamedBy (Run robust) command = (name_in command ≡ Some (codes "run")) × (robust ≡ flag_in (codes "robust") command)
IsNamedBy Audit command = name_in command ≡ Some (codes "audit")
IsNamedBy (Work workers) command =
    (name_in command ≡ Some (codes "work")) × (workers ≡ byte_in (codes "workers") command)

-- the subcommand is one of the program's own
abbrev pub NamesMode : Option (Text × List Row) → Type 0
NamesMode command = (mode : Mode) × IsNamedBy mode command
