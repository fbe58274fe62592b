-- The text of a certificate in three parts: all up to its first entry, the other entries, and what stands behind them.
-- And what is left of a text that is given a piece after another.
use Rattle.std.specs.Prelude.{◌+◌, ◌++◌, ◌∷◌, [], ℕ, List, codes, length, if◌then◌else◌}
use Rattle.std.specs.List.{flat_map}
use Rattle.serde_json.specs.Written.{compact_text}
use Rattle.robust_cert.specs.declared.certificate.Certificate.{Certificate}
use Rattle.robust_cert.specs.declared.entries.Reason.{Reason}
use Rattle.robust_cert.specs.declared.entries.Told.{Told}
use Rattle.robust_cert.specs.Json.{list_data, whole_data, entry_data, has_no_bodies}
use Rattle.robust_cert.specs.Parts.{tail_text, front_room}
use Rattle.robust_cert.specs.Sharing.{Entry, reason_at}

-- ---- entries

-- entries behind another one, each behind a comma
abbrev pub next_entries_text : List Entry → List ℕ
next_entries_text = flat_map (λ e. codes "," ++ compact_text (entry_data e))

-- the first of some entries
abbrev pub first_entry_text : List Entry → List ℕ
first_entry_text [] = []
first_entry_text (e ∷ es) = compact_text (entry_data e)

-- and the others
abbrev pub other_entries_text : List Entry → List ℕ
other_entries_text [] = []
other_entries_text (e ∷ es) = next_entries_text es

-- so much room these entries take at most behind another one
abbrev pub entries_room : List Reason → List Told → ℕ
entries_room reasons [] = 0
entries_room reasons (t ∷ ts) = (length (tail_text (reason_at reasons t.reason)) + front_room) + entries_room reasons ts

-- ---- what stands round them

-- counts of accesses in bodies, and the name of the entries behind them
abbrev pub bodies_text : List ℕ → List ℕ
bodies_text bodies =
    codes "{\"bodies\":" ++ (compact_text (list_data whole_data bodies) ++ codes ",\"entries\":")

-- what stands before the list of entries: the first version says nothing of bodies
abbrev pub opening_text : Certificate → List ℕ
opening_text c = if has_no_bodies c then codes "{\"entries\":" else bodies_text c.bodies

abbrev pub version_text : Certificate → List ℕ
version_text c = if has_no_bodies c then codes ",\"version\":1}" else codes ",\"version\":2}"

-- the end of the list, and what stands behind it up to the version
abbrev pub levels_text : List ℕ → List ℕ
levels_text levels = codes "]" ++ (codes ",\"levels\":" ++ compact_text (list_data whole_data levels))

-- what stands behind the last entry
abbrev pub closing_text : Certificate → List ℕ
closing_text c = levels_text c.levels ++ version_text c

-- ---- piece by piece

-- the piece of a text at hand, what stands behind it, and a number that falls with each piece that comes
pub record TextLeft : Type 0 where
  pub piece : List ℕ
  pub behind : List ℕ
  pub steps : ℕ

-- all that is left
abbrev pub text_left : TextLeft → List ℕ
text_left t = t.piece ++ t.behind
