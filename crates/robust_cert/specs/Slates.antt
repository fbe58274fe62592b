-- Slates: texts of the next entries, which several threads write at once.
use Rattle.std.specs.Prelude.{◌<◌, ◌≤◌, ℕ, List, All, String, drop, length, string_bytes, string_capacity}
use Rattle.std.specs.List.{flat_map}
use Rattle.std.specs.declared.alloc.Global.{Global}
use Rattle.robust_cert.specs.declared.entries.Reason.{Reason}
use Rattle.robust_cert.specs.declared.entries.Told.{Told}
use Rattle.robust_cert.specs.declared.text.slates.Slate.{Slate}
use Rattle.robust_cert.specs.declared.text.slates.Slates.{Slates}
use Rattle.robust_cert.specs.Parts.{AreTailsOf, HasRoomFor}
use Rattle.robust_cert.specs.Pieces.{entries_room}
use Rattle.robust_cert.specs.Sharing.{HasReason}

-- the texts of slates, one behind the other
abbrev pub slates_text : List Slate → List ℕ
slates_text = flat_map (λ s. string_bytes s.text)

-- the entries that are to be written on them
abbrev pub slates_entries : List Slate → List Told
slates_entries = flat_map (λ s. s.entries.now)

-- ---- room

-- a slate has room for so many bytes
abbrev pub IsWide : ℕ → Slate → Type 0
IsWide bytes s = bytes ≤ string_capacity s.text

-- where all had room for so many bytes, all have it still
abbrev pub KeepsWidth : List Slate → List Slate → Type 0
KeepsWidth before after = (bytes : ℕ) → All (IsWide bytes) before → All (IsWide bytes) after

-- the texts of a slate's entries can be written on it
pub record CanWrite (reasons : List Reason) (tails : List (String Global)) (s : Slate) : Type 0 where
  pub have_reasons : All (HasReason reasons) s.entries.now
  pub have_tails : AreTailsOf reasons tails
  pub has_room : entries_room reasons s.entries.now ≤ string_capacity s.text

-- a slate can take some of these entries, since it has room for any one of them
pub record CanTake (reasons : List Reason) (tails : List (String Global)) (told : List Told) (s : Slate) : Type 0 where
  pub have_reasons : All (HasReason reasons) told
  pub have_tails : AreTailsOf reasons tails
  pub has_room : All (HasRoomFor (string_capacity s.text)) reasons

-- each slate can
pub record CanDealOut (reasons : List Reason) (tails : List (String Global)) (told : List Told) (slates : Slates) : Type 0 where
  pub have_reasons : All (HasReason reasons) told
  pub have_tails : AreTailsOf reasons tails
  pub room : ℕ
  pub have_room : All (HasRoomFor room) reasons
  pub are_wide : All (IsWide room) slates.all.items

-- ---- pieces of the entries that are left

-- the texts that were not given since they were written
abbrev pub slates_left : Slates → List Slate
slates_left slates = drop slates.given slates.all.items

-- entries can be given: each has a reason, the tails of reasons are at hand, and there is room for them, in the piece
-- at hand as on each slate
pub record CanGive
    (reasons : List Reason) (entries : List Told) (tails : List (String Global)) (room capacity : ℕ) (slates : Slates) : Type 0 where
  pub have_reasons : All (HasReason reasons) entries
  pub have_tails : AreTailsOf reasons tails
  pub have_room : All (HasRoomFor room) reasons
  pub is_wide : 0 < length entries → room ≤ capacity
  pub are_wide : 0 < length entries → All (IsWide room) slates.all.items
