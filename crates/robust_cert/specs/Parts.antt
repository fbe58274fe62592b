-- The text of an entry in three parts: the head and the tail are those of other entries as well, and between them
-- stand two numbers.
use Rattle.std.specs.Prelude.{◌≡◌, ◌+◌, ◌≤◌, ◌++◌, ℕ, List, All, codes, decimal, length, map, String, string_bytes, string_capacity}
use Rattle.std.specs.declared.alloc.Global.{Global}
use Rattle.order_facts.specs.declared.steps.Node.{Node}
use Rattle.serde_json.specs.Written.{compact_text}
use Rattle.robust_cert.specs.declared.certificate.EntryQuestion.{EntryQuestion}
use Rattle.robust_cert.specs.declared.entries.Reason.{Reason}
use Rattle.robust_cert.specs.declared.entries.Reason.TheVariants.{Apart, Cover}
use Rattle.robust_cert.specs.Json.{list_data, chain_data, entry_data, ReasonFits}
use Rattle.robust_cert.specs.Sharing.{entry_with}

-- ---- room

-- the room of a head
abbrev pub head_room : ℕ
head_room = 32

-- the room of an entry before its tail, with the comma behind the entry before
abbrev pub front_room : ℕ
front_room = 64

-- ---- the head: the kind and the first access

abbrev pub kind_text : Reason → List ℕ
kind_text (Apart chain) = codes "[\"apart\","
kind_text (Cover mine theirs chains) = codes "[\"cover\","

abbrev pub first_text : EntryQuestion → List ℕ
first_text q = decimal q.x ++ (codes "," ++ (decimal q.a ++ codes ","))

abbrev pub head_text : EntryQuestion → Reason → List ℕ
head_text q reason = kind_text reason ++ first_text q

-- a head behind a comma
abbrev pub next_head_text : EntryQuestion → Reason → List ℕ
next_head_text q reason = codes "," ++ head_text q reason

-- both heads that entries with this first access have, behind a comma, where each other head has room
abbrev pub AreHeadsOf : EntryQuestion → String Global → String Global → Type 0
AreHeadsOf q apart cover =
    (string_bytes apart ≡ codes ",[\"apart\"," ++ first_text q)
    × (string_bytes cover ≡ codes ",[\"cover\"," ++ first_text q)
    × (head_room ≤ string_capacity apart)
    × (head_room ≤ string_capacity cover)

-- ---- the middle: the second access

abbrev pub second_text : EntryQuestion → List ℕ
second_text q = decimal q.y ++ (codes "," ++ decimal q.b)

-- ---- the tail: the reason

abbrev pub apart_tail_text : List Node → List ℕ
apart_tail_text chain = codes "," ++ (compact_text (chain_data chain) ++ codes "]")

abbrev pub cover_tail_text : ℕ → ℕ → List (List Node) → List ℕ
cover_tail_text mine theirs chains =
    codes "," ++ (decimal mine ++ (codes "," ++ (decimal theirs ++ (codes ","
    ++ (compact_text (list_data chain_data chains) ++ codes "]")))))

abbrev pub tail_text : Reason → List ℕ
tail_text (Apart chain) = apart_tail_text chain
tail_text (Cover mine theirs chains) = cover_tail_text mine theirs chains

-- texts are the tails of reasons, one for each, whose numbers are in their ranges
pub record AreTailsOf (reasons : List Reason) (tails : List (String Global)) : Type 0 where
  pub texts : map (λ t. string_bytes t) tails ≡ map tail_text reasons
  pub fit : All ReasonFits reasons

-- the text of an entry with this reason takes no more room
abbrev pub HasRoomFor : ℕ → Reason → Type 0
HasRoomFor room reason = length (tail_text reason) + front_room ≤ room

-- ---- the text of an entry behind another one

abbrev pub next_entry_text : EntryQuestion → Reason → List ℕ
next_entry_text q reason = codes "," ++ compact_text (entry_data (entry_with q reason))
