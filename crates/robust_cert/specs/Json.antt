-- The JSON value of a certificate, and its text.
use Rattle.std.specs.Prelude.{◌≡◌, ◌++◌, ℕ, List, length, map, codes, String, string_bytes, All, Bool, ◌&&◌, ◌==◌, if◌then◌else◌, IsTrue, ◌⊎◌}
use Rattle.std.specs.List.{list_all}
use Rattle.std.specs.declared.alloc.Global.{Global}
use Rattle.order_facts.specs.declared.steps.Node.{Node}
use Rattle.order_facts.specs.declared.steps.Node.TheVariants.{Mine, MineUnknown, Theirs, TheirsUnknown, Number}
use Rattle.serde_json.specs.Data.{Num, unsigned, Data, number, string, array, object, Items, no_items, item, Members, no_members, member}
use Rattle.serde_json.specs.Find.{of_integer}
use Rattle.serde_json.specs.View.{items_of}
use Rattle.serde_json.specs.Written.{compact_text}
use Rattle.robust_cert.specs.declared.certificate.EntryQuestion.{EntryQuestion}
use Rattle.robust_cert.specs.declared.certificate.Certificate.{Certificate}
use Rattle.robust_cert.specs.declared.entries.Reason.{Reason}
use Rattle.robust_cert.specs.declared.entries.Reason.TheVariants.{Apart, Cover}
use Rattle.robust_cert.specs.Ranges.{IsSmall, ChainFits}
use Rattle.robust_cert.specs.Sharing.{Entry}

-- a whole number that isn't negative
abbrev pub whole_data : ℕ → Data
whole_data n = number (unsigned n)

-- each thing's value, in order
abbrev pub list_data : {A : Type 0} → (A → Data) → List A → Data
list_data f xs = array (items_of (map f xs))

-- ---- a node is a letter and a number

abbrev pub lettered : List ℕ → Num → Data
lettered letter n = array (item (string letter) (item (number n) no_items))

abbrev pub node_data : Node → Data
node_data (Mine i) = lettered (codes "m") (unsigned i)
node_data (MineUnknown i) = lettered (codes "u") (unsigned i)
node_data (Theirs i) = lettered (codes "t") (unsigned i)
node_data (TheirsUnknown i) = lettered (codes "v") (unsigned i)
node_data (Number k) = lettered (codes "n") (of_integer k)

abbrev pub chain_data : List Node → Data
chain_data = list_data node_data

-- ---- an entry is its kind, the four numbers of its question, and its reason

abbrev pub entry_items : List ℕ → EntryQuestion → Items → Data
entry_items kind q reason =
    array (item (string kind) (item (whole_data q.x) (item (whole_data q.a)
    (item (whole_data q.y) (item (whole_data q.b) reason)))))

abbrev pub apart_items : List Node → Items
apart_items chain = item (chain_data chain) no_items

abbrev pub cover_items : ℕ → ℕ → List (List Node) → Items
cover_items mine theirs chains =
    item (whole_data mine) (item (whole_data theirs) (item (list_data chain_data chains) no_items))

-- the word for a reason, and the items that tell it
abbrev pub reason_kind : Reason → List ℕ
reason_kind (Apart chain) = codes "apart"
reason_kind (Cover mine theirs chains) = codes "cover"

abbrev pub reason_items : Reason → Items
reason_items (Apart chain) = apart_items chain
reason_items (Cover mine theirs chains) = cover_items mine theirs chains

abbrev pub entry_data : Entry → Data
entry_data e = entry_items (reason_kind e.reason) e.question (reason_items e.reason)

-- four values are the numbers of a question
abbrev pub AreNumbersOf : EntryQuestion → Data → Data → Data → Data → Type 0
AreNumbersOf q x a y b =
    (x ≡ whole_data q.x) × (a ≡ whole_data q.a) × (y ≡ whole_data q.y) × (b ≡ whole_data q.b)

-- a reason has this word and these items
abbrev pub IsWordedAs : Reason → Data → Items → Type 0
IsWordedAs r kind items = (kind ≡ string (reason_kind r)) × (items ≡ reason_items r)

-- ---- the whole

-- the members that both versions have, of which the last is the version
abbrev pub members_data : Data → Data → Num → Members
members_data entries levels version =
    member (codes "entries") entries (member (codes "levels") levels
    (member (codes "version") (number version) no_members))

abbrev pub shared_members : Certificate → Num → Members
shared_members c version =
    members_data (list_data entry_data c.entries) (list_data whole_data c.levels) version

-- no access stands in the body of an `each`: one zero for each level
abbrev pub has_no_bodies : Certificate → Bool
has_no_bodies c = length c.bodies == length c.levels && list_all (λ n. n == 0) c.bodies

-- the first version says nothing of such accesses, and the second one how many there are
abbrev pub first_data : Certificate → Data
first_data c = object (shared_members c (unsigned 1))

abbrev pub second_data : Certificate → Data
second_data c =
    object (member (codes "bodies") (list_data whole_data c.bodies) (shared_members c (unsigned 2)))

-- the value that is written: of the first version, where it says all
abbrev pub certificate_data : Certificate → Data
certificate_data c = if has_no_bodies c then first_data c else second_data c

-- its text, with no space
abbrev pub certificate_text : Certificate → List ℕ
certificate_text c = compact_text (certificate_data c)

-- a text has grown by that of a value
abbrev pub Appends : String Global → String Global → Data → Type 0
Appends old new d = string_bytes new ≡ string_bytes old ++ compact_text d

-- ---- the numbers are in their ranges, as they are in every certificate that a program holds

abbrev pub QuestionFits : EntryQuestion → Type 0
QuestionFits q = IsSmall q.x × IsSmall q.a × IsSmall q.y × IsSmall q.b

abbrev pub ReasonFits : Reason → Type 0
ReasonFits (Apart chain) = ChainFits chain
ReasonFits (Cover mine theirs chains) = IsSmall mine × IsSmall theirs × All ChainFits chains

abbrev pub EntryFits : Entry → Type 0
EntryFits e = QuestionFits e.question × ReasonFits e.reason

abbrev pub CertificateFits : Certificate → Type 0
CertificateFits c = All EntryFits c.entries × All IsSmall c.levels × All IsSmall c.bodies

-- a JSON value is that of a certificate whose numbers fit; one without such accesses has a value of either version
abbrev pub IsValueOf : Certificate → Data → Type 0
IsValueOf c d = CertificateFits c × ((IsTrue (has_no_bodies c) × (d ≡ first_data c)) ⊎ (d ≡ second_data c))
