-- Worked examples of the definitions, told by hand.
use Rattle.std.proofs.Common.{◌≡◌, ◌∷◌, [], ℕ, List, length, replicate, Some, None, codes, refl, pos, negsuc}
use Rattle.std.specs.Fmt.{digits}
use Rattle.json.proofs.Printed.Utf8.{IsUtf8-are_ascii}
use Rattle.order_facts.specs.declared.steps.Node.{Node}
use Rattle.order_facts.specs.declared.steps.Node.TheVariants.{Mine, MineUnknown, Theirs, TheirsUnknown, Number}
use Rattle.serde_json.proofs.OnLiterals.{serde_json_on_literals}
use Rattle.robust_cert.specs.declared.certificate.Certificate.{Certificate}
use Rattle.robust_cert.specs.declared.entries.Reason.TheVariants.{Apart, Cover}
use Rattle.robust_cert.specs.declared.fault.JsonFault.TheVariants.{NotJson, WrongVersion}
use Rattle.robust_cert.specs.Json.{certificate_text}
use Rattle.robust_cert.specs.Reading.{HasFault}
use Rattle.robust_cert.specs.Sharing.{Entry, entry_with}

-- no access stands in a body
abbrev certificate : List Entry → List ℕ → Certificate
certificate entries levels = record { entries = entries; levels = levels; bodies = replicate (length levels) 0 }

-- a cover in a table of one key column, for which one node of each side is the same
abbrev cover : ℕ → ℕ → ℕ → ℕ → ℕ → ℕ → Node → Node → Entry
cover x a y b mine theirs one other =
    entry_with record { x = x; a = a; y = y; b = b } (Cover mine theirs ((one ∷ other ∷ []) ∷ (other ∷ one ∷ []) ∷ []))

-- a set without programs
empty : certificate_text (certificate [] []) ≡ codes "{\"entries\":[],\"levels\":[],\"version\":1}"
unfolding serde_json_on_literals digits
empty = refl

-- the ledger set: no question leaves anything
ledger : certificate_text (certificate [] (2 ∷ 3 ∷ 2 ∷ [])) ≡ codes "{\"entries\":[],\"levels\":[2,3,2],\"version\":1}"
unfolding serde_json_on_literals digits
ledger = refl

-- the report set, repaired
report : certificate_text (certificate (cover 2 2 0 2 0 0 (Mine 0) (Theirs 0) ∷ []) (3 ∷ 3 ∷ 3 ∷ []))
    ≡ codes "{\"entries\":[[\"cover\",2,2,0,2,0,0,[[[\"m\",0],[\"t\",0]],[[\"t\",0],[\"m\",0]]]]],\"levels\":[3,3,3],\"version\":1}"
unfolding serde_json_on_literals digits
report = refl

-- the transfer set
transfer : certificate_text (certificate (cover 0 0 0 1 1 1 (Mine 0) (Theirs 0) ∷ cover 0 0 0 3 1 3 (Mine 0) (Theirs 1) ∷ cover 0 2 0 1 3 1 (Mine 1) (Theirs 0) ∷ cover 0 2 0 3 3 3 (Mine 1) (Theirs 1) ∷ []) (1 ∷ []))
    ≡ codes "{\"entries\":[[\"cover\",0,0,0,1,1,1,[[[\"m\",0],[\"t\",0]],[[\"t\",0],[\"m\",0]]]],[\"cover\",0,0,0,3,1,3,[[[\"m\",0],[\"t\",1]],[[\"t\",1],[\"m\",0]]]],[\"cover\",0,2,0,1,3,1,[[[\"m\",1],[\"t\",0]],[[\"t\",0],[\"m\",1]]]],[\"cover\",0,2,0,3,3,3,[[[\"m\",1],[\"t\",1]],[[\"t\",1],[\"m\",1]]]]],\"levels\":[1],\"version\":1}"
unfolding serde_json_on_literals digits
transfer = refl

-- reads of t[1] and writes of t[2] never meet; each kind of node, and both ends of i64
nodes : certificate_text (certificate (entry_with record { x = 0; a = 0; y = 4294967295; b = 1 } (Apart (Number (pos 2) ∷ MineUnknown 7 ∷ TheirsUnknown 0 ∷ Number (negsuc 9223372036854775807) ∷ Number (pos 9223372036854775807) ∷ [])) ∷ []) [])
    ≡ codes "{\"entries\":[[\"apart\",0,0,4294967295,1,[[\"n\",2],[\"u\",7],[\"v\",0],[\"n\",-9223372036854775808],[\"n\",9223372036854775807]]]],\"levels\":[],\"version\":1}"
unfolding serde_json_on_literals digits
nodes = refl

-- a bracket that isn't closed
not_json : HasFault (codes "{\"version\":1") NotJson
unfolding serde_json_on_literals
not_json d reads = let none : None ≡ Some d = reads.1 in absurd (cc)

-- the pay-each set, repaired: one access stands in a body
pay_each : certificate_text (record { entries = entry_with record { x = 0; a = 1; y = 0; b = 2 } (Cover 0 0 ((Number (pos 0) ∷ []) ∷ (Number (pos 0) ∷ []) ∷ [])) ∷ []; levels = 1 ∷ []; bodies = 1 ∷ [] })
    ≡ codes "{\"bodies\":[1],\"entries\":[[\"cover\",0,1,0,2,0,0,[[[\"n\",0]],[[\"n\",0]]]]],\"levels\":[1],\"version\":2}"
unfolding serde_json_on_literals digits
pay_each = refl

-- a version that is neither 1 nor 2, whatever stands beside it
other_version : HasFault (codes "{\"version\": 9, \"entries\": true}") WrongVersion
unfolding serde_json_on_literals
other_version = (_, (IsUtf8-are_ascii _ refl, refl), ((λ e. cc), (λ e. cc), (λ e. cc)))
