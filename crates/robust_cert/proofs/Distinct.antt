-- Two lists of entries or of numbers with one value are one.
use Rattle.std.proofs.Common.{◌≡◌, ◌∷◌, [], ◌==◌, ℕ, ℤ, pos, negsuc, List, map, slice_index, refl, sym, ap, ap₂, ◌∙◌}
use Rattle.std.specs.Bool.{if◌then◌else◌}
use Rattle.serde_json.specs.Data.{Num, unsigned, negative, float, Data, number, string, array, no_items, item}
use Rattle.serde_json.specs.Find.{of_integer}
use Rattle.serde_json.specs.View.{items_of}
use Rattle.order_facts.specs.declared.steps.Node.{Node}
use Rattle.order_facts.specs.declared.steps.Node.TheVariants.{Mine, MineUnknown, Theirs, TheirsUnknown, Number}
use Rattle.robust_cert.specs.declared.certificate.EntryQuestion.{EntryQuestion}
use Rattle.robust_cert.specs.declared.entries.Reason.{Reason}
use Rattle.robust_cert.specs.declared.entries.Reason.TheVariants.{Apart, Cover}
use Rattle.robust_cert.specs.Json.{node_data, chain_data, list_data, entry_data, whole_data}
use Rattle.robust_cert.specs.Sharing.{Entry, entry_with}
use Rattle.robust_cert.proofs.EntryValues.{kinds_differ}

-- ---- a node is in its value

index_in : Num → ℕ
index_in (unsigned n) = n
index_in (negative z) = 0
index_in (float x) = 0

integer_in : Num → ℤ
integer_in (unsigned n) = pos n
integer_in (negative z) = z
integer_in (float x) = pos 0

integer_in-of_integer : (k : ℤ) → integer_in (of_integer k) ≡ k
unfolding integer_in
integer_in-of_integer (pos n) = refl
integer_in-of_integer (negsuc n) = refl

lettered_node : ℕ → Num → Node
lettered_node letter n =
    if letter == 109 then Mine (index_in n)
    else (if letter == 117 then MineUnknown (index_in n)
    else (if letter == 116 then Theirs (index_in n)
    else (if letter == 118 then TheirsUnknown (index_in n)
    else Number (integer_in n))))

node_in : Data → Node
node_in (array (item (string s) (item (number n) no_items))) = lettered_node (slice_index s 0) n
node_in _ = Mine 0

node_in-node_data : (node : Node) → node_in (node_data node) ≡ node
unfolding node_in lettered_node index_in
node_in-node_data (Mine i) = refl
node_in-node_data (MineUnknown i) = refl
node_in-node_data (Theirs i) = refl
node_in-node_data (TheirsUnknown i) = refl
node_in-node_data (Number k) = ap Number (integer_in-of_integer k)

same_node : (a b : Node) → node_data a ≡ node_data b → a ≡ b
same_node a b e = sym (node_in-node_data a) ∙ ap node_in e ∙ node_in-node_data b

-- ---- and so are the items of a list

same_items : {A : Type 0} (f : A → Data) → ((a b : A) → f a ≡ f b → a ≡ b) → (xs ys : List A) → items_of (map f xs) ≡ items_of (map f ys) → xs ≡ ys
same_items f same [] [] e = refl
same_items f same [] (y ∷ ys) e = absurd (cc)
same_items f same (x ∷ xs) [] e = absurd (cc)
same_items f same (x ∷ xs) (y ∷ ys) e = ap₂ (λ z zs. z ∷ zs) (same x y (cc)) (same_items f same xs ys (cc))

same_list : {A : Type 0} (f : A → Data) → ((a b : A) → f a ≡ f b → a ≡ b) → (xs ys : List A) → list_data f xs ≡ list_data f ys → xs ≡ ys
same_list f same xs ys e = same_items f same xs ys (cc)

same_chain : (a b : List Node) → chain_data a ≡ chain_data b → a ≡ b
same_chain = same_list node_data same_node

same_number : (a b : ℕ) → whole_data a ≡ whole_data b → a ≡ b
same_number a b e = cc

abbrev question : ℕ → ℕ → ℕ → ℕ → EntryQuestion
question x a y b = record { x = x; a = a; y = y; b = b }

same_question : (p q : EntryQuestion) → p.x ≡ q.x → p.a ≡ q.a → p.y ≡ q.y → p.b ≡ q.b → p ≡ q
same_question p q e f g h = let r : question p.x p.a p.y p.b ≡ question q.x q.a q.y q.b = rw (e, f, g, h) refl in r

same_told : (p q : EntryQuestion) (r s : Reason) → entry_data (entry_with p r) ≡ entry_data (entry_with q s) → entry_with p r ≡ entry_with q s
same_told p q (Apart c) (Apart d) e =
    let f = same_question p q (cc) (cc) (cc) (cc) in
    ap₂ entry_with f (ap Apart (same_chain c d (cc)))
same_told p q (Apart c) (Cover m t d) e = absurd (kinds_differ (cc))
same_told p q (Cover m t c) (Apart d) e = absurd (kinds_differ (cc))
same_told p q (Cover m t c) (Cover n u d) e =
    let f = same_question p q (cc) (cc) (cc) (cc) in
    let g = same_list chain_data same_chain c d (cc) in
    let r : Cover m t c ≡ Cover n u d = cc in
    ap₂ entry_with f r

same_entry : (a b : Entry) → entry_data a ≡ entry_data b → a ≡ b
same_entry a b = same_told a.question b.question a.reason b.reason

pub same_entries : (xs ys : List Entry) → list_data entry_data xs ≡ list_data entry_data ys → xs ≡ ys
same_entries = same_list entry_data same_entry

pub same_numbers : (xs ys : List ℕ) → list_data whole_data xs ≡ list_data whole_data ys → xs ≡ ys
same_numbers = same_list whole_data same_number
