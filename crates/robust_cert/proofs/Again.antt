-- The text of a certificate is read as its value.
use Rattle.std.proofs.Common.{◌≡◌, ◌≤◌, ◌<◌, ◌^◌, ◌∷◌, [], ◌++◌, append-nil, ℕ, suc, ℤ, pos, negsuc, List, Bool, true, false, Some, map, decimal, codes, option_map, option_and_then, refl, sym, ap, subst, ◌∙◌, inl, inr, ◌⊎◌, if◌then◌else◌, arith}
use Rattle.std.specs.Prelude.{All, IsUtf8, FitsSigned}
use Rattle.std.specs.Fmt.{signed_decimal}
use Rattle.std.specs.Int.{w64}
use Rattle.std.proofs.lemmas.Int.{ints}
use Rattle.std.proofs.lemmas.Str.{IsUtf8-append, IsUtf8-from_ascii}
use Rattle.std.proofs.lemmas.Fmt.{IsAscii-decimal, IsAscii-signed}
use Rattle.json.specs.Tree.{json_tokens, HasNumbers, ItemsHaveNumbers}
use Rattle.json.specs.Tree as tree
use Rattle.json.specs.Json as json
use Rattle.json.specs.Lex.{tokens}
use Rattle.json.specs.Print.{print}
use Rattle.json.proofs.Printed.Tokens.{tokens-print}
use Rattle.json.proofs.Printed.Trees.{value-json_tokens, ArePrintable-json_tokens}
use Rattle.json.proofs.Printed.Decimals.{IsNumber-decimal, IsNumber-signed_decimal}
use Rattle.json.proofs.Printed.Utf8.{IsUtf8-quoted, IsUtf8-are_ascii}
use Rattle.serde_json.specs.Data.{Num, unsigned, Data, number, string, array, Items, no_items, item}
use Rattle.serde_json.specs.Find.{of_integer}
use Rattle.serde_json.specs.Read.{of_json, of_items, read}
use Rattle.serde_json.specs.View.{items_of}
use Rattle.serde_json.specs.Written.{outline, items_outline, compact_text, items_text, comma_if}
use Rattle.serde_json.proofs.Numbers.{number_of-decimal, number_of-negative}
use Rattle.serde_json.proofs.Texts.{print-outline}
use Rattle.order_facts.specs.declared.steps.Node.{Node}
use Rattle.order_facts.specs.declared.steps.Node.TheVariants.{Mine, MineUnknown, Theirs, TheirsUnknown, Number}
use Rattle.robust_cert.specs.declared.certificate.EntryQuestion.{EntryQuestion}
use Rattle.robust_cert.specs.declared.certificate.Certificate.{Certificate}
use Rattle.robust_cert.specs.declared.entries.Reason.{Reason}
use Rattle.robust_cert.specs.declared.entries.Reason.TheVariants.{Apart, Cover}
use Rattle.robust_cert.specs.Ranges.{IsSmall, NodeFits, ChainFits}
use Rattle.robust_cert.specs.Json.{list_data, whole_data, lettered, node_data, chain_data, QuestionFits, entry_items, entry_data, ReasonFits, EntryFits, has_no_bodies, first_data, second_data, certificate_data, certificate_text, CertificateFits, IsValueOf}
use Rattle.robust_cert.specs.Reading.{IsTextOf}
use Rattle.robust_cert.specs.Sharing.{Entry, entry_with}
use Rattle.robust_cert.proofs.LineEnd.{tokens_line}
use Rattle.robust_cert.proofs.Texts.{first_whole, second_whole}

-- a value's text is UTF-8 and is read as the value, which nests no deeper than that
record ReadsBack (k : ℕ) (d : Data) : Type 0 where
  numbers : HasNumbers (outline d)
  deep : tree.depth (outline d) ≤ k
  same : of_json (outline d) ≡ Some d
  utf8 : IsUtf8 (compact_text d)

-- and so for the items of a list
record ItemsReadBack (k : ℕ) (ds : Items) : Type 0 where
  numbers : ItemsHaveNumbers (items_outline ds)
  deep : tree.items_depth (items_outline ds) ≤ k
  same : of_items (items_outline ds) ≡ Some ds
  utf8 : (later : Bool) → IsUtf8 (items_text later ds)

-- ---- numbers and texts

whole_again : (k n : ℕ) → n < 2 ^ 64 → ReadsBack k (whole_data n)
whole_again k n h = record { numbers = IsNumber-decimal n h; deep = omega arith; same = ap (option_map number) (number_of-decimal n h); utf8 = IsUtf8-from_ascii (decimal n) (IsAscii-decimal n h) }

small_again : (k n : ℕ) → IsSmall n → ReadsBack k (whole_data n)
small_again k n h = whole_again k n (omega arith)

integer_again : (k : ℕ) (z : ℤ) → FitsSigned w64 z → ReadsBack k (number (of_integer z))
integer_again k (pos n) h = whole_again k n (omega (arith, ints))
integer_again k (negsuc n) h =
    let small : n < 2 ^ 63 = omega (arith, ints) in
    record { numbers = IsNumber-signed_decimal (negsuc n) small; deep = omega arith; same = ap (option_map number) (number_of-negative n small); utf8 = IsUtf8-from_ascii (signed_decimal (negsuc n)) (IsAscii-signed (negsuc n) small) }

text_again : (k : ℕ) (s : List ℕ) → IsUtf8 s → ReadsBack k (string s)
text_again k s h = record { numbers = tt; deep = omega arith; same = refl; utf8 = IsUtf8-quoted s h }

-- ---- lists

comma_utf8 : (later : Bool) → IsUtf8 (comma_if later)
comma_utf8 true = IsUtf8-are_ascii _ refl
comma_utf8 false = IsUtf8-are_ascii _ refl

no_items_again : (k : ℕ) → ItemsReadBack k no_items
no_items_again k = record { numbers = tt; deep = omega arith; same = refl; utf8 = λ later. IsUtf8-are_ascii _ refl }

item_again : (k : ℕ) (d : Data) (ds : Items) → ReadsBack k d → ItemsReadBack k ds → ItemsReadBack k (item d ds)
item_again k d ds h t = record {
  numbers = (h.numbers, t.numbers);
  deep = let a = h.deep in let b = t.deep in omega arith;
  same = rw (h.same, t.same) refl;
  utf8 = λ later. IsUtf8-append (comma_if later) _ (comma_utf8 later) (IsUtf8-append (compact_text d) _ h.utf8 (t.utf8 true));
}

array_again : (k : ℕ) (ds : Items) → ItemsReadBack k ds → ReadsBack (suc k) (array ds)
array_again k ds t = record {
  numbers = t.numbers;
  deep = let a = t.deep in omega arith;
  same = ap (option_map array) t.same;
  utf8 = IsUtf8-append (91 ∷ []) _ (IsUtf8-are_ascii _ refl) (t.utf8 false);
}

module _ {A : Type 0} (f : A → Data) (Fits : A → Type 0) (k : ℕ) (each : (x : A) → Fits x → ReadsBack k (f x)) where
  items_again : (xs : List A) → All Fits xs → ItemsReadBack k (items_of (map f xs))
  items_again [] fits = no_items_again k
  items_again (x ∷ xs) fits = item_again k (f x) (items_of (map f xs)) (each x (fits 0 x (omega arith))) (items_again xs (λ i d h. fits (suc i) d (omega arith)))

  list_again : (xs : List A) → All Fits xs → ReadsBack (suc k) (list_data f xs)
  list_again xs fits = array_again k (items_of (map f xs)) (items_again xs fits)

-- ---- the parts of a certificate

lettered_again : (k : ℕ) (letter : List ℕ) (n : Num) → IsUtf8 letter → ReadsBack k (number n) → ReadsBack (suc k) (lettered letter n)
lettered_again k letter n u h = array_again k _ (item_again k _ _ (text_again k letter u) (item_again k _ _ h (no_items_again k)))

node_again : (k : ℕ) (node : Node) → NodeFits node → ReadsBack (suc k) (node_data node)
node_again k (Mine i) h = lettered_again k (codes "m") (unsigned i) (IsUtf8-are_ascii _ refl) (small_again k i h)
node_again k (MineUnknown i) h = lettered_again k (codes "u") (unsigned i) (IsUtf8-are_ascii _ refl) (small_again k i h)
node_again k (Theirs i) h = lettered_again k (codes "t") (unsigned i) (IsUtf8-are_ascii _ refl) (small_again k i h)
node_again k (TheirsUnknown i) h = lettered_again k (codes "v") (unsigned i) (IsUtf8-are_ascii _ refl) (small_again k i h)
node_again k (Number z) h = lettered_again k (codes "n") (of_integer z) (IsUtf8-are_ascii _ refl) (integer_again k z h)

chain_again : (k : ℕ) (chain : List Node) → ChainFits chain → ReadsBack (suc (suc k)) (chain_data chain)
chain_again k = list_again node_data NodeFits (suc k) (node_again k)

question_again : (k : ℕ) (kind : List ℕ) (q : EntryQuestion) (reason : Items) → IsUtf8 kind → QuestionFits q → ItemsReadBack k reason → ReadsBack (suc k) (entry_items kind q reason)
question_again k kind q reason u h t =
    array_again k _ (item_again k _ _ (text_again k kind u) (item_again k _ _ (small_again k q.x h.0) (item_again k _ _ (small_again k q.a h.1)
    (item_again k _ _ (small_again k q.y h.2) (item_again k _ _ (small_again k q.b h.3) t)))))

reason_again : (q : EntryQuestion) (reason : Reason) → QuestionFits q → ReasonFits reason → ReadsBack 4 (entry_data (entry_with q reason))
reason_again q (Apart chain) f h = question_again 3 (codes "apart") q _ (IsUtf8-are_ascii _ refl) f (item_again 3 _ _ (chain_again 1 chain h) (no_items_again 3))
reason_again q (Cover mine theirs chains) f h =
    question_again 3 (codes "cover") q _ (IsUtf8-are_ascii _ refl) f (item_again 3 _ _ (small_again 3 mine h.0) (item_again 3 _ _ (small_again 3 theirs h.1)
    (item_again 3 _ _ (list_again chain_data ChainFits 2 (chain_again 0) chains h.2) (no_items_again 3))))

entry_again : (entry : Entry) → EntryFits entry → ReadsBack 4 (entry_data entry)
entry_again entry h = reason_again entry.question entry.reason h.0 h.1

-- ---- the whole

-- the text of a value that nests no deeper than a text may is read as the value
read_back : (d : Data) → ReadsBack 127 d → read (compact_text d) ≡ Some d
read_back d h =
    let ts = json_tokens (outline d) in
    let seen : tokens (print ts) ≡ ts ++ [] = tokens-print ts (ArePrintable-json_tokens (outline d) h.numbers) ∙ sym (append-nil ts) in
    ap read (sym (print-outline d))
    ∙ ap (λ o. option_and_then of_json (option_and_then (λ p. json.if_last p.0 p.1) o)) (ap (json.value 127) seen ∙ value-json_tokens (outline d) 127 [] h.deep)
    ∙ h.same

-- and so with a line feed behind it
read_line : (d : Data) → ReadsBack 127 d → read (compact_text d ++ 10 ∷ []) ≡ Some d
read_line d h =
    let ts = json_tokens (outline d) in
    ap (λ s. read (s ++ 10 ∷ [])) (sym (print-outline d))
    ∙ ap (λ us. option_and_then of_json (option_and_then (λ p. json.if_last p.0 p.1) (json.value 127 us))) (tokens_line ts (ArePrintable-json_tokens (outline d) h.numbers))
    ∙ ap read (print-outline d) ∙ read_back d h

entries_again : (es : List Entry) → All EntryFits es → ReadsBack 5 (list_data entry_data es)
entries_again = list_again entry_data EntryFits 4 entry_again

numbers_again : (ns : List ℕ) → All IsSmall ns → ReadsBack 5 (list_data whole_data ns)
numbers_again = list_again whole_data IsSmall 4 (small_again 4)

first_again : (c : Certificate) → All EntryFits c.entries → All IsSmall c.levels → ReadsBack 127 (first_data c)
first_again c fit small =
    let entries : ReadsBack 5 (list_data entry_data c.entries) = entries_again c.entries fit in
    let levels : ReadsBack 5 (list_data whole_data c.levels) = numbers_again c.levels small in
    let version : ReadsBack 5 (whole_data 1) = small_again 5 1 (omega arith) in
    record {
      numbers = (entries.numbers, (levels.numbers, (version.numbers, tt)));
      deep = let a = entries.deep in let b = levels.deep in let d = version.deep in omega arith;
      same = rw (entries.same, levels.same, version.same) refl;
      utf8 = subst IsUtf8 (first_whole c)
          (IsUtf8-append (codes "{\"entries\":") _ (IsUtf8-are_ascii _ refl) (IsUtf8-append (compact_text (list_data entry_data c.entries)) _ entries.utf8
          (IsUtf8-append (codes ",\"levels\":") _ (IsUtf8-are_ascii _ refl) (IsUtf8-append (compact_text (list_data whole_data c.levels)) (codes ",\"version\":1}") levels.utf8 (IsUtf8-are_ascii _ refl)))));
    }

second_again : (c : Certificate) → CertificateFits c → ReadsBack 127 (second_data c)
second_again c fits =
    let entries : ReadsBack 5 (list_data entry_data c.entries) = entries_again c.entries fits.0 in
    let levels : ReadsBack 5 (list_data whole_data c.levels) = numbers_again c.levels fits.1 in
    let bodies : ReadsBack 5 (list_data whole_data c.bodies) = numbers_again c.bodies fits.2 in
    let version : ReadsBack 5 (whole_data 2) = small_again 5 2 (omega arith) in
    record {
      numbers = (bodies.numbers, (entries.numbers, (levels.numbers, (version.numbers, tt))));
      deep = let a = entries.deep in let b = levels.deep in let d = version.deep in let e = bodies.deep in omega arith;
      same = rw (bodies.same, entries.same, levels.same, version.same) refl;
      utf8 = subst IsUtf8 (second_whole c)
          (IsUtf8-append (codes "{\"bodies\":") _ (IsUtf8-are_ascii _ refl) (IsUtf8-append (compact_text (list_data whole_data c.bodies)) _ bodies.utf8
          (IsUtf8-append (codes ",\"entries\":") _ (IsUtf8-are_ascii _ refl) (IsUtf8-append (compact_text (list_data entry_data c.entries)) _ entries.utf8
          (IsUtf8-append (codes ",\"levels\":") _ (IsUtf8-are_ascii _ refl) (IsUtf8-append (compact_text (list_data whole_data c.levels)) (codes ",\"version\":2}") levels.utf8 (IsUtf8-are_ascii _ refl)))))));
    }

-- the value that is written is one of the certificate
data_again : (c : Certificate) → CertificateFits c → (none : Bool) → has_no_bodies c ≡ none
    → ReadsBack 127 (if none then first_data c else second_data c) × IsValueOf c (if none then first_data c else second_data c)
data_again c fits true is = (first_again c fits.0 fits.1, (fits, inl (is, refl)))
data_again c fits false is = (second_again c fits, (fits, inr refl))

pub is_text : (c : Certificate) → CertificateFits c → (bytes : List ℕ) → bytes ≡ certificate_text c → IsTextOf c bytes
is_text c fits bytes e =
    let h = data_again c fits (has_no_bodies c) refl in
    (certificate_data c, (subst IsUtf8 (sym e) h.0.utf8, ap read e ∙ read_back (certificate_data c) h.0), h.1)

-- and so with a line feed behind it
is_line : (c : Certificate) → CertificateFits c → (bytes : List ℕ) → bytes ≡ certificate_text c ++ 10 ∷ [] → IsTextOf c bytes
is_line c fits bytes e =
    let h = data_again c fits (has_no_bodies c) refl in
    let utf8 = IsUtf8-append (certificate_text c) (10 ∷ []) h.0.utf8 (IsUtf8-are_ascii _ refl) in
    (certificate_data c, (subst IsUtf8 (sym e) utf8, ap read e ∙ read_line (certificate_data c) h.0), h.1)

-- both are texts of it
pub is_either : (c : Certificate) → CertificateFits c → (bytes text : List ℕ) → text ≡ certificate_text c → (bytes ≡ text) ⊎ (bytes ≡ text ++ codes "\n") → IsTextOf c bytes
is_either c fits bytes text e (inl is) = is_text c fits bytes (is ∙ e)
is_either c fits bytes text e (inr is) = is_line c fits bytes (is ∙ ap (λ s. s ++ 10 ∷ []) e)
