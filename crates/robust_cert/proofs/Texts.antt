-- The text of a list's value, a part after another.
use Rattle.std.proofs.Common.{◌≡◌, ◌∷◌, [], ◌++◌, ℕ, ℤ, pos, negsuc, List, map, true, codes, decimal, refl, sym, ap, ◌∙◌, append_assoc, if◌then◌else◌, Result, Ok, Err, is_ok, OnOk}
use Rattle.std.specs.Fmt.{digits, signed_decimal}
use Rattle.std.specs.List.{flat_map}
use Rattle.order_facts.specs.declared.steps.Node.{Node}
use Rattle.order_facts.specs.declared.steps.Node.TheVariants.{Mine, MineUnknown, Theirs, TheirsUnknown, Number}
use Rattle.serde_json.specs.Data.{Data}
use Rattle.serde_json.specs.View.{items_of}
use Rattle.serde_json.specs.Written.{compact_text, items_text}
use Rattle.serde_json.proofs.OnLiterals.{serde_json_on_literals}
use Rattle.robust_cert.specs.declared.certificate.EntryQuestion.{EntryQuestion}
use Rattle.robust_cert.specs.declared.entries.Reason.{Reason}
use Rattle.robust_cert.specs.declared.entries.Reason.TheVariants.{Apart, Cover}
use Rattle.robust_cert.specs.declared.certificate.Certificate.{Certificate}
use Rattle.robust_cert.specs.Json.{list_data, whole_data, node_data, chain_data, entry_data, first_data, second_data}
use Rattle.robust_cert.specs.Parts.{kind_text, first_text, head_text, second_text, tail_text, next_head_text, next_entry_text}
use Rattle.robust_cert.specs.Sharing.{entry_with}

-- each thing's text behind a comma
abbrev pub behind_commas : {A : Type 0} → (A → Data) → List A → List ℕ
behind_commas f = flat_map (λ x. 44 ∷ compact_text (f x))

-- the text of a list, bracket by bracket
abbrev pub bracketed : {A : Type 0} → (A → Data) → List A → List ℕ
bracketed f [] = 91 ∷ 93 ∷ []
bracketed f (x ∷ xs) = 91 ∷ (compact_text (f x) ++ (behind_commas f xs ++ (93 ∷ [])))

items_text-later : {A : Type 0} (f : A → Data) (xs : List A) → items_text true (items_of (map f xs)) ≡ behind_commas f xs ++ (93 ∷ [])
items_text-later f [] = refl
items_text-later f (x ∷ xs) = ap (λ s. 44 ∷ (compact_text (f x) ++ s)) (items_text-later f xs) ∙ ap (λ s. 44 ∷ s) (sym (append_assoc (compact_text (f x)) (behind_commas f xs) (93 ∷ [])))

pub bracketed_lem : {A : Type 0} (f : A → Data) (xs : List A) → bracketed f xs ≡ compact_text (list_data f xs)
bracketed_lem f [] = refl
bracketed_lem f (x ∷ xs) = ap (λ s. 91 ∷ (compact_text (f x) ++ s)) (sym (items_text-later f xs))

-- ---- a value with a literal in it, part by part

pub mine_text : (i : ℕ) → codes "[\"m\"," ++ (decimal i ++ codes "]") ≡ compact_text (node_data (Mine i))
unfolding serde_json_on_literals
mine_text i = refl

pub mine_unknown_text : (i : ℕ) → codes "[\"u\"," ++ (decimal i ++ codes "]") ≡ compact_text (node_data (MineUnknown i))
unfolding serde_json_on_literals
mine_unknown_text i = refl

pub theirs_text : (i : ℕ) → codes "[\"t\"," ++ (decimal i ++ codes "]") ≡ compact_text (node_data (Theirs i))
unfolding serde_json_on_literals
theirs_text i = refl

pub theirs_unknown_text : (i : ℕ) → codes "[\"v\"," ++ (decimal i ++ codes "]") ≡ compact_text (node_data (TheirsUnknown i))
unfolding serde_json_on_literals
theirs_unknown_text i = refl

pub integer_text : (k : ℤ) → codes "[\"n\"," ++ (signed_decimal k ++ codes "]") ≡ compact_text (node_data (Number k))
unfolding serde_json_on_literals
integer_text (pos n) = refl
integer_text (negsuc n) = refl

apart_text : (q : EntryQuestion) (chain : List Node)
    → codes "[\"apart\"," ++ (decimal q.x ++ (codes "," ++ (decimal q.a ++ (codes "," ++ (decimal q.y ++ (codes "," ++ (decimal q.b ++ (codes "," ++ (compact_text (chain_data chain) ++ codes "]"))))))))) ≡ compact_text (entry_data (entry_with q (Apart chain)))
unfolding serde_json_on_literals
apart_text q chain = refl

cover_text : (q : EntryQuestion) (mine theirs : ℕ) (chains : List (List Node))
    → codes "[\"cover\"," ++ (decimal q.x ++ (codes "," ++ (decimal q.a ++ (codes "," ++ (decimal q.y ++ (codes "," ++ (decimal q.b ++ (codes "," ++ (decimal mine ++ (codes "," ++ (decimal theirs ++ (codes "," ++ (compact_text (list_data chain_data chains) ++ codes "]")))))))))))))
    ≡ compact_text (entry_data (entry_with q (Cover mine theirs chains)))
unfolding serde_json_on_literals
cover_text q mine theirs chains = refl

-- an entry's text is that of its three parts
entry_text : (q : EntryQuestion) (r : Reason) → head_text q r ++ (second_text q ++ tail_text r) ≡ compact_text (entry_data (entry_with q r))
entry_text q (Apart chain) = rw (← apart_text q chain) (simp append_assoc)
entry_text q (Cover mine theirs chains) = rw (← cover_text q mine theirs chains) (simp append_assoc)

-- three pieces, one pushed behind the other
pub three_written : (old one two xs ys zs : List ℕ) → one ≡ old ++ xs → two ≡ one ++ ys → two ++ zs ≡ old ++ (xs ++ (ys ++ zs))
three_written old one two xs ys zs f g =
    ap (λ (s : List ℕ). s ++ zs) (g ∙ ap (λ (s : List ℕ). s ++ ys) f) ∙ append_assoc (old ++ xs) ys zs ∙ append_assoc old xs (ys ++ zs)

-- the last one, where there is memory for it
pub last_piece : {T E : Type 0} (r : Result T E) (after before z whole : List ℕ) → after ≡ (if is_ok r then before ++ z else before) → before ++ z ≡ whole → OnOk r (after ≡ whole)
last_piece (Ok _) after before z whole e f = e ∙ f
last_piece (Err _) after before z whole e f = tt

-- the pieces of this text, one pushed behind the other
pub entry_written : (q : EntryQuestion) (r : Reason) (old one two : List ℕ) → one ≡ old ++ head_text q r → two ≡ one ++ second_text q
    → two ++ tail_text r ≡ old ++ compact_text (entry_data (entry_with q r))
entry_written q r old one two f g =
    three_written old one two (head_text q r) (second_text q) (tail_text r) f g ∙ ap (λ (s : List ℕ). old ++ s) (entry_text q r)

-- and of that of an entry behind another one, of which the head is that of a question with the same first access
pub next_written : (p q : EntryQuestion) (r : Reason) (old head one two tail : List ℕ) → first_text p ≡ first_text q → head ≡ next_head_text p r → one ≡ old ++ head → two ≡ one ++ second_text q → tail ≡ tail_text r
    → two ++ tail ≡ old ++ next_entry_text q r
next_written p q r old head one two tail same a f g t =
    let heads : head ≡ 44 ∷ head_text q r = a ∙ ap (λ (s : List ℕ). 44 ∷ (kind_text r ++ s)) same in
    ap (λ (s : List ℕ). s ++ tail) (g ∙ ap (λ (s : List ℕ). s ++ second_text q) (f ∙ ap (λ (s : List ℕ). old ++ s) heads))
    ∙ ap (λ (s : List ℕ). ((old ++ (44 ∷ head_text q r)) ++ second_text q) ++ s) t
    ∙ append_assoc (old ++ (44 ∷ head_text q r)) (second_text q) (tail_text r)
    ∙ append_assoc old (44 ∷ head_text q r) (second_text q ++ tail_text r)
    ∙ ap (λ (s : List ℕ). old ++ (44 ∷ s)) (entry_text q r)

-- a certificate's text in the first version, and in the second
pub first_whole : (c : Certificate)
    → codes "{\"entries\":" ++ (compact_text (list_data entry_data c.entries) ++ (codes ",\"levels\":" ++ (compact_text (list_data whole_data c.levels) ++ codes ",\"version\":1}"))) ≡ compact_text (first_data c)
unfolding serde_json_on_literals digits
first_whole c = refl

pub second_whole : (c : Certificate)
    → codes "{\"bodies\":" ++ (compact_text (list_data whole_data c.bodies) ++ (codes ",\"entries\":" ++ (compact_text (list_data entry_data c.entries) ++ (codes ",\"levels\":" ++ (compact_text (list_data whole_data c.levels) ++ codes ",\"version\":2}"))))) ≡ compact_text (second_data c)
unfolding serde_json_on_literals digits
second_whole c = refl
