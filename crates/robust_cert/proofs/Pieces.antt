-- The text of a certificate in three parts, and the pieces that are given of it.
use Rattle.std.proofs.Common.{◌≡◌, ◌⊎◌, inl, inr, ◌<◌, ◌≤◌, ◌+◌, ◌∷◌, [], ◌++◌, ℕ, List, Bool, true, false, length, take, get_or, codes, decimal, String, string_bytes, refl, sym, ap, subst, ◌∙◌, append_assoc, append-nil, arith, if◌then◌else◌}
use Rattle.std.proofs.lemmas.List.{length-append, length-map, get_or-map}
use Rattle.std.proofs.lemmas.List.Elements.{All-map, All-more, All-weaker}
use Rattle.std.proofs.lemmas.Fmt.{length-decimal-le}
use Rattle.std.specs.Prelude.{All}
use Rattle.std.specs.declared.alloc.Global.{Global}
use Rattle.serde_json.specs.Written.{compact_text}
use Rattle.robust_cert.specs.declared.certificate.EntryQuestion.{EntryQuestion}
use Rattle.robust_cert.specs.declared.certificate.Certificate.{Certificate}
use Rattle.robust_cert.specs.declared.entries.Reason.{Reason}
use Rattle.robust_cert.specs.declared.entries.Reason.TheVariants.{Apart, Cover}
use Rattle.robust_cert.specs.declared.entries.Told.{Told}
use Rattle.robust_cert.specs.Ranges.{IsSmall}
use Rattle.robust_cert.specs.Json.{list_data, whole_data, entry_data, has_no_bodies, first_data, second_data, certificate_text, QuestionFits, ReasonFits, EntryFits}
use Rattle.robust_cert.specs.Parts.{first_text, next_head_text, second_text, tail_text, next_entry_text, AreTailsOf, HasRoomFor}
use Rattle.robust_cert.specs.Pieces.{next_entries_text, first_entry_text, other_entries_text, bodies_text, opening_text, version_text, levels_text, closing_text, TextLeft, text_left}
use Rattle.robust_cert.specs.Sharing.{Entry, entry_with, reason_at, entry_told, entries_told, HasReason}
use Rattle.robust_cert.proofs.Shared.{reason_any}
use Rattle.robust_cert.proofs.Texts.{bracketed_lem, first_whole, second_whole}

-- ---- the whole, part by part

-- all entries between their brackets
joined : (es : List Entry) → codes "[" ++ ((first_entry_text es ++ other_entries_text es) ++ codes "]") ≡ compact_text (list_data entry_data es)
joined [] = bracketed_lem entry_data []
joined (e ∷ es) =
    ap (λ (s : List ℕ). 91 ∷ s) (append_assoc (compact_text (entry_data e)) (next_entries_text es) (93 ∷ []))
    ∙ bracketed_lem entry_data (e ∷ es)

-- with the levels and the version behind them
framed : (c : Certificate) (entries version : List ℕ) → codes "[" ++ (entries ++ codes "]") ≡ compact_text (list_data entry_data c.entries)
    → codes "[" ++ (entries ++ (levels_text c.levels ++ version)) ≡ compact_text (list_data entry_data c.entries) ++ (codes ",\"levels\":" ++ (compact_text (list_data whole_data c.levels) ++ version))
framed c entries version e =
    let levels = compact_text (list_data whole_data c.levels) in
    let rest = codes ",\"levels\":" ++ (levels ++ version) in
    let apart = append_assoc (codes "]") (codes ",\"levels\":" ++ levels) version ∙ ap (λ (s : List ℕ). codes "]" ++ s) (append_assoc (codes ",\"levels\":") levels version) in
    ap (λ (s : List ℕ). codes "[" ++ (entries ++ s)) apart
    ∙ ap (λ (s : List ℕ). codes "[" ++ s) (sym (append_assoc entries (codes "]") rest))
    ∙ sym (append_assoc (codes "[") (entries ++ codes "]") rest)
    ∙ ap (λ (s : List ℕ). s ++ rest) e

-- in either version
parts_by : (none : Bool) (c : Certificate) (entries : List ℕ) → codes "[" ++ (entries ++ codes "]") ≡ compact_text (list_data entry_data c.entries)
    → (if none then codes "{\"entries\":" else bodies_text c.bodies) ++ (codes "[" ++ (entries ++ (levels_text c.levels ++ (if none then codes ",\"version\":1}" else codes ",\"version\":2}"))))
    ≡ compact_text (if none then first_data c else second_data c)
parts_by true c entries e = ap (λ (s : List ℕ). codes "{\"entries\":" ++ s) (framed c entries (codes ",\"version\":1}") e) ∙ first_whole c
parts_by false c entries e =
    let bodies = compact_text (list_data whole_data c.bodies) in
    let rest = codes "[" ++ (entries ++ (levels_text c.levels ++ codes ",\"version\":2}")) in
    append_assoc (codes "{\"bodies\":") (bodies ++ codes ",\"entries\":") rest
    ∙ ap (λ (s : List ℕ). codes "{\"bodies\":" ++ s) (append_assoc bodies (codes ",\"entries\":") rest ∙ ap (λ (s : List ℕ). bodies ++ (codes ",\"entries\":" ++ s)) (framed c entries (codes ",\"version\":2}") e))
    ∙ second_whole c

-- the first piece, the other entries and what stands behind them
pub all_parts : (c : Certificate) (es : List Entry) (start one two three others closing : List ℕ) → c.entries ≡ es → start ≡ [] → one ≡ start ++ opening_text c → two ≡ one ++ (codes "[" ++ first_entry_text es)
    → three ≡ two → others ≡ other_entries_text es → closing ≡ closing_text c → three ++ (others ++ closing) ≡ certificate_text c
all_parts c es start one two three others closing alike z f g h o k =
    let opening = opening_text c in
    let first = first_entry_text es in
    let other = other_entries_text es in
    let whole : three ≡ opening ++ (codes "[" ++ first) = h ∙ g ∙ ap (λ (s : List ℕ). s ++ (codes "[" ++ first)) (f ∙ ap (λ (s : List ℕ). s ++ opening) z) in
    ap (λ (s : List ℕ). s ++ (others ++ closing)) whole
    ∙ ap (λ (s : List ℕ). (opening ++ (codes "[" ++ first)) ++ (s ++ closing)) o
    ∙ ap (λ (s : List ℕ). (opening ++ (codes "[" ++ first)) ++ (other ++ s)) k
    ∙ append_assoc opening (codes "[" ++ first) (other ++ closing_text c)
    ∙ ap (λ (s : List ℕ). opening ++ s) (append_assoc (codes "[") first (other ++ closing_text c) ∙ ap (λ (s : List ℕ). codes "[" ++ s) (sym (append_assoc first other (closing_text c))))
    ∙ parts_by (has_no_bodies c) c (first ++ other) (joined es ∙ ap (λ (l : List Entry). compact_text (list_data entry_data l)) (sym alike))

-- the pieces of the closing, one pushed behind the other
pub closing_written : (c : Certificate) (levels start one version two : List ℕ) → levels ≡ c.levels → start ≡ [] → one ≡ start ++ levels_text levels → version ≡ version_text c → two ≡ one ++ version → two ≡ closing_text c
closing_written c levels start one version two a z f v g =
    g ∙ ap (λ (s : List ℕ). s ++ version) (f ∙ ap (λ (s : List ℕ). s ++ levels_text levels) z ∙ ap levels_text a) ∙ ap (λ (s : List ℕ). levels_text c.levels ++ s) v

-- counts of accesses in bodies stand before the entries, unless all are zero
pub opening_with : (c : Certificate) (bodies : List ℕ) → bodies ≡ c.bodies → has_no_bodies c ≡ false → bodies_text bodies ≡ opening_text c
opening_with c bodies a some = ap bodies_text a ∙ sym (ap (λ (none : Bool). if none then codes "{\"entries\":" else bodies_text c.bodies) some)

-- ---- entries

-- the first of some entries, and the others
module _ (rs : List Reason) (ts : List Told) (x : Told) (xs : List Told) (is : ts ≡ x ∷ xs) where
  pub first_given : (r : Reason) (old one two : List ℕ) → x.reason < length rs → r ≡ get_or rs x.reason r → one ≡ old ++ codes "[" → two ≡ one ++ compact_text (entry_data (entry_with x.question r))
      → two ≡ old ++ (codes "[" ++ first_entry_text (entries_told rs ts))
  first_given r old one two within at e f =
      let told : entry_with x.question r ≡ entry_told rs x = ap (entry_with x.question) (at ∙ reason_any rs x.reason r within) in
      f ∙ ap (λ (y : Entry). one ++ compact_text (entry_data y)) told
      ∙ ap (λ (s : List ℕ). s ++ compact_text (entry_data (entry_told rs x))) e
      ∙ append_assoc old (codes "[") (compact_text (entry_data (entry_told rs x)))
      ∙ ap (λ (l : List Told). old ++ (codes "[" ++ first_entry_text (entries_told rs l))) (sym is)

  pub others_given : next_entries_text (entries_told rs xs) ≡ other_entries_text (entries_told rs ts)
  others_given = ap (λ (l : List Told). other_entries_text (entries_told rs l)) (sym is)

  -- one more is written: what is written and what is left stay all
  pub entry_given : (before after whole : List ℕ) → before ++ next_entries_text (entries_told rs ts) ≡ whole → after ≡ before ++ next_entry_text x.question (reason_at rs x.reason)
      → after ++ next_entries_text (entries_told rs xs) ≡ whole
  entry_given before after whole all e =
      ap (λ (s : List ℕ). s ++ next_entries_text (entries_told rs xs)) e
      ∙ append_assoc before (next_entry_text x.question (reason_at rs x.reason)) (next_entries_text (entries_told rs xs))
      ∙ ap (λ (l : List Told). before ++ next_entries_text (entries_told rs l)) (sym is)
      ∙ all

-- the numbers of each entry are in their ranges
pub all_fit : (rs : List Reason) (ts : List Told) → All (HasReason rs) ts → All ReasonFits rs → All (λ (t : Told). QuestionFits t.question) ts → All EntryFits (entries_told rs ts)
all_fit rs ts within reasons questions = All-map EntryFits (entry_told rs) ts (λ k d lt. (questions k d lt, reasons (get_or ts k d).reason (Apart []) (within k d lt)))

-- ---- room

-- one tail more is no longer than the longest
pub longer : (ts : List (String Global)) (i : ℕ) (t : String Global) (old new : ℕ) → i < length ts → t ≡ get_or ts i t → All (λ (u : String Global). length (string_bytes u) ≤ old) (take i ts)
    → old ≤ new → length (string_bytes t) ≤ new → All (λ (u : String Global). length (string_bytes u) ≤ new) (take (i + 1) ts)
longer ts i t old new lt at all grows fits =
    let IsShort : String Global → Type 0 = λ u. length (string_bytes u) ≤ new in
    let before = All-weaker (λ (u : String Global). length (string_bytes u) ≤ old) IsShort (λ (u : String Global) (h : length (string_bytes u) ≤ old). omega (arith, h, grows)) (take i ts) all in
    All-more IsShort ts i t lt before (subst IsShort at fits)

-- room for the longest tail is room for each
pub tails_room : (rs : List Reason) (ts : List (String Global)) (room : ℕ) → AreTailsOf rs ts → All (λ (t : String Global). length (string_bytes t) + 64 ≤ room) ts → All (HasRoomFor room) rs
tails_room rs ts room h all k d lt =
    let HasRoom : List ℕ → Type 0 = λ b. length b + 64 ≤ room in
    let texts = subst (All HasRoom) h.texts (All-map HasRoom (λ (t : String Global). string_bytes t) ts all) in
    let first = subst HasRoom (get_or-map tail_text rs k (Apart []) [] lt) (texts k [] (subst (λ (n : ℕ). k < n) (sym (length-map rs tail_text)) lt)) in
    subst (HasRoomFor room) (sym (reason_any rs k d lt)) first

pub room_at : (rs : List Reason) (room n len most : ℕ) → All (HasRoomFor room) rs → n < length rs → len + room ≤ most → len + (length (tail_text (reason_at rs n)) + 64) ≤ most
room_at rs room n len most short within fits =
    let tail : length (tail_text (reason_at rs n)) + 64 ≤ room = short n (Apart []) within in
    omega (arith, tail, fits)

comma_length : (xs : List ℕ) → length (codes "," ++ xs) ≡ length xs + 1
comma_length xs = let one : length (codes "," ++ xs) ≡ length (44 ∷ xs) = refl in omega (arith, one)

small_length : (n : ℕ) → IsSmall n → length (decimal n) ≤ 10
small_length n h = length-decimal-le 10 n (omega arith) (omega (arith, h)) (omega (arith, h))

first_length : (q : EntryQuestion) → QuestionFits q → length (first_text q) ≤ 22
first_length q fits =
    let comma : length (codes ",") ≡ 1 = refl in
    omega (arith, comma, length-append (decimal q.x) (codes "," ++ (decimal q.a ++ codes ",")), comma_length (decimal q.a ++ codes ","), length-append (decimal q.a) (codes ","), small_length q.x fits.0, small_length q.a fits.1)

head_by : (p q : EntryQuestion) (kind head : List ℕ) → length kind ≡ 9 → head ≡ codes "," ++ (kind ++ first_text p) → first_text p ≡ first_text q → QuestionFits q → length head ≤ 32
head_by p q kind head nine is alike fits =
    omega (arith, nine, ap length is, comma_length (kind ++ first_text p), length-append kind (first_text p), ap length alike, first_length q fits)

-- a head is short
pub head_length : (p q : EntryQuestion) (r : Reason) (head : List ℕ) → head ≡ next_head_text p r → first_text p ≡ first_text q → QuestionFits q → length head ≤ 32
head_length p q (Apart chain) head is alike fits = head_by p q (codes "[\"apart\",") head refl is alike fits
head_length p q (Cover mine theirs chains) head is alike fits = head_by p q (codes "[\"cover\",") head refl is alike fits

-- and so is a middle
pub second_length : (q : EntryQuestion) → QuestionFits q → length (second_text q) ≤ 21
second_length q fits =
    omega (arith, length-append (decimal q.y) (codes "," ++ decimal q.b), comma_length (decimal q.b), small_length q.y fits.2, small_length q.b fits.3)

-- ---- pieces

pub nothing_left : (rs : List Reason) (ts : List Told) (closing : List ℕ) → length ts ≡ 0 → length closing ≡ 0 → next_entries_text (entries_told rs ts) ++ closing ≡ []
nothing_left rs [] [] none bare = refl
nothing_left rs [] (b ∷ bs) none bare = absurd (omega (arith, bare))
nothing_left rs (t ∷ ts) closing none bare = absurd (omega (arith, none))

-- a text of the first piece
pub pieces_begin : (left : TextLeft) (start one piece whole : List ℕ) → start ≡ [] → piece ≡ left.piece → one ≡ start ++ piece → text_left left ≡ whole → one ++ left.behind ≡ whole
pieces_begin left start one piece whole z p e all =
    ap (λ (s : List ℕ). s ++ left.behind) (e ∙ ap (λ (s : List ℕ). s ++ piece) z ∙ p) ∙ all

-- a piece more
pub pieces_more : (old new : TextLeft) (before after piece whole : List ℕ) → before ++ old.behind ≡ whole → text_left new ≡ old.behind → piece ≡ new.piece → after ≡ before ++ piece → after ++ new.behind ≡ whole
pieces_more old new before after piece whole all moves p e =
    ap (λ (s : List ℕ). s ++ new.behind) (e ∙ ap (λ (s : List ℕ). before ++ s) p) ∙ append_assoc before new.piece new.behind ∙ ap (λ (s : List ℕ). before ++ s) moves ∙ all

-- all pieces
pub pieces_end : (left : TextLeft) (text whole : List ℕ) → text ++ left.behind ≡ whole → left.behind ≡ [] → text ≡ whole
pieces_end left text whole all none = sym (append-nil text) ∙ ap (λ (s : List ℕ). text ++ s) (sym none) ∙ all

-- bytes that begin with a piece, and go on with all behind it
pub read_first : (left : TextLeft) (bytes rest piece given more : List ℕ) → piece ≡ left.piece → given ≡ piece → bytes ≡ given ++ rest → rest ≡ left.behind ++ more → bytes ≡ text_left left ++ more
read_first left bytes rest piece given more p g e is =
    e ∙ ap (λ (s : List ℕ). s ++ rest) (g ∙ p) ∙ ap (λ (s : List ℕ). left.piece ++ s) is ∙ sym (append_assoc left.piece left.behind more)

-- and so do those that are left
pub read_next : (old new : TextLeft) (bytes rest piece given more : List ℕ) → text_left new ≡ old.behind → piece ≡ new.piece → given ≡ piece → bytes ≡ given ++ rest → rest ≡ new.behind ++ more → bytes ≡ old.behind ++ more
read_next old new bytes rest piece given more moves p g e is =
    read_first new bytes rest piece given more p g e is ∙ ap (λ (s : List ℕ). s ++ more) moves

-- nothing is left of the text, and of the bytes no more than a line feed
pub read_end : (left : TextLeft) (bytes rest whole : List ℕ) → ((more : List ℕ) → rest ≡ left.behind ++ more → bytes ≡ whole ++ more) → left.behind ≡ [] → (rest ≡ []) ⊎ (rest ≡ codes "\n")
    → (bytes ≡ whole) ⊎ (bytes ≡ whole ++ codes "\n")
read_end left bytes rest whole reads none (inl e) = inl (reads [] (e ∙ ap (λ (s : List ℕ). s ++ []) (sym none)) ∙ append-nil whole)
read_end left bytes rest whole reads none (inr e) = inr (reads (codes "\n") (e ∙ ap (λ (s : List ℕ). s ++ codes "\n") (sym none)))
