-- Marks that are cut again give their tokens.
use Rattle.std.proofs.Common.{◌≡◌, ℕ, zero, suc, ◌*◌, List, [], ◌∷◌, ◌++◌, length, Bool, true, false, if◌then◌else◌, Some, None, replicate, refl, ap, append_assoc}
use Rattle.std.proofs.lemmas.Grind.{flat_map-append}
use Rattle.std.proofs.lemmas.List.Elements.{filter_map-append}
use Rattle.prog_text.specs.declared.lexing.token.Sign.{Sign}
use Rattle.prog_text.specs.declared.lexing.token.Token.{Token}
use Rattle.prog_text.specs.declared.lexing.token.Sign.TheVariants as sign
use Rattle.prog_text.specs.declared.lexing.token.Token.TheVariants as t
use Rattle.prog_text.specs.Spelling.{spelling}
use Rattle.prog_text.specs.Lexing.{is_space, Placed, kinds}
use Rattle.prog_text.specs.Cut.{IsPiece, IsCut, another, space}
use Rattle.prog_text.specs.Canonical.{Mark, Word, Space, Indent, LineEnd, mark_bytes, mark_token, bytes_of, words_of, spaced, leading, in_brackets_if}
use Rattle.prog_text.proofs.Breaks.{Breaks, IsLexed, broken_piece, stands_alone, alone_piece}

-- the bytes are cut into these tokens, wherever they stand
pub record IsCutInto (bytes : List ℕ) (ts : List Token) : Type 0 where
  pub placed : Placed
  pub cut : IsCut bytes placed
  pub same : kinds placed ≡ ts

-- in front of such bytes the marks give their tokens
pub record Cuts (Before : List ℕ → Type 0) (marks : List Mark) : Type 0 where
  pub cuts : (rest : List ℕ) (ts : List Token) → Before rest → IsCutInto rest ts → IsCutInto (bytes_of marks ++ rest) (words_of marks ++ ts)

-- in front of any bytes
abbrev pub Closed : List Mark → Type 0
Closed marks = Cuts (λ rest. Unit {0}) marks

-- in front of bytes that don't go on with the last of them
abbrev pub Open : List Mark → Type 0
Open marks = Cuts Breaks marks

-- no token in front of the marks goes on with them
pub record Begins (marks : List Mark) : Type 0 where
  pub breaks : (rest : List ℕ) → Breaks (bytes_of marks ++ rest)

-- ---- one behind the other

parts : (xs ys : List Mark) (rest : List ℕ) (ts : List Token) → IsCutInto (bytes_of xs ++ (bytes_of ys ++ rest)) (words_of xs ++ (words_of ys ++ ts)) → IsCutInto (bytes_of (xs ++ ys) ++ rest) (words_of (xs ++ ys) ++ ts)
parts xs ys rest ts h =
    rw (flat_map-append mark_bytes xs ys, append_assoc (bytes_of xs) (bytes_of ys) rest, filter_map-append mark_token xs ys, append_assoc (words_of xs) (words_of ys) ts) h

pub nothing_closed : Closed []
nothing_closed = record { cuts = λ rest ts any h. h }

pub closed_open : {marks : List Mark} → Closed marks → Open marks
closed_open whole = record { cuts = λ rest ts breaks h. whole.cuts rest ts tt h }

-- what is behind closed marks may be closed or open
pub after_closed : {xs ys : List Mark} {Before : List ℕ → Type 0} → Closed xs → Cuts Before ys → Cuts Before (xs ++ ys)
after_closed {xs = xs} {ys = ys} first second = record { cuts = λ rest ts before h. parts xs ys rest ts (first.cuts _ _ tt (second.cuts rest ts before h)) }

pub after_open : {xs ys : List Mark} {Before : List ℕ → Type 0} → Open xs → Begins ys → Cuts Before ys → Cuts Before (xs ++ ys)
after_open {xs = xs} {ys = ys} first begins second = record { cuts = λ rest ts before h. parts xs ys rest ts (first.cuts _ _ (begins.breaks rest) (second.cuts rest ts before h)) }

pub space_begins : (marks : List Mark) → Begins (Space ∷ marks)
space_begins marks = record { breaks = λ rest. refl }

-- ---- single marks

space_cut : (b : ℕ) (rest : List ℕ) (ts : List Token) → IsCutInto rest ts → is_space b ≡ true → IsCutInto (b ∷ rest) ts
space_cut b rest ts h e = record { placed = h.placed; cut = another None (b ∷ []) rest h.placed (space b rest e) h.cut; same = h.same }

pub space_closed : Closed (Space ∷ [])
space_closed = record { cuts = λ rest ts any h. space_cut 32 rest ts h refl }

pub line_end_closed : Closed (LineEnd ∷ [])
line_end_closed = record { cuts = λ rest ts any h. space_cut 10 rest ts h refl }

spaces_cut : (n : ℕ) (rest : List ℕ) (ts : List Token) → IsCutInto rest ts → IsCutInto (replicate n 32 ++ rest) ts
spaces_cut zero rest ts h = h
spaces_cut (suc n) rest ts h = space_cut 32 _ ts (spaces_cut n rest ts h) refl

pub indent_closed : (depth : ℕ) → Closed (Indent depth ∷ [])
indent_closed depth = record { cuts = λ rest ts any h. rw (append_assoc (replicate (2 * depth) 32) [] rest) (spaces_cut (2 * depth) rest ts h) }

piece_cut : (u : Token) (rest : List ℕ) (ts : List Token) → IsPiece (Some u) (spelling u) rest → IsCutInto rest ts → IsCutInto ((spelling u ++ []) ++ rest) (u ∷ ts)
piece_cut u rest ts is h =
    rw (append_assoc (spelling u) [] rest) (record { placed = (u, length (spelling u ++ rest)) ∷ h.placed; cut = another (Some u) (spelling u) rest h.placed is h.cut; same = ap (λ (us : List Token). u ∷ us) h.same })

-- any token, before a break
pub word_open : (u : Token) → IsLexed u → Open (Word u ∷ [])
word_open u lexed = record { cuts = λ rest ts breaks h. piece_cut u rest ts (broken_piece u rest lexed breaks) h }

-- a sign that stands alone
pub sign_closed : (s : Sign) → stands_alone (t.Sign s) ≡ true → Closed (Word (t.Sign s) ∷ [])
sign_closed s alone =
    record { cuts = λ rest ts any h. piece_cut (t.Sign s) rest ts (alone_piece (t.Sign s) rest tt alone) h }

pub leading_closed : (u : Token) → IsLexed u → Closed (leading u)
leading_closed u lexed = after_open (word_open u lexed) (space_begins []) space_closed

pub spaced_closed : (u : Token) → IsLexed u → Closed (spaced u)
spaced_closed u lexed = after_closed space_closed (leading_closed u lexed)

-- a sign that goes on with nothing
abbrev IsApart : Token → Type 0
IsApart u = (rest : List ℕ) → Breaks (spelling u ++ rest)

pub sign_begins : (u : Token) (marks : List Mark) → IsApart u → Begins (Word u ∷ marks)
sign_begins u marks apart = record { breaks = λ rest. rw (append_assoc (spelling u) (bytes_of marks) rest) (apart (bytes_of marks ++ rest)) }

-- ---- choices

pub open_if : (b : Bool) (xs ys : List Mark) → Open xs → Open ys → Open (if b then xs else ys)
open_if true xs ys first second = first
open_if false xs ys first second = second

pub in_brackets : (b : Bool) (marks : List Mark) → Open marks → Open (in_brackets_if b marks)
in_brackets false marks h = h
in_brackets true marks h = after_closed (sign_closed sign.Open refl) (after_open h (sign_begins (t.Sign sign.Close) [] (λ rest. refl)) (closed_open (sign_closed sign.Close refl)))
