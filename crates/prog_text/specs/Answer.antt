-- Which answer a text has: a draft, or its first refusal.
use Rattle.std.specs.Prelude.{◌≡◌, ℕ, ◌-◌, ◌<◌, ◌≤◌, List, [], ◌∷◌, ◌++◌, length, Some, None, slice_index}
use Rattle.prog_tree.specs.Syntax.{DraftTree}
use Rattle.prog_text.specs.declared.fault.TextFault.{TextFault}
use Rattle.prog_text.specs.declared.fault.TextFault.TheVariants as f
use Rattle.prog_text.specs.declared.lexing.lex_error.Flaw.{Flaw}
use Rattle.prog_text.specs.declared.lexing.lex_error.Flaw.TheVariants as w
use Rattle.prog_text.specs.declared.lexing.token.Token.{Token}
use Rattle.prog_text.specs.Cut.{IsCut, IsFirstFlaw}
use Rattle.prog_text.specs.Grammar.{IsSet, BeginsSet}
use Rattle.prog_text.specs.Lexing.{Placed, kinds, lefts}
use Rattle.prog_text.specs.Limits.{text_limit, too_deep}

-- the text is short enough and is cut into these tokens
pub record HasTokens (bytes : List ℕ) (placed : Placed) : Type 0 where
  pub short : length bytes ≤ text_limit
  pub cut : IsCut bytes placed

-- besides, no token is too deep
pub record IsShallow (bytes : List ℕ) (placed : Placed) : Type 0 where
  pub tokens : HasTokens bytes placed
  pub shallow : too_deep (kinds placed) ≡ None

-- the bytes spell the draft, and no refusal applies
pub record Accepts (bytes : List ℕ) (d : DraftTree) : Type 0 where
  pub placed : Placed
  pub shallow : IsShallow bytes placed
  pub spelled : IsSet (kinds placed) d

-- the token at index n is the first with which the tokens begin no set
pub record IsMisfit (ts : List Token) (n : ℕ) : Type 0 where
  pub front : List Token
  pub token : Token
  pub rest : List Token
  pub parts : ts ≡ front ++ token ∷ rest
  pub index : length front ≡ n
  pub begins : BeginsSet front
  pub ends : BeginsSet (front ++ token ∷ []) → ⊥

-- the tokens begin a set and are none
pub record IsUnfinished (ts : List Token) : Type 0 where
  pub begins : BeginsSet ts
  pub is_none : (d : DraftTree) → IsSet ts d → ⊥

-- the place of the token at index n, from how many bytes are left there
abbrev pub place_of : List ℕ → Placed → ℕ → ℕ
place_of bytes placed n = length bytes - slice_index (lefts placed) n

-- the text is short enough, and has this flaw first, at this place
abbrev pub IsFlawed : List ℕ → Flaw → ℕ → Type 0
IsFlawed bytes flaw place = (length bytes ≤ text_limit) × IsFirstFlaw bytes flaw place

-- the refusal is the first that applies; want of memory may come at any time
abbrev pub Refuses : List ℕ → TextFault → Type 0
Refuses bytes (f.TooLong place) = (text_limit < length bytes) × (place ≡ text_limit)
Refuses bytes (f.NotAscii place) = IsFlawed bytes w.NotAscii place
Refuses bytes (f.UnknownByte place) = IsFlawed bytes w.UnknownByte place
Refuses bytes (f.NumberOutOfRange place) = IsFlawed bytes w.NumberOutOfRange place
Refuses bytes (f.NameTooLong place) = IsFlawed bytes w.NameTooLong place
Refuses bytes (f.TooDeep place) =
    (placed : Placed) × (n : ℕ) × HasTokens bytes placed × (too_deep (kinds placed) ≡ Some n) × (place ≡ place_of bytes placed n)
Refuses bytes (f.UnexpectedToken place) =
    (placed : Placed) × (n : ℕ) × IsShallow bytes placed × IsMisfit (kinds placed) n × (place ≡ place_of bytes placed n)
Refuses bytes (f.UnexpectedEnd place) =
    (placed : Placed) × IsShallow bytes placed × IsUnfinished (kinds placed) × (place ≡ length bytes)
Refuses bytes f.Memory = Unit {0}
