-- Single tokens: what is found and read of them.
use Rattle.std.proofs.Common.{◌≡◌, List, [], ◌∷◌, Bool, true, false, if◌then◌else◌, Option, Some, None, Ok, ap, refl}
use denote.Enum.Bare.{same_true}
use Rattle.prog_tree.specs.Number.{least as least_number}
use Rattle.prog_tree.specs.Syntax.{Name, ExprTree, Literal}
use Rattle.prog_text.specs.contracts.lexing.token.Sign.{the_type}
use Rattle.prog_text.specs.declared.lexing.token.Sign.{Sign}
use Rattle.prog_text.specs.declared.lexing.token.Token.{Token}
use Rattle.prog_text.specs.declared.lexing.token.Sign.TheVariants as sign
use Rattle.prog_text.specs.declared.lexing.token.Token.TheVariants as t
use Rattle.prog_text.specs.Canonical.{relation_token}
use Rattle.prog_text.specs.Reading.{same_sign, behind_sign, unexpected, after_sign, expect, name_at, relation_at}
use Rattle.prog_text.proofs.Sound.{IsOne, IsBehind}

same_is : (u v : Sign) → same_sign u v ≡ true → u ≡ v
same_is = same_true the_type tt

finds_if : (u v : Sign) (ts : List Token) (b : Bool) → (b ≡ true → v ≡ u) → IsBehind (t.Sign u) (t.Sign v ∷ ts) (if b then Some ts else None)
finds_if u v ts true h = ap (λ (w : Sign). t.Sign w ∷ ts) (h refl)
finds_if u v ts false h = tt

pub finds_sign : (u : Sign) (ts : List Token) → IsBehind (t.Sign u) ts (after_sign u ts)
finds_sign u (t.Sign v ∷ ts) = finds_if u v ts (same_sign v u) (same_is v u)
finds_sign u ts = tt

-- the value of a sign tells nothing
abbrev pub alone : Token → Unit {0} → Token
alone u x = u

one_if : (u : Sign) (ts : List Token) (o : Option (List Token)) → IsBehind (t.Sign u) ts o → IsOne (alone (t.Sign u)) ts (behind_sign o (λ rest. Ok (tt, rest)) (unexpected ts))
one_if u ts (Some us) h = h
one_if u ts None h = refl

pub one_sign : (u : Sign) (ts : List Token) → IsOne (alone (t.Sign u)) ts (expect u ts)
one_sign u ts = one_if u ts (after_sign u ts) (finds_sign u ts)

pub one_name : (ts : List Token) → IsOne t.Name ts (name_at ts)
one_name (t.Name x ∷ ts) = refl
one_name ts = refl

pub one_relation : (ts : List Token) → IsOne relation_token ts (relation_at ts)
one_relation (t.Sign sign.Less ∷ ts) = refl
one_relation ts = refl

-- some name and some expression, to complete with
abbrev pub a_name : Name
a_name = 120 ∷ []

abbrev pub an_expr : ExprTree
an_expr = Literal least_number
