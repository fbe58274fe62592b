-- Readers of single tokens look no further than where they stop.
use Rattle.std.proofs.Common.{◌∷◌, Ok, arith}
use Rattle.prog_tree.specs.Syntax.{Less, LessEqual, Greater, GreaterEqual, Equal, NotEqual}
use Rattle.prog_text.specs.declared.lexing.token.Sign.{Sign}
use Rattle.prog_text.specs.declared.lexing.token.Token.{Token}
use Rattle.prog_text.specs.declared.lexing.token.Sign.TheVariants as sign
use Rattle.prog_text.specs.declared.lexing.token.Token.TheVariants as t
use Rattle.prog_text.specs.Reading.{unexpected, expect, end_at, name_at, relation_at}
use Rattle.prog_text.proofs.Alike.{Local, LocalAt, done_local, fault_local, matched, unfit, by_first, behind_sign_local}

pub sign_local : (v : Sign) → Local (expect v)
sign_local v = behind_sign_local v (λ rest. Ok (tt, rest)) unexpected (done_local tt) fault_local

name_first : (u : Token) → LocalAt u (λ ts. name_at (u ∷ ts))
name_first (t.Name x) = matched (done_local x)
name_first u = unfit

pub name_local : Local name_at
name_local = by_first name_at (λ shared rest other. omega arith) name_first

pub end_local : Local end_at
end_local = by_first end_at (λ shared rest other. omega arith) (λ u. unfit)

relation_first : (u : Token) → LocalAt u (λ ts. relation_at (u ∷ ts))
relation_first (t.Sign sign.Less) = matched (done_local Less)
relation_first (t.Sign sign.LessEqual) = matched (done_local LessEqual)
relation_first (t.Sign sign.Greater) = matched (done_local Greater)
relation_first (t.Sign sign.GreaterEqual) = matched (done_local GreaterEqual)
relation_first (t.Sign sign.EqualEqual) = matched (done_local Equal)
relation_first (t.Sign sign.NotEqual) = matched (done_local NotEqual)
relation_first u = unfit

pub relation_local : Local relation_at
relation_local = by_first relation_at (λ shared rest other. omega arith) relation_first
