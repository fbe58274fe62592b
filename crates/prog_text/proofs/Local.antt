-- Each reading function looks no further than where it stops: tables, programs and sets.
use Rattle.std.proofs.Common.{ℕ, ◌==◌, List, [], ◌∷◌, Bool, true, false, if◌then◌else◌, Ok, arith}
use Rattle.prog_tree.specs.declared.table.Arity.TheVariants as arity
use Rattle.prog_text.specs.declared.lexing.token.Token.{Token}
use Rattle.prog_text.specs.declared.lexing.token.Sign.TheVariants as sign
use Rattle.prog_text.specs.declared.lexing.token.Token.TheVariants as t
use Rattle.prog_text.specs.Reading.{◌>>=◌, unexpected, expect, name_at, arity_at, grow_at, table_at, names_at, params_at, program_at, set_at}
use Rattle.prog_text.proofs.Alike.{Near, AlikeFrom, Local, LocalAt, then_local, done_local, matched, unfit, by_first, behind_sign_local, items_local, separated_local}
use Rattle.prog_text.proofs.Enough.{tables_enough, names_enough, programs_enough}
use Rattle.prog_text.proofs.LocalTokens.{sign_local, name_local, end_local}
use Rattle.prog_text.proofs.LocalStatements.{block_local}

-- ---- tables and programs

arity_of_local : (n : ℕ) (is_one is_two : Bool) → LocalAt (t.Number n) (λ ts. if is_one then Ok (arity.One, ts) else if is_two then Ok (arity.Two, ts) else unexpected (t.Number n ∷ ts))
arity_of_local n true is_two = matched (done_local arity.One)
arity_of_local n false true = matched (done_local arity.Two)
arity_of_local n false false = unfit

arity_first : (u : Token) → LocalAt u (λ ts. arity_at (u ∷ ts))
unfolding arity_at
arity_first (t.Number n) = arity_of_local n (n == 1) (n == 2)
arity_first u = unfit

arity_local : Local arity_at
unfolding arity_at
arity_local = by_first arity_at (λ shared rest other. omega arith) arity_first

grow_local : Local grow_at
grow_local = behind_sign_local sign.Grow (λ rest. Ok (true, rest)) (λ ts. Ok (false, ts)) (done_local true) (done_local false)

table_local : Local table_at
unfolding table_at
table_local =
    then_local _ name_local
    (λ x. then_local _ arity_local
    (λ y. then_local _ grow_local
    (λ z. then_local _ (sign_local sign.Semicolon)
    (λ c. done_local (record { name = x; arity = y; grow = z })))))

names_local : Local names_at
names_local = separated_local sign.Comma name_at names_enough name_local

params_local : Local params_at
unfolding params_at
params_local =
    behind_sign_local sign.Close (λ ts. Ok ([], ts)) (λ ts. names_at ts >>= λ names. expect sign.Close names.1 >>= λ closed. Ok (names.0, closed.1)) (done_local [])
    (then_local _ names_local (λ xs. then_local _ (sign_local sign.Close) (λ c. done_local xs)))

program_local : Local program_at
unfolding program_at
program_local =
    then_local _ name_local
    (λ x. then_local _ (sign_local sign.Open)
    (λ o. then_local _ params_local
    (λ xs. then_local _ block_local
    (λ body. done_local (record { name = x; params = xs; body = body })))))

set_local : Local set_at
unfolding set_at
set_local =
    then_local _ (items_local sign.Table table_at tables_enough table_local [])
    (λ tables. then_local _ (items_local sign.Program program_at programs_enough program_local [])
    (λ programs. then_local _ end_local
    (λ c. done_local (record { tables = tables; programs = programs }))))

-- a set is read alike up to a token, whatever follows that token
pub set_alike : (shared : Token) (rest other a b : List Token) (w : Near shared rest other a b) → AlikeFrom shared rest other w (set_at a) (set_at b)
set_alike = set_local.alike
