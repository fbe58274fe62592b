-- Texts that are read, and texts that are refused.
use Rattle.std.proofs.Common.{◌≡◌, ℕ, pos, ◌≤◌, List, [], ◌∷◌, ◌++◌, length, Ok, refl, codes, arith}
use Rattle.std.specs.Prelude.{true, false}
use Rattle.std.specs.Fmt.{digits}
use Rattle.std.specs.Result.{result_unwrap_or}
use Rattle.prog_tree.specs.Syntax.{ExprTree, Literal, Named, Plus, Minus, Times, Less, Equal, GreaterEqual, Reply, BlockEnd, Then, DraftTree}
use Rattle.prog_tree.specs.declared.table.Arity.TheVariants as arity
use Rattle.prog_text.specs.declared.fault.TextFault.TheVariants as f
use Rattle.prog_text.specs.declared.lexing.token.Token.{Token}
use Rattle.prog_text.specs.declared.lexing.token.Sign.TheVariants as sign
use Rattle.prog_text.specs.declared.lexing.token.Token.TheVariants as t
use Rattle.prog_text.specs.Answer.{HasTokens, Accepts, Refuses}
use Rattle.prog_text.specs.Limits.{text_limit}
use Rattle.prog_text.specs.Grammar.{IsFactor, IsProduct, IsExpr, IsSet}
use Rattle.prog_text.specs.Grammar as g
use Rattle.prog_text.specs.Lexing.{Placed, tokens_of, tokens_from, piece_at, word_at, number_at, sign_at}
use Rattle.prog_text.specs.Reading.{many_from, separated_at, factor_at, product_from, product_at, sum_from, sum_at, expr_within, expr_at, compared_at, comparison_at, test_at, key_from, key_at, get_at, bound_at, let_at, statement_at, block_at, second_at, behind_second, behind_first, branch_at, more_at, body_within, body_at, table_at, arity_at, params_at, program_at, set_at}
use Rattle.prog_text.proofs.Converse.{tokens_exactly}
use Rattle.prog_text.proofs.RoundTrip.{read_again}
use Rattle.prog_text.proofs.Refusals.{set_misfit, set_unfinished}

abbrev placed : Placed
placed =
    (t.Sign sign.Table, 33) ∷ (t.Name (codes "t"), 27) ∷ (t.Number 1, 25) ∷ (t.Sign sign.Semicolon, 24) ∷
    (t.Sign sign.Program, 23) ∷ (t.Name (codes "P"), 15) ∷ (t.Sign sign.Open, 14) ∷ (t.Name (codes "a"), 13) ∷ (t.Sign sign.Close, 12) ∷
    (t.Sign sign.OpenBlock, 11) ∷ (t.Sign sign.Reply, 10) ∷ (t.Name (codes "a"), 4) ∷ (t.Sign sign.Semicolon, 3) ∷ (t.Sign sign.CloseBlock, 1) ∷ []

abbrev draft : DraftTree
draft = record {
  tables = record { name = codes "t"; arity = arity.One; grow = false } ∷ [];
  programs = record { name = codes "P"; params = codes "a" ∷ []; body = Then (Reply (Named (codes "a"))) BlockEnd } ∷ [];
}

abbrev a : List ℕ
a = codes "a"

abbrev table_tokens : List Token
table_tokens = t.Sign sign.Table ∷ t.Name (codes "t") ∷ t.Number 1 ∷ t.Sign sign.Semicolon ∷ []

abbrev reply_tokens : List Token
reply_tokens = t.Sign sign.Reply ∷ t.Name a ∷ t.Sign sign.Semicolon ∷ []

abbrev block_tokens : List Token
block_tokens = t.Sign sign.OpenBlock ∷ (reply_tokens ++ t.Sign sign.CloseBlock ∷ [])

abbrev program_tokens : List Token
program_tokens = t.Sign sign.Program ∷ t.Name (codes "P") ∷ t.Sign sign.Open ∷ t.Name a ∷ t.Sign sign.Close ∷ block_tokens

-- an expression of one factor
pub lone : (ts : List Token) (e : ExprTree) → IsFactor ts e → IsExpr ts e
lone ts e d = g.product ts e (g.factor ts e d)

spelled : IsSet (table_tokens ++ program_tokens) draft
spelled =
    let replies = g.reply (t.Name a ∷ []) (Named a) (lone (t.Name a ∷ []) (Named a) (g.IsFactor.name a)) in
    let block = g.block reply_tokens _ (g.IsStatements.more reply_tokens [] _ _ replies g.nothing) in
    let params = g.some (t.Name a ∷ []) _ (g.separated (t.Name a ∷ []) [] _ [] (g.IsName.name a) g.Many.none) in
    g.set table_tokens program_tokens _ _
    (g.Many.more table_tokens [] _ [] (g.IsTable.plain (codes "t") 1 arity.One g.IsArity.one) g.Many.none)
    (g.Many.more program_tokens [] _ [] (g.program (codes "P") (t.Name a ∷ []) block_tokens _ _ params block) g.Many.none)

read : Accepts (codes "table t 1;program P(a){reply a; }") draft
unfolding tokens_from piece_at word_at number_at sign_at
read = record {
  placed = placed;
  shallow = record { tokens = record { short = omega arith; cut = (tokens_exactly _ placed).0 refl }; shallow = refl };
  spelled = spelled;
}

-- the same draft as it is printed
read_as_printed : Accepts (codes "table t 1;\nprogram P(a) {\n  reply a;\n}\n") draft
unfolding digits
read_as_printed = read_again (codes "table t 1;program P(a){reply a; }") draft read (omega arith)

cut_short : Refuses (codes "table t") (f.UnexpectedEnd 7)
unfolding tokens_from piece_at word_at number_at sign_at set_at many_from table_at arity_at
cut_short =
    let tokens : Placed = (t.Sign sign.Table, 7) ∷ (t.Name (codes "t"), 1) ∷ [] in
    (tokens, record { tokens = record { short = omega arith; cut = (tokens_exactly _ tokens).0 refl }; shallow = refl }, set_unfinished _ refl, refl)

misfit : Refuses (codes "program P( {") (f.UnexpectedToken 11)
unfolding tokens_from piece_at word_at number_at sign_at set_at many_from program_at params_at separated_at
misfit =
    let tokens : Placed = (t.Sign sign.Program, 12) ∷ (t.Name (codes "P"), 4) ∷ (t.Sign sign.Open, 3) ∷ (t.Sign sign.OpenBlock, 1) ∷ [] in
    (tokens, 3, record { tokens = record { short = omega arith; cut = (tokens_exactly _ tokens).0 refl }; shallow = refl }, set_misfit _ 1 (λ e. cc) refl, refl)

-- ---- operators

abbrev b : List ℕ
b = codes "b"

abbrev left : IsProduct (t.Name a ∷ []) (Named a)
left = g.factor (t.Name a ∷ []) (Named a) (g.IsFactor.name a)

abbrev right : IsProduct (t.Name b ∷ []) (Named b)
right = g.factor (t.Name b ∷ []) (Named b) (g.IsFactor.name b)

-- a - b - 2 * (a + b): operators of one level group to the left, and brackets leave no trace
grouped : IsExpr (t.Name a ∷ t.Sign sign.Minus ∷ t.Name b ∷ t.Sign sign.Minus ∷ t.Number 2 ∷ t.Sign sign.Times ∷ t.Sign sign.Open ∷ t.Name a ∷ t.Sign sign.Plus ∷ t.Name b ∷ t.Sign sign.Close ∷ [])
    (Minus (Minus (Named a) (Named b)) (Times (Literal (pos 2)) (Plus (Named a) (Named b))))
grouped =
    let added = g.plus (t.Name a ∷ []) (t.Name b ∷ []) (Named a) (Named b) (g.product _ _ left) right in
    let two = g.factor (t.Number 2 ∷ []) (Literal (pos 2)) (g.number 2) in
    let less = g.minus (t.Name a ∷ []) (t.Name b ∷ []) (Named a) (Named b) (g.product _ _ left) right in
    g.minus (t.Name a ∷ t.Sign sign.Minus ∷ t.Name b ∷ []) _ _ _ less (g.times (t.Number 2 ∷ []) _ _ _ two (g.bracketed _ _ added))

-- a < b or not a == b and b >= 0: `and` binds tighter than `or`
tested : test_at (t.Name a ∷ t.Sign sign.Less ∷ t.Name b ∷ t.Sign sign.Or ∷ t.Sign sign.Not ∷ t.Name a ∷ t.Sign sign.EqualEqual ∷ t.Name b ∷ t.Sign sign.And ∷ t.Name b ∷ t.Sign sign.GreaterEqual ∷ t.Number 0 ∷ [])
    ≡ Ok (
      (record { negated = false; left = Named a; relation = Less; right = Named b } ∷ [])
          ∷ (record { negated = true; left = Named a; relation = Equal; right = Named b } ∷ record { negated = false; left = Named b; relation = GreaterEqual; right = Literal (pos 0) } ∷ [])
          ∷ [],
      [],
    )
unfolding separated_at many_from comparison_at compared_at expr_at expr_within sum_at sum_from product_at product_from factor_at
tested = refl

-- ---- blocks

-- the tokens of a text that has some
abbrev pub cut_of : List ℕ → Placed
cut_of bytes = result_unwrap_or (tokens_of bytes) []

abbrev pub has_tokens : (bytes : List ℕ) (placed : Placed) → length bytes ≤ text_limit → tokens_of bytes ≡ Ok placed → HasTokens bytes placed
has_tokens bytes placed short e = record { short = short; cut = (tokens_exactly bytes placed).0 e }

-- cut in the word `else`: what is left of it is a name, which can't stand there
cut_in_else : Refuses (codes "program P(n) { let a = get t[n] el") (f.UnexpectedToken 32)
unfolding tokens_from piece_at word_at number_at sign_at set_at many_from separated_at program_at params_at block_at body_at body_within more_at statement_at let_at bound_at get_at key_at key_from expr_at expr_within sum_at sum_from product_at product_from factor_at
cut_in_else =
    let text : List ℕ = codes "program P(n) { let a = get t[n] el" in
    (cut_of text, 14, record { tokens = has_tokens text (cut_of text) (omega arith) refl; shallow = refl }, set_misfit _ 1 (λ e. cc) refl, refl)

-- a second `else` can't stand where a statement can
two_elses : Refuses (codes "program P(n) { if n < 0 { } else { } else { } }") (f.UnexpectedToken 37)
unfolding tokens_from piece_at word_at number_at sign_at set_at many_from separated_at program_at params_at block_at body_at body_within branch_at behind_first behind_second second_at more_at statement_at comparison_at compared_at expr_at expr_within sum_at sum_from product_at product_from factor_at
two_elses =
    let text : List ℕ = codes "program P(n) { if n < 0 { } else { } else { } }" in
    (cut_of text, 15, record { tokens = has_tokens text (cut_of text) (omega arith) refl; shallow = refl }, set_misfit _ 4 (λ e. cc) refl, refl)
