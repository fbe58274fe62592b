-- Texts with an `each`: spelled, read, printed and refused.
use Rattle.std.proofs.Common.{◌≡◌, ℕ, zero, suc, pos, List, [], ◌∷◌, ◌++◌, Some, None, refl, codes, arith}
use Rattle.std.specs.Prelude.{false}
use Rattle.std.specs.Fmt.{digits}
use Rattle.prog_tree.specs.Number.{least as least_number, greatest as greatest_number}
use Rattle.prog_tree.specs.Syntax.{Name, ExprTree, Literal, Named, Plus, Times, One, OneRange, TwoRange, ListingTree, Put, Reply, BlockTree, BlockEnd, Then, Each, DraftTree}
use Rattle.prog_tree.specs.declared.table.Arity.TheVariants as arity
use Rattle.prog_text.specs.declared.fault.TextFault.TheVariants as f
use Rattle.prog_text.specs.declared.lexing.token.Token.{Token}
use Rattle.prog_text.specs.declared.lexing.token.Sign.TheVariants as sign
use Rattle.prog_text.specs.declared.lexing.token.Token.TheVariants as t
use Rattle.prog_text.specs.Answer.{Accepts, Refuses}
use Rattle.prog_text.specs.Canonical.{canonical}
use Rattle.prog_text.specs.Grammar.{IsStatements}
use Rattle.prog_text.specs.Grammar as g
use Rattle.prog_text.specs.Lexing.{kinds, tokens_from, piece_at, word_at, number_at, sign_at}
use Rattle.prog_text.specs.Limits.{too_deep}
use Rattle.prog_text.specs.Reading.{many_from, separated_at, factor_at, product_from, product_at, sum_from, sum_at, expr_within, expr_at, key_from, key_at, high_at, range_from, range_at, last_expr_at, assigned_at, statement_at, block_at, listing_at, behind_turns, each_at, more_at, body_within, body_at, table_at, arity_at, params_at, program_at, set_at}
use Rattle.prog_text.proofs.Examples.{cut_of, has_tokens, lone}
use Rattle.prog_text.proofs.Refusals.{set_found, set_misfit, set_unfinished}

abbrev k : Name
k = codes "k"

abbrev v : Name
v = codes "v"

abbrev one_to_three : ListingTree
one_to_three = record { key = k; value = v; table = codes "t"; range = OneRange (Literal (pos 1)) (Literal (pos 3)) }

-- ---- spelled

abbrev head_tokens : List Token
head_tokens = t.Sign sign.Each ∷ t.Name k ∷ t.Sign sign.Comma ∷ t.Name v ∷ t.Sign sign.In ∷ t.Name (codes "t") ∷ t.Sign sign.OpenKey ∷ t.Number 1 ∷ t.Sign sign.Dots ∷ t.Number 3 ∷ t.Sign sign.CloseKey ∷ []

-- the first name is the key's, and the second the value's
each_spelled : IsStatements (head_tokens ++ t.Sign sign.OpenBlock ∷ t.Sign sign.CloseBlock ∷ []) (Each one_to_three BlockEnd BlockEnd)
each_spelled =
    let low = lone (t.Number 1 ∷ []) (Literal (pos 1)) (g.number 1) in
    let high = lone (t.Number 3 ∷ []) (Literal (pos 3)) (g.number 3) in
    g.IsStatements.each k v (codes "t") (t.Name (codes "t") ∷ t.Sign sign.OpenKey ∷ t.Number 1 ∷ t.Sign sign.Dots ∷ t.Number 3 ∷ t.Sign sign.CloseKey ∷ []) (t.Sign sign.OpenBlock ∷ t.Sign sign.CloseBlock ∷ []) [] one_to_three.range BlockEnd BlockEnd
    (g.IsRange.one (codes "t") (t.Number 1 ∷ []) (t.Number 3 ∷ []) (Literal (pos 1)) (Literal (pos 3)) low high) (g.block [] BlockEnd g.nothing) g.nothing

-- ---- read and printed

abbrev a : ExprTree
a = Named (codes "a")

-- an `each` with another in it, and a statement behind both
abbrev body : BlockTree
body =
    Each (record { key = k; value = v; table = codes "t"; range = OneRange a (Times (Plus a (Literal (pos 1))) (Literal (pos 2))) })
    (Then (Put (codes "t") (One (Named k)) (Named v))
    (Each (record { key = codes "q"; value = codes "w"; table = codes "e"; range = TwoRange (Named k) (Literal least_number) (Literal greatest_number) }) BlockEnd BlockEnd))
    (Then (Reply a) BlockEnd)

abbrev draft : DraftTree
draft = record {
  tables = record { name = codes "t"; arity = arity.One; grow = false } ∷ record { name = codes "e"; arity = arity.Two; grow = false } ∷ [];
  programs = record { name = codes "P"; params = codes "a" ∷ []; body = body } ∷ [];
}

abbrev text : List ℕ
text = codes "table t 1; table e 2; program P(a) { each k,v in t[a..(a+1)*2]{put t[k]=v;each q , w in e[ k , least .. greatest ]{}}reply a; }"

each_is_read : Accepts text draft
unfolding tokens_from piece_at word_at number_at sign_at set_at many_from separated_at table_at arity_at program_at params_at block_at body_at body_within each_at listing_at behind_turns more_at statement_at assigned_at last_expr_at key_at key_from range_at range_from high_at expr_at expr_within sum_at sum_from product_at product_from factor_at
each_is_read = record {
  placed = cut_of text;
  shallow = record { tokens = has_tokens text (cut_of text) (omega arith) refl; shallow = refl };
  spelled = set_found (kinds (cut_of text)) [] draft refl;
}

each_is_printed : canonical draft
    ≡ codes "table t 1;\ntable e 2;\nprogram P(a) {\n  each k, v in t[a..(a + 1) * 2] {\n    put t[k] = v;\n    each q, w in e[k, least..greatest] {\n    }\n  }\n  reply a;\n}\n"
unfolding digits
each_is_printed = refl

-- ---- refused

-- the second name stands where the comma has to
without_comma : Refuses (codes "table t 1; program P() { each k v in t[1..3] { } }") (f.UnexpectedToken 32)
unfolding tokens_from piece_at word_at number_at sign_at set_at many_from table_at arity_at program_at params_at block_at body_at body_within each_at listing_at
without_comma =
    let text : List ℕ = codes "table t 1; program P() { each k v in t[1..3] { } }" in
    (cut_of text, 11, record { tokens = has_tokens text (cut_of text) (omega arith) refl; shallow = refl }, set_misfit _ 11 (λ e. cc) refl, refl)

-- `in` is no name
in_as_first_name : Refuses (codes "table t 1; program P() { each in, v in t[1..3] { } }") (f.UnexpectedToken 30)
unfolding tokens_from piece_at word_at number_at sign_at set_at many_from table_at arity_at program_at params_at block_at body_at body_within each_at listing_at
in_as_first_name =
    let text : List ℕ = codes "table t 1; program P() { each in, v in t[1..3] { } }" in
    (cut_of text, 10, record { tokens = has_tokens text (cut_of text) (omega arith) refl; shallow = refl }, set_misfit _ 13 (λ e. cc) refl, refl)

-- a block follows, and nothing else
without_block : Refuses (codes "table t 1; program P() { each k, v in t[1..3]; }") (f.UnexpectedToken 45)
unfolding tokens_from piece_at word_at number_at sign_at set_at many_from table_at arity_at program_at params_at block_at body_at body_within each_at listing_at range_at range_from high_at expr_at expr_within sum_at sum_from product_at product_from factor_at
without_block =
    let text : List ℕ = codes "table t 1; program P() { each k, v in t[1..3]; }" in
    (cut_of text, 20, record { tokens = has_tokens text (cut_of text) (omega arith) refl; shallow = refl }, set_misfit _ 2 (λ e. cc) refl, refl)

-- no `else` belongs to it
with_else : Refuses (codes "table t 1;\nprogram P() { each k, v in t[1..3] { } else { } }") (f.UnexpectedToken 50)
unfolding tokens_from piece_at word_at number_at sign_at set_at many_from table_at arity_at program_at params_at block_at body_at body_within each_at listing_at behind_turns more_at statement_at range_at range_from high_at expr_at expr_within sum_at sum_from product_at product_from factor_at
with_else =
    let text : List ℕ = codes "table t 1;\nprogram P() { each k, v in t[1..3] { } else { } }" in
    (cut_of text, 22, record { tokens = has_tokens text (cut_of text) (omega arith) refl; shallow = refl }, set_misfit _ 4 (λ e. cc) refl, refl)

ends_behind_in : Refuses (codes "table t 1; program P() { each k, v in") (f.UnexpectedEnd 37)
unfolding tokens_from piece_at word_at number_at sign_at set_at many_from table_at arity_at program_at params_at block_at body_at body_within each_at listing_at range_at
ends_behind_in =
    let text : List ℕ = codes "table t 1; program P() { each k, v in" in
    (cut_of text, record { tokens = has_tokens text (cut_of text) (omega arith) refl; shallow = refl }, set_unfinished _ refl, refl)

-- its closing sign ends its own block alone
ends_behind_its_block : Refuses (codes "table t 1; program P() { each k, v in t[1..3] { }") (f.UnexpectedEnd 49)
unfolding tokens_from piece_at word_at number_at sign_at set_at many_from table_at arity_at program_at params_at block_at body_at body_within each_at listing_at behind_turns more_at statement_at range_at range_from high_at expr_at expr_within sum_at sum_from product_at product_from factor_at
ends_behind_its_block =
    let text : List ℕ = codes "table t 1; program P() { each k, v in t[1..3] { }" in
    (cut_of text, record { tokens = has_tokens text (cut_of text) (omega arith) refl; shallow = refl }, set_unfinished _ refl, refl)

-- ---- depth

-- so many `each`, each in the one before it
abbrev nested : ℕ → List Token
nested zero = []
nested (suc n) = head_tokens ++ t.Sign sign.OpenBlock ∷ nested n

abbrev program_head : List Token
program_head = t.Sign sign.Program ∷ t.Name (codes "P") ∷ t.Sign sign.Open ∷ t.Sign sign.Close ∷ t.Sign sign.OpenBlock ∷ []

fifteen : too_deep (program_head ++ nested 15) ≡ None
fifteen = refl

-- the bracket of the sixteenth one's range is the 17th that is open
sixteen : too_deep (program_head ++ nested 16) ≡ Some 191
sixteen = refl
