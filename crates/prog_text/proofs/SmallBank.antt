-- SmallBank: its draft, and its text.
use Rattle.std.proofs.Common.{◌≡◌, pos, ℕ, List, [], ◌∷◌, ◌++◌, refl, codes, arith}
use Rattle.std.specs.Prelude.{false}
use Rattle.std.specs.Fmt.{digits}
use Rattle.std.specs.Result.{result_unwrap_or}
use Rattle.prog_tree.specs.Syntax.{Name, ExprTree, Literal, Named, Plus, Minus, Less, TestTree, One, StatementTree, Get, Put, Reply, Abort, BlockTree, BlockEnd, Then, Branch, ProgramTree, DraftTree}
use Rattle.prog_tree.specs.declared.table.TableDecl.{TableDecl}
use Rattle.prog_tree.specs.declared.table.Arity.TheVariants as arity
use Rattle.prog_text.specs.Answer.{HasTokens, Accepts}
use Rattle.prog_text.specs.Canonical.{canonical}
use Rattle.prog_text.specs.Lexing.{Placed, kinds, tokens_of, tokens_from, piece_at, word_at, number_at, sign_at}
use Rattle.prog_text.specs.Reading.{many_from, separated_at, factor_at, product_from, product_at, sum_from, sum_at, expr_within, expr_at, compared_at, comparison_at, key_from, key_at, last_expr_at, assigned_at, get_at, bound_at, let_at, statement_at, block_at, second_at, behind_second, behind_first, branch_at, more_at, body_within, body_at, table_at, arity_at, params_at, program_at, set_at}
use Rattle.prog_text.proofs.Converse.{tokens_exactly}
use Rattle.prog_text.proofs.Refusals.{set_found}

-- ---- the draft

abbrev number : ℕ → ExprTree
number n = Literal (pos n)

abbrev plain : Name → TableDecl
plain x = record { name = x; arity = arity.One; grow = false }

abbrev a : ExprTree
a = Named (codes "a")

abbrev b : ExprTree
b = Named (codes "b")

abbrev c : ExprTree
c = Named (codes "c")

abbrev v : ExprTree
v = Named (codes "v")

-- the balance of this name at this customer, or 0
abbrev reads : Name → Name → Name → StatementTree
reads x table customer = Get x table (One (Named customer)) (number 0)

abbrev writes : Name → Name → ExprTree → StatementTree
writes table customer e = Put table (One (Named customer)) e

abbrev savings : Name
savings = codes "savings"

abbrev checking : Name
checking = codes "checking"

abbrev below : (left right : ExprTree) → TestTree
below left right = (record { negated = false; left = left; relation = Less; right = right } ∷ []) ∷ []

abbrev aborts : BlockTree
aborts = Then Abort BlockEnd

abbrev balance : ProgramTree
balance = record {
  name = codes "Balance";
  params = codes "n" ∷ [];
  body = Then (reads (codes "a") savings (codes "n")) (Then (reads (codes "b") checking (codes "n")) (Then (Reply (Plus a b)) BlockEnd));
}

abbrev deposit_checking : ProgramTree
deposit_checking = record {
  name = codes "DepositChecking";
  params = codes "n" ∷ codes "v" ∷ [];
  body = Branch (below v (number 0)) aborts BlockEnd (Then (reads (codes "b") checking (codes "n")) (Then (writes checking (codes "n") (Plus b v)) BlockEnd));
}

abbrev transact_saving : ProgramTree
transact_saving = record {
  name = codes "TransactSaving";
  params = codes "n" ∷ codes "v" ∷ [];
  body = Then (reads (codes "a") savings (codes "n")) (Branch (below (Plus a v) (number 0)) aborts BlockEnd (Then (writes savings (codes "n") (Plus a v)) BlockEnd));
}

abbrev amalgamate : ProgramTree
amalgamate = record {
  name = codes "Amalgamate";
  params = codes "n1" ∷ codes "n2" ∷ [];
  body = Then (reads (codes "a") savings (codes "n1")) (Then (reads (codes "b") checking (codes "n1"))
      (Then (writes savings (codes "n1") (number 0)) (Then (writes checking (codes "n1") (number 0))
      (Then (reads (codes "c") checking (codes "n2")) (Then (writes checking (codes "n2") (Plus (Plus c a) b)) BlockEnd)))));
}

abbrev write_check : ProgramTree
write_check = record {
  name = codes "WriteCheck";
  params = codes "n" ∷ codes "v" ∷ [];
  body = Then (reads (codes "a") savings (codes "n")) (Then (reads (codes "b") checking (codes "n"))
      (Branch (below (Plus a b) v)
      (Then (writes checking (codes "n") (Minus (Minus b v) (number 1))) BlockEnd)
      (Then (writes checking (codes "n") (Minus b v)) BlockEnd)
      BlockEnd));
}

abbrev small_bank : DraftTree
small_bank = record {
  tables = plain savings ∷ plain checking ∷ [];
  programs = balance ∷ deposit_checking ∷ transact_saving ∷ amalgamate ∷ write_check ∷ [];
}

-- ---- its text

abbrev small_bank_text : List ℕ
small_bank_text =
    codes "table savings 1;\ntable checking 1;\n"
    ++ (codes "program Balance(n) {\n  let a = get savings[n] else 0;\n  let b = get checking[n] else 0;\n  reply a + b;\n}\n"
    ++ (codes "program DepositChecking(n, v) {\n  if v < 0 {\n    abort;\n  }\n  let b = get checking[n] else 0;\n  put checking[n] = b + v;\n}\n"
    ++ (codes "program TransactSaving(n, v) {\n  let a = get savings[n] else 0;\n  if a + v < 0 {\n    abort;\n  }\n  put savings[n] = a + v;\n}\n"
    ++ (codes "program Amalgamate(n1, n2) {\n  let a = get savings[n1] else 0;\n  let b = get checking[n1] else 0;\n  put savings[n1] = 0;\n  put checking[n1] = 0;\n  let c = get checking[n2] else 0;\n  put checking[n2] = c + a + b;\n}\n"
    ++ codes "program WriteCheck(n, v) {\n  let a = get savings[n] else 0;\n  let b = get checking[n] else 0;\n  if a + b < v {\n    put checking[n] = b - v - 1;\n  } else {\n    put checking[n] = b - v;\n  }\n}\n"))))

-- SmallBank is printed so
small_bank_is : canonical small_bank ≡ small_bank_text
unfolding digits
small_bank_is = refl

-- and read so
abbrev small_bank_placed : Placed
small_bank_placed = result_unwrap_or (tokens_of small_bank_text) []

small_bank_tokens : HasTokens small_bank_text small_bank_placed
unfolding tokens_from piece_at word_at number_at sign_at
small_bank_tokens = record { short = omega arith; cut = (tokens_exactly small_bank_text small_bank_placed).0 refl }

small_bank_is_read : Accepts small_bank_text small_bank
unfolding tokens_from piece_at word_at number_at sign_at set_at many_from separated_at table_at arity_at program_at params_at block_at body_at body_within branch_at behind_first behind_second second_at more_at statement_at let_at bound_at get_at assigned_at last_expr_at key_at key_from comparison_at compared_at expr_at expr_within sum_at sum_from product_at product_from factor_at
small_bank_is_read = record {
  placed = small_bank_placed;
  shallow = record { tokens = small_bank_tokens; shallow = refl };
  spelled = set_found (kinds small_bank_placed) [] small_bank refl;
}
