-- Readers of statements and blocks look no further than where they stop.
use Rattle.std.proofs.Common.{ℕ, zero, suc, List, ◌∷◌, Ok, sym, ◌∙◌, arith}
use Rattle.prog_tree.specs.Syntax.{Name, Bind, Get, Need, Count, Sum, Lacks, Put, Insert, Delete, Keep, Reply, Abort, BlockTree, BlockEnd, Then, Branch, Each}
use Rattle.prog_text.specs.declared.lexing.token.Token.{Token}
use Rattle.prog_text.specs.declared.lexing.token.Sign.TheVariants as sign
use Rattle.prog_text.specs.declared.lexing.token.Token.TheVariants as t
use Rattle.prog_text.specs.Reading.{Reading, ◌>>=◌, after_sign, behind_sign, expect, expr_within, expr_at, last_expr_at, last_key_at, last_range_at, assigned_at, bind_at, get_at, bound_at, let_at, statement_at, block_at, second_at, behind_second, behind_first, branch_at, listing_at, behind_turns, each_at, more_at, body_within, body_at}
use Rattle.prog_text.proofs.Alike.{Local, LocalAt, then_local, done_local, fault_local, matched, left_to, unfit, by_first, behind_sign_local, turns_local}
use Rattle.prog_text.proofs.Enough.{body_further}
use Rattle.prog_text.proofs.LocalTokens.{sign_local, name_local}
use Rattle.prog_text.proofs.LocalExprs.{expr_local, test_local, key_local, range_local}

-- ---- what stands before the end of a statement

-- such a reading and `;`
last_local : {A : Type 0} {read : List Token → Reading A} → Local read → Local (λ ts. read ts >>= λ x. expect sign.Semicolon x.1 >>= λ ended. Ok (x.0, ended.1))
last_local h = then_local _ h (λ x. then_local _ (sign_local sign.Semicolon) (λ c. done_local x))

last_expr_local : Local last_expr_at
unfolding last_expr_at
last_expr_local = last_local expr_local

last_key_local : Local last_key_at
unfolding last_key_at
last_key_local = last_local key_local

last_range_local : Local last_range_at
unfolding last_range_at
last_range_local = last_local range_local

assigned_local : Local assigned_at
unfolding assigned_at
assigned_local =
    then_local _ key_local
    (λ k. then_local _ (sign_local sign.Equals)
    (λ o. then_local _ last_expr_local
    (λ e. done_local (k, e))))

-- ---- statements

bind_local : (x : Name) → Local (bind_at x)
unfolding bind_at
bind_local x = then_local _ last_expr_local (λ e. done_local (Bind x e))

get_local : (x : Name) → Local (get_at x)
unfolding get_at
get_local x =
    then_local _ key_local
    (λ k. then_local _ (sign_local sign.Else)
    (λ o. then_local _ last_expr_local
    (λ e. done_local (Get x k.0 k.1 e))))

bound_first : (x : Name) (u : Token) → LocalAt u (λ ts. bound_at x (u ∷ ts))
unfolding bound_at
bound_first x (t.Sign sign.Get) = matched (get_local x)
bound_first x (t.Sign sign.Need) = matched (then_local _ last_key_local (λ k. done_local (Need x k.0 k.1)))
bound_first x (t.Sign sign.Count) = matched (then_local _ last_range_local (λ r. done_local (Count x r.0 r.1)))
bound_first x (t.Sign sign.Sum) = matched (then_local _ last_range_local (λ r. done_local (Sum x r.0 r.1)))
bound_first x u = left_to (bind_at x) (bind_local x)

bound_local : (x : Name) → Local (bound_at x)
unfolding bound_at bind_at last_expr_at expr_at expr_within
bound_local x = by_first (bound_at x) (λ shared rest other. omega arith) (bound_first x)

let_local : Local let_at
unfolding let_at
let_local = then_local _ name_local (λ x. then_local _ (sign_local sign.Equals) (λ o. bound_local x))

statement_first : (u : Token) → LocalAt u (λ ts. statement_at (u ∷ ts))
unfolding statement_at
statement_first (t.Sign sign.Let) = matched let_local
statement_first (t.Sign sign.Lacks) = matched (then_local _ last_key_local (λ k. done_local (Lacks k.0 k.1)))
statement_first (t.Sign sign.Put) = matched (then_local _ assigned_local (λ x. done_local (Put x.0.0 x.0.1 x.1)))
statement_first (t.Sign sign.Insert) = matched (then_local _ assigned_local (λ x. done_local (Insert x.0.0 x.0.1 x.1)))
statement_first (t.Sign sign.Delete) = matched (then_local _ last_key_local (λ k. done_local (Delete k.0 k.1)))
statement_first (t.Sign sign.Keep) = matched (then_local _ last_key_local (λ k. done_local (Keep k.0 k.1)))
statement_first (t.Sign sign.Reply) = matched (then_local _ last_expr_local (λ e. done_local (Reply e)))
statement_first (t.Sign sign.Abort) = matched (then_local _ (sign_local sign.Semicolon) (λ c. done_local Abort))
statement_first u = unfit

statement_local : Local statement_at
unfolding statement_at
statement_local = by_first statement_at (λ shared rest other. omega arith) statement_first

-- ---- blocks

listing_local : Local listing_at
unfolding listing_at
listing_local =
    then_local _ name_local
    (λ k. then_local _ (sign_local sign.Comma)
    (λ o. then_local _ name_local
    (λ v. then_local _ (sign_local sign.In)
    (λ o. then_local _ range_local
    (λ r. done_local (record { key = k; value = v; table = r.0; range = r.1 }))))))

module _ (body : List Token → Reading BlockTree) (body_local : Local body) where
  inner_block_local : Local (block_at body)
  unfolding block_at
  inner_block_local = then_local _ (sign_local sign.OpenBlock) (λ o. body_local)

  second_local : Local (second_at body)
  unfolding second_at
  second_local = behind_sign_local sign.Else (block_at body) (λ ts. Ok (BlockEnd, ts)) inner_block_local (done_local BlockEnd)

  branch_local : Local (branch_at body)
  unfolding branch_at behind_first behind_second
  branch_local =
      then_local _ test_local
      (λ x. then_local _ inner_block_local
      (λ y. then_local _ second_local
      (λ z. then_local _ body_local
      (λ c. done_local (Branch x y z c)))))

  each_local : Local (each_at body)
  unfolding each_at behind_turns
  each_local =
      then_local _ listing_local
      (λ l. then_local _ inner_block_local
      (λ y. then_local _ body_local
      (λ c. done_local (Each l y c))))

  more_local : Local (more_at body)
  unfolding more_at
  more_local = then_local _ statement_local (λ s. then_local _ body_local (λ c. done_local (Then s c)))

body_within_local : (n : ℕ) → Local (body_within n)
unfolding body_within
body_within_local zero = fault_local
body_within_local (suc n) =
    let body = body_within n in
    let turns = λ (ts : List Token). behind_sign (after_sign sign.Each ts) (each_at body) (more_at body ts) in
    let goes_on = λ (ts : List Token). behind_sign (after_sign sign.If ts) (branch_at body) (turns ts) in
    behind_sign_local sign.CloseBlock (λ ts. Ok (BlockEnd, ts)) goes_on (done_local BlockEnd)
    (behind_sign_local sign.If (branch_at body) turns (branch_local body (body_within_local n))
    (behind_sign_local sign.Each (each_at body) (more_at body) (each_local body (body_within_local n)) (more_local body (body_within_local n))))

body_local : Local body_at
unfolding body_at
body_local = turns_local body_within (λ n m ts h k. sym (body_further n ts h) ∙ body_further m ts k) body_within_local

pub block_local : Local (block_at body_at)
block_local = inner_block_local body_at body_local
