-- What is spelled so is read so: statements and blocks.
use Rattle.std.proofs.Common.{◌≡◌, List, [], ◌∷◌, ◌++◌, None, Ok, refl, ap, sym, ◌∙◌, subst, append_assoc}
use Rattle.prog_tree.specs.Syntax.{Name, ExprTree, TestTree, KeyTree, RangeTree, ListingTree, StatementTree, Bind, Get, Need, Count, Sum, Lacks, Put, Insert, Delete, Keep, Reply, BlockTree, BlockEnd, Then, Branch, Each}
use Rattle.prog_text.specs.declared.lexing.token.Token.{Token}
use Rattle.prog_text.specs.declared.lexing.token.Sign.TheVariants as sign
use Rattle.prog_text.specs.declared.lexing.token.Token.TheVariants as t
use Rattle.prog_text.specs.Grammar.{IsExpr, IsKey, IsRange, IsStatement, bind, get, need, count, sum, lacks, put, insert, delete, keep, reply, abort, IsStatements, nothing, IsBlock, block, IsElse, missing, present}
use Rattle.prog_text.specs.Grammar as g
use Rattle.prog_text.specs.Reading.{◌>>=◌, after_sign, expect, expr_at, test_at, key_at, range_at, last_expr_at, last_key_at, last_range_at, assigned_at, bind_at, get_at, bound_at, let_at, statement_at, block_at, second_at, behind_second, behind_first, branch_at, listing_at, behind_turns, each_at, more_at, body_at}
use Rattle.prog_text.proofs.Only.{Reads, then_reads, mapped_reads, regrouped}
use Rattle.prog_text.proofs.OnlyExprs.{EndsConjunction, no_operator, expr_begins, expr_reads, test_only, key_reads, range_only}
use Rattle.prog_text.proofs.DerivedStatements.{begins_statement}
use Rattle.prog_text.proofs.Enough.{body_is}

-- ---- what stands before the end of a statement

last_expr_only : (ts : List Token) (e : ExprTree) → IsExpr ts e → (rest : List Token) → Reads (e, rest) (last_expr_at ((ts ++ t.Sign sign.Semicolon ∷ []) ++ rest))
unfolding last_expr_at
last_expr_only ts e d rest =
    then_reads (e, t.Sign sign.Semicolon ∷ rest) (e, rest) (expr_at ((ts ++ t.Sign sign.Semicolon ∷ []) ++ rest)) (λ e. expect sign.Semicolon e.1 >>= λ ended. Ok (e.0, ended.1)) (expr_reads ts (t.Sign sign.Semicolon ∷ []) rest e d (no_operator refl refl refl)) refl

last_key_only : (ks : List Token) (table : Name) (k : KeyTree) → IsKey ks table k → (rest : List Token) → Reads ((table, k), rest) (last_key_at ((ks ++ t.Sign sign.Semicolon ∷ []) ++ rest))
unfolding last_key_at
last_key_only ks table k d rest =
    then_reads ((table, k), t.Sign sign.Semicolon ∷ rest) ((table, k), rest) (key_at ((ks ++ t.Sign sign.Semicolon ∷ []) ++ rest)) (λ key. expect sign.Semicolon key.1 >>= λ ended. Ok (key.0, ended.1)) (key_reads ks (t.Sign sign.Semicolon ∷ []) rest table k d) refl

last_range_only : (rs : List Token) (table : Name) (r : RangeTree) → IsRange rs table r → (rest : List Token) → Reads ((table, r), rest) (last_range_at ((rs ++ t.Sign sign.Semicolon ∷ []) ++ rest))
unfolding last_range_at
last_range_only rs table r d rest =
    then_reads ((table, r), t.Sign sign.Semicolon ∷ rest) ((table, r), rest) (range_at ((rs ++ t.Sign sign.Semicolon ∷ []) ++ rest)) (λ range. expect sign.Semicolon range.1 >>= λ ended. Ok (range.0, ended.1))
    (regrouped ((table, r), t.Sign sign.Semicolon ∷ rest) range_at rs (t.Sign sign.Semicolon ∷ []) rest (range_only rs table r d (t.Sign sign.Semicolon ∷ rest))) refl

assigned_only : (ks ts : List Token) (table : Name) (k : KeyTree) (e : ExprTree) → IsKey ks table k → IsExpr ts e → (rest : List Token)
    → Reads (((table, k), e), rest) (assigned_at ((ks ++ t.Sign sign.Equals ∷ (ts ++ t.Sign sign.Semicolon ∷ [])) ++ rest))
unfolding assigned_at
assigned_only ks ts table k e dk d rest =
    let value : List Token = ts ++ t.Sign sign.Semicolon ∷ [] in
    then_reads ((table, k), t.Sign sign.Equals ∷ (value ++ rest)) (((table, k), e), rest) (key_at ((ks ++ t.Sign sign.Equals ∷ value) ++ rest)) (λ key. expect sign.Equals key.1 >>= λ equals. last_expr_at equals.1 >>= λ value. Ok ((key.0, value.0), value.1))
    (key_reads ks (t.Sign sign.Equals ∷ value) rest table k dk)
    (mapped_reads e rest (last_expr_at (value ++ rest)) (λ e. ((table, k), e)) (last_expr_only ts e d rest))

-- ---- statements

-- an expression begins with no word of a statement
binds : (x : Name) (ts : List Token) (e : ExprTree) → IsExpr ts e → (rest : List Token) → bound_at x (ts ++ rest) ≡ bind_at x (ts ++ rest)
unfolding bound_at
binds x = expr_begins (λ ts. bound_at x ts ≡ bind_at x ts) (λ n ts. refl) (λ ts. refl) (λ ts. refl) (λ ts. refl) (λ x ts. refl) (λ ts. refl)

bind_only : (x : Name) (ts : List Token) (e : ExprTree) → IsExpr ts e → (rest : List Token) → Reads (Bind x e, rest) (bound_at x ((ts ++ t.Sign sign.Semicolon ∷ []) ++ rest))
unfolding bind_at
bind_only x ts e d rest =
    let behind : List Token = (ts ++ t.Sign sign.Semicolon ∷ []) ++ rest in
    subst (Reads (Bind x e, rest)) (sym (ap (bound_at x) (append_assoc ts (t.Sign sign.Semicolon ∷ []) rest) ∙ binds x ts e d (t.Sign sign.Semicolon ∷ rest) ∙ ap (bind_at x) (sym (append_assoc ts (t.Sign sign.Semicolon ∷ []) rest))))
    (mapped_reads e rest (last_expr_at behind) (Bind x) (last_expr_only ts e d rest))

statement_only : (ts : List Token) (s : StatementTree) → IsStatement ts s → (rest : List Token) → Reads (s, rest) (statement_at (ts ++ rest))
unfolding statement_at let_at bound_at bind_at get_at
statement_only _ _ (bind x ts e d) rest = bind_only x ts e d rest
statement_only _ _ (get x table ks ts k e dk d) rest =
    let value : List Token = ts ++ t.Sign sign.Semicolon ∷ [] in
    then_reads ((table, k), t.Sign sign.Else ∷ (value ++ rest)) (Get x table k e, rest) (key_at ((ks ++ t.Sign sign.Else ∷ value) ++ rest)) (λ key. expect sign.Else key.1 >>= λ other. last_expr_at other.1 >>= λ otherwise. Ok (Get x key.0.0 key.0.1 otherwise.0, otherwise.1))
    (key_reads ks (t.Sign sign.Else ∷ value) rest table k dk)
    (mapped_reads e rest (last_expr_at (value ++ rest)) (Get x table k) (last_expr_only ts e d rest))
statement_only _ _ (need x table ks k d) rest = mapped_reads (table, k) rest (last_key_at ((ks ++ t.Sign sign.Semicolon ∷ []) ++ rest)) (λ k. Need x k.0 k.1) (last_key_only ks table k d rest)
statement_only _ _ (count x table rs r d) rest = mapped_reads (table, r) rest (last_range_at ((rs ++ t.Sign sign.Semicolon ∷ []) ++ rest)) (λ r. Count x r.0 r.1) (last_range_only rs table r d rest)
statement_only _ _ (sum x table rs r d) rest = mapped_reads (table, r) rest (last_range_at ((rs ++ t.Sign sign.Semicolon ∷ []) ++ rest)) (λ r. Sum x r.0 r.1) (last_range_only rs table r d rest)
statement_only _ _ (lacks table ks k d) rest = mapped_reads (table, k) rest (last_key_at ((ks ++ t.Sign sign.Semicolon ∷ []) ++ rest)) (λ k. Lacks k.0 k.1) (last_key_only ks table k d rest)
statement_only _ _ (put table ks ts k e dk d) rest =
    mapped_reads ((table, k), e) rest (assigned_at ((ks ++ t.Sign sign.Equals ∷ (ts ++ t.Sign sign.Semicolon ∷ [])) ++ rest)) (λ x. Put x.0.0 x.0.1 x.1) (assigned_only ks ts table k e dk d rest)
statement_only _ _ (insert table ks ts k e dk d) rest =
    mapped_reads ((table, k), e) rest (assigned_at ((ks ++ t.Sign sign.Equals ∷ (ts ++ t.Sign sign.Semicolon ∷ [])) ++ rest)) (λ x. Insert x.0.0 x.0.1 x.1) (assigned_only ks ts table k e dk d rest)
statement_only _ _ (delete table ks k d) rest = mapped_reads (table, k) rest (last_key_at ((ks ++ t.Sign sign.Semicolon ∷ []) ++ rest)) (λ k. Delete k.0 k.1) (last_key_only ks table k d rest)
statement_only _ _ (keep table ks k d) rest = mapped_reads (table, k) rest (last_key_at ((ks ++ t.Sign sign.Semicolon ∷ []) ++ rest)) (λ k. Keep k.0 k.1) (last_key_only ks table k d rest)
statement_only _ _ (reply ts e d) rest = mapped_reads e rest (last_expr_at ((ts ++ t.Sign sign.Semicolon ∷ []) ++ rest)) Reply (last_expr_only ts e d rest)
statement_only _ _ abort rest = refl

-- ---- blocks

-- a block goes on with no `else`
no_else : (ts : List Token) (b : BlockTree) → IsStatements ts b → (rest : List Token) → after_sign sign.Else (ts ++ t.Sign sign.CloseBlock ∷ rest) ≡ None
no_else _ _ nothing rest = refl
no_else _ _ (g.IsStatements.more ts us s b d ds) rest = ap (after_sign sign.Else) (append_assoc ts us (t.Sign sign.CloseBlock ∷ rest)) ∙ (begins_statement ts s d).no_else (us ++ t.Sign sign.CloseBlock ∷ rest)
no_else _ _ (g.IsStatements.branch xs ts es us test a b c dx da db dc) rest = refl
no_else _ _ (g.IsStatements.each k v table rs ts us r b c dr db dc) rest = refl

body_ends : (rest : List Token) → Reads (BlockEnd, rest) (body_at (t.Sign sign.CloseBlock ∷ rest))
body_ends rest = subst (Reads (BlockEnd, rest)) (sym (body_is (t.Sign sign.CloseBlock ∷ rest))) refl

body_further : (ts us rest : List Token) (s : StatementTree) (b : BlockTree) → after_sign sign.CloseBlock ts ≡ None → after_sign sign.If ts ≡ None → after_sign sign.Each ts ≡ None → Reads (s, us) (statement_at ts) → Reads (b, rest) (body_at us) → Reads (Then s b, rest) (body_at ts)
unfolding more_at
body_further ts us rest s b no_end no_branch no_each h k =
    rw (body_is ts, no_end, no_branch, no_each)
    (then_reads (s, us) (Then s b, rest) (statement_at ts) (λ s. body_at s.1 >>= λ rest. Ok (Then s.0 rest.0, rest.1)) h (mapped_reads b rest (body_at us) (Then s) k))

-- the same tokens of a branch, grouped as they are read
branch_grouped : (xs ts es us rest : List Token) → (xs ++ (ts ++ (es ++ us))) ++ t.Sign sign.CloseBlock ∷ rest ≡ xs ++ (ts ++ (es ++ (us ++ t.Sign sign.CloseBlock ∷ rest)))
branch_grouped xs ts es us rest = simp append_assoc

branch_reads : (xs fs es us rest : List Token) (x : TestTree) (a b c : BlockTree) → Reads (x, fs) (test_at xs) → Reads (a, es) (block_at body_at fs) → Reads (b, us) (second_at body_at es) → Reads (c, rest) (body_at us)
    → Reads (Branch x a b c, rest) (body_at (t.Sign sign.If ∷ xs))
unfolding branch_at behind_first behind_second
branch_reads xs fs es us rest x a b c hx ha hb hc =
    let y : BlockTree × List Token = (Branch x a b c, rest) in
    subst (Reads y) (sym (body_is (t.Sign sign.If ∷ xs)))
    (then_reads (x, fs) y (test_at xs) (λ test. block_at body_at test.1 >>= λ first. behind_first body_at test.0 first.0 first.1) hx
    (then_reads (a, es) y (block_at body_at fs) (λ first. behind_first body_at x first.0 first.1) ha
    (then_reads (b, us) y (second_at body_at es) (λ second. behind_second body_at x a second.0 second.1) hb
    (mapped_reads c rest (body_at us) (Branch x a b) hc))))

-- the head of an `each`
listing_only : (k v table : Name) (rs : List Token) (r : RangeTree) → IsRange rs table r → (rest : List Token)
    → Reads {A = ListingTree} (record { key = k; value = v; table = table; range = r }, rest) (listing_at (t.Name k ∷ t.Sign sign.Comma ∷ t.Name v ∷ t.Sign sign.In ∷ (rs ++ rest)))
unfolding listing_at
listing_only k v table rs r d rest =
    mapped_reads (table, r) rest (range_at (rs ++ rest)) (λ r. record { key = k; value = v; table = r.0; range = r.1 }) (range_only rs table r d rest)

-- the same tokens of an `each`, grouped as they are read
each_grouped : (rs ts us rest : List Token) → (rs ++ (ts ++ us)) ++ t.Sign sign.CloseBlock ∷ rest ≡ rs ++ (ts ++ (us ++ t.Sign sign.CloseBlock ∷ rest))
each_grouped rs ts us rest = simp append_assoc

each_reads : (ls fs us rest : List Token) (l : ListingTree) (b c : BlockTree) → Reads (l, fs) (listing_at ls) → Reads (b, us) (block_at body_at fs) → Reads (c, rest) (body_at us) → Reads (Each l b c, rest) (body_at (t.Sign sign.Each ∷ ls))
unfolding each_at behind_turns
each_reads ls fs us rest l b c hl hb hc =
    let y : BlockTree × List Token = (Each l b c, rest) in
    subst (Reads y) (sym (body_is (t.Sign sign.Each ∷ ls)))
    (then_reads (l, fs) y (listing_at ls) (λ listing. block_at body_at listing.1 >>= λ inside. behind_turns body_at listing.0 inside.0 inside.1) hl
    (then_reads (b, us) y (block_at body_at fs) (λ inside. behind_turns body_at l inside.0 inside.1) hb
    (mapped_reads c rest (body_at us) (Each l b) hc)))

block_reads : (ts rest : List Token) (b : BlockTree) → Reads (b, rest) (body_at (ts ++ t.Sign sign.CloseBlock ∷ rest)) → Reads (b, rest) (block_at body_at ((t.Sign sign.OpenBlock ∷ (ts ++ t.Sign sign.CloseBlock ∷ [])) ++ rest))
unfolding block_at
block_reads ts rest b h = regrouped (b, rest) body_at ts (t.Sign sign.CloseBlock ∷ []) rest h

-- a block begins with no sign that goes on a test
test_ends : (ts : List Token) (b : BlockTree) → IsBlock ts b → (rest : List Token) → EndsConjunction (ts ++ rest) × (after_sign sign.Or (ts ++ rest) ≡ None)
test_ends _ _ (block ts b d) rest = (record { expr = no_operator refl refl refl; no_and = refl }, refl)

second_missing : (rest : List Token) → after_sign sign.Else rest ≡ None → Reads (BlockEnd, rest) (second_at body_at rest)
unfolding second_at
second_missing rest e = rw e refl

second_present : (ts rest : List Token) (b : BlockTree) → Reads (b, rest) (block_at body_at (ts ++ rest)) → Reads (b, rest) (second_at body_at ((t.Sign sign.Else ∷ ts) ++ rest))
unfolding second_at
second_present ts rest b h = h

mutual
  body_only : (ts : List Token) (b : BlockTree) → IsStatements ts b → (rest : List Token) → Reads (b, rest) (body_at (ts ++ t.Sign sign.CloseBlock ∷ rest))
  body_only _ _ nothing rest = body_ends rest
  body_only _ _ (g.IsStatements.more ts us s b d ds) rest =
      let behind : List Token = us ++ t.Sign sign.CloseBlock ∷ rest in
      let begins = begins_statement ts s d in
      regrouped (Then s b, rest) body_at ts us (t.Sign sign.CloseBlock ∷ rest)
      (body_further (ts ++ behind) behind rest s b (begins.no_end behind) (begins.no_branch behind) (begins.no_each behind) (statement_only ts s d behind) (body_only us b ds rest))
  body_only _ _ (g.IsStatements.branch xs ts es us x a b c dx da db dc) rest =
      let behind : List Token = us ++ t.Sign sign.CloseBlock ∷ rest in
      let ends = test_ends ts a da (es ++ behind) in
      subst (λ (vs : List Token). Reads (Branch x a b c, rest) (body_at (t.Sign sign.If ∷ vs))) (sym (branch_grouped xs ts es us rest))
      (branch_reads (xs ++ (ts ++ (es ++ behind))) (ts ++ (es ++ behind)) (es ++ behind) behind rest x a b c (test_only xs x dx (ts ++ (es ++ behind)) ends.0 ends.1)
      (block_only ts a da (es ++ behind)) (second_only es b db behind (no_else us c dc rest)) (body_only us c dc rest))
  body_only _ _ (g.IsStatements.each k v table rs ts us r b c dr db dc) rest =
      let behind : List Token = us ++ t.Sign sign.CloseBlock ∷ rest in
      let l : ListingTree = record { key = k; value = v; table = table; range = r } in
      subst (λ (vs : List Token). Reads (Each l b c, rest) (body_at (t.Sign sign.Each ∷ t.Name k ∷ t.Sign sign.Comma ∷ t.Name v ∷ t.Sign sign.In ∷ vs))) (sym (each_grouped rs ts us rest))
      (each_reads _ (ts ++ behind) behind rest l b c (listing_only k v table rs r dr (ts ++ behind)) (block_only ts b db behind) (body_only us c dc rest))

  pub block_only : (ts : List Token) (b : BlockTree) → IsBlock ts b → (rest : List Token) → Reads (b, rest) (block_at body_at (ts ++ rest))
  block_only _ _ (block ts b d) rest = block_reads ts rest b (body_only ts b d rest)

  second_only : (ts : List Token) (b : BlockTree) → IsElse ts b → (rest : List Token) → after_sign sign.Else rest ≡ None → Reads (b, rest) (second_at body_at (ts ++ rest))
  second_only _ _ missing rest last = second_missing rest last
  second_only _ _ (present ts b d) rest last = second_present ts rest b (block_only ts b d rest)
