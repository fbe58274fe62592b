-- Sound, for the readers of statements and blocks.
use Rattle.std.proofs.Common.{◌≡◌, ℕ, zero, suc, ◌<◌, List, [], ◌∷◌, ◌++◌, length, None, Ok, refl, subst, append_assoc, arith}
use Rattle.prog_tree.specs.Syntax.{Name, ExprTree, TestTree, KeyTree, RangeTree, ListingTree, StatementTree, Bind, Get, Need, Count, Sum, Lacks, Put, Insert, Delete, Keep, Reply, Abort, BlockTree, BlockEnd, Then, Branch, Each}
use Rattle.prog_text.specs.declared.lexing.token.Sign.{Sign}
use Rattle.prog_text.specs.declared.lexing.token.Token.{Token}
use Rattle.prog_text.specs.declared.lexing.token.Sign.TheVariants as sign
use Rattle.prog_text.specs.declared.lexing.token.Token.TheVariants as t
use Rattle.prog_text.specs.Grammar.{IsExpr, IsTest, IsKey, IsRange, IsStatement, bind, get, need, count, sum, lacks, put, insert, delete, keep, reply, abort, IsStatements, nothing, IsBlock, block, IsElse, missing, present}
use Rattle.prog_text.specs.Grammar as g
use Rattle.prog_text.specs.Reading.{Reading, ◌>>=◌, made_into, after_sign, expect, name_at, expr_at, test_at, key_at, range_at, last_expr_at, last_key_at, last_range_at, assigned_at, bind_at, get_at, bound_at, let_at, statement_at, block_at, second_at, behind_second, behind_first, branch_at, listing_at, behind_turns, each_at, more_at, body_within, body_at}
use Rattle.prog_text.proofs.Sound.{Phrase, behind, Sound, then_sound, token_sound, one_sound, done_sound, fault_sound, sound_map, mapped_sound, behind_sign_sound}
use Rattle.prog_text.proofs.OneToken.{finds_sign, alone, one_sign, one_name, a_name}
use Rattle.prog_text.proofs.DerivedExprs.{expr_sound, test_sound, IsKeyOf, key_sound, IsRangeOf, range_sound}

-- ---- what stands before the end of a statement

-- such a phrase and `;`
data Last {A : Type 0} (P : Phrase A) : List Token → A → Type 0 where
  last : (ts : List Token) (x : A) → P ts x → Last P (ts ++ t.Sign sign.Semicolon ∷ []) x

last_sound : {A : Type 0} (P : Phrase A) (read : List Token → Reading A) → ((ts : List Token) → Sound P ts (read ts))
    → (ts : List Token) → Sound (Last P) ts (read ts >>= λ x. expect sign.Semicolon x.1 >>= λ ended. Ok (x.0, ended.1))
last_sound P read item ts =
    then_sound P (Last P) ts (read ts) (λ x. expect sign.Semicolon x.1 >>= λ ended. Ok (x.0, ended.1)) (item ts)
    (λ us rest x d. one_sound (behind us (Last P)) (alone (t.Sign sign.Semicolon)) tt rest (expect sign.Semicolon rest) (λ ended. Ok (x, ended.1)) (one_sign sign.Semicolon rest)
    (λ rest u. done_sound (behind (t.Sign sign.Semicolon ∷ []) (behind us (Last P))) x rest (last us x d)))

last_expr_sound : (ts : List Token) → Sound (Last IsExpr) ts (last_expr_at ts)
unfolding last_expr_at
last_expr_sound = last_sound IsExpr expr_at expr_sound

last_key_sound : (ts : List Token) → Sound (Last IsKeyOf) ts (last_key_at ts)
unfolding last_key_at
last_key_sound = last_sound IsKeyOf key_at key_sound

last_range_sound : (ts : List Token) → Sound (Last IsRangeOf) ts (last_range_at ts)
unfolding last_range_at
last_range_sound = last_sound IsRangeOf range_at range_sound

-- what follows from a phrase and its `;`
last_as : {A : Type 0} (P : Phrase A) (Q : Phrase A) → ((ts : List Token) (x : A) → P ts x → Q (ts ++ t.Sign sign.Semicolon ∷ []) x) → (us : List Token) (x : A) → Last P us x → Q us x
last_as P Q k _ _ (last ts x d) = k ts x d

-- a key, a sign, an expression and `;`, built into a value
keyed_sound : {B : Type 0} (E : Phrase B) (v : Sign) (g : Name × KeyTree → ExprTree → B)
    → ((ks ts : List Token) (k : Name × KeyTree) (e : ExprTree) → IsKeyOf ks k → IsExpr ts e → E (ks ++ t.Sign v ∷ (ts ++ t.Sign sign.Semicolon ∷ [])) (g k e))
    → (ts : List Token) → Sound E ts (key_at ts >>= λ key. expect v key.1 >>= λ found. last_expr_at found.1 >>= λ e. Ok (g key.0 e.0, e.1))
keyed_sound E v g builds ts =
    then_sound IsKeyOf E ts (key_at ts) (λ key. expect v key.1 >>= λ found. last_expr_at found.1 >>= λ e. Ok (g key.0 e.0, e.1)) (key_sound ts)
    (λ ks rest k dk. one_sound (behind ks E) (alone (t.Sign v)) tt rest (expect v rest) (λ found. last_expr_at found.1 >>= λ e. Ok (g k e.0, e.1)) (one_sign v rest)
    (λ rest u. mapped_sound (Last IsExpr) (behind (t.Sign v ∷ []) (behind ks E)) rest (last_expr_at rest) (g k) (last_as IsExpr (λ us e. E (ks ++ t.Sign v ∷ us) (g k e)) (λ us e. builds ks us k e dk)) (last_expr_sound rest)))

-- a key, `=`, an expression and `;`
data IsAssigned : List Token → (Name × KeyTree) × ExprTree → Type 0 where
  assigned : (ks ts : List Token) (k : Name × KeyTree) (e : ExprTree) → IsKeyOf ks k → IsExpr ts e → IsAssigned (ks ++ t.Sign sign.Equals ∷ (ts ++ t.Sign sign.Semicolon ∷ [])) (k, e)

assigned_sound : (ts : List Token) → Sound IsAssigned ts (assigned_at ts)
unfolding assigned_at
assigned_sound = keyed_sound IsAssigned sign.Equals (λ k e. (k, e)) assigned

-- ---- statements

-- a statement of what is read between the token u and `;`, behind the tokens of `front`
of_last : {A : Type 0} (P : Phrase A) (front : List Token) (u : Token) (g : A → StatementTree)
    → ((ts : List Token) (x : A) → P ts x → IsStatement (front ++ u ∷ (ts ++ t.Sign sign.Semicolon ∷ [])) (g x))
    → (ts : List Token) (r : Reading A) → Sound (Last P) ts r → Sound (behind front IsStatement) (u ∷ ts) (r >>= λ x. Ok (g x.0, x.1))
of_last P front u g builds ts r h =
    let E = behind front IsStatement in
    token_sound E u ts (r >>= λ x. Ok (g x.0, x.1)) (mapped_sound (Last P) (behind (u ∷ []) E) ts r g (last_as P (λ us x. IsStatement (front ++ u ∷ us) (g x)) builds) h)

-- what stands before a value that `let` binds, and behind it
abbrev let_front : Name → List Token
let_front x = t.Sign sign.Let ∷ t.Name x ∷ t.Sign sign.Equals ∷ []

abbrev IsBound : Name → Phrase StatementTree
IsBound x = behind (let_front x) IsStatement

bind_sound : (x : Name) (ts : List Token) → Sound (IsBound x) ts (bind_at x ts)
unfolding bind_at
bind_sound x ts = mapped_sound (Last IsExpr) (IsBound x) ts (last_expr_at ts) (Bind x) (last_as IsExpr (λ us e. IsBound x us (Bind x e)) (bind x)) (last_expr_sound ts)

get_sound : (x : Name) (ts : List Token) → Sound (behind (t.Sign sign.Get ∷ []) (IsBound x)) ts (get_at x ts)
unfolding get_at
get_sound x = keyed_sound (behind (t.Sign sign.Get ∷ []) (IsBound x)) sign.Else (λ k e. Get x k.0 k.1 e) (λ ks ts k e dk d. get x k.0 ks ts k.1 e dk d)

bound_sound : (x : Name) (ts : List Token) → Sound (IsBound x) ts (bound_at x ts)
unfolding bound_at
bound_sound x (t.Sign sign.Get ∷ ts) = token_sound (IsBound x) (t.Sign sign.Get) ts _ (get_sound x ts)
bound_sound x (t.Sign sign.Need ∷ ts) =
    of_last IsKeyOf (let_front x) (t.Sign sign.Need) (λ k. Need x k.0 k.1) (λ ks k d. need x k.0 ks k.1 d) ts (last_key_at ts) (last_key_sound ts)
bound_sound x (t.Sign sign.Count ∷ ts) =
    of_last IsRangeOf (let_front x) (t.Sign sign.Count) (λ r. Count x r.0 r.1) (λ rs r d. count x r.0 rs r.1 d) ts (last_range_at ts) (last_range_sound ts)
bound_sound x (t.Sign sign.Sum ∷ ts) =
    of_last IsRangeOf (let_front x) (t.Sign sign.Sum) (λ r. Sum x r.0 r.1) (λ rs r d. sum x r.0 rs r.1 d) ts (last_range_at ts) (last_range_sound ts)
bound_sound x ts = bind_sound x ts

let_sound : (ts : List Token) → Sound (behind (t.Sign sign.Let ∷ []) IsStatement) ts (let_at ts)
unfolding let_at
let_sound ts =
    let E = behind (t.Sign sign.Let ∷ []) IsStatement in
    one_sound E t.Name a_name ts (name_at ts) _ (one_name ts)
    (λ rest x. one_sound (behind (t.Name x ∷ []) E) (alone (t.Sign sign.Equals)) tt rest (expect sign.Equals rest) _ (one_sign sign.Equals rest)
    (λ rest u. bound_sound x rest))

puts : (us : List Token) (x : (Name × KeyTree) × ExprTree) → IsAssigned us x → IsStatement (t.Sign sign.Put ∷ us) (Put x.0.0 x.0.1 x.1)
puts _ _ (assigned ks ts k e dk d) = put k.0 ks ts k.1 e dk d

inserts : (us : List Token) (x : (Name × KeyTree) × ExprTree) → IsAssigned us x → IsStatement (t.Sign sign.Insert ∷ us) (Insert x.0.0 x.0.1 x.1)
inserts _ _ (assigned ks ts k e dk d) = insert k.0 ks ts k.1 e dk d

abort_sound : (ts : List Token) → Sound (behind (t.Sign sign.Abort ∷ []) IsStatement) ts (made_into (λ ended. Abort) (expect sign.Semicolon ts))
abort_sound ts =
    let E = behind (t.Sign sign.Abort ∷ []) IsStatement in
    one_sound E (alone (t.Sign sign.Semicolon)) tt ts (expect sign.Semicolon ts) _ (one_sign sign.Semicolon ts) (λ rest u. done_sound (behind (t.Sign sign.Semicolon ∷ []) E) Abort rest abort)

pub statement_sound : (ts : List Token) → Sound IsStatement ts (statement_at ts)
unfolding statement_at
statement_sound (t.Sign sign.Let ∷ ts) = token_sound IsStatement (t.Sign sign.Let) ts _ (let_sound ts)
statement_sound (t.Sign sign.Lacks ∷ ts) =
    of_last IsKeyOf [] (t.Sign sign.Lacks) (λ k. Lacks k.0 k.1) (λ ks k d. lacks k.0 ks k.1 d) ts (last_key_at ts) (last_key_sound ts)
statement_sound (t.Sign sign.Put ∷ ts) =
    token_sound IsStatement (t.Sign sign.Put) ts _ (mapped_sound IsAssigned (behind (t.Sign sign.Put ∷ []) IsStatement) ts (assigned_at ts) (λ x. Put x.0.0 x.0.1 x.1) puts (assigned_sound ts))
statement_sound (t.Sign sign.Insert ∷ ts) =
    token_sound IsStatement (t.Sign sign.Insert) ts _ (mapped_sound IsAssigned (behind (t.Sign sign.Insert ∷ []) IsStatement) ts (assigned_at ts) (λ x. Insert x.0.0 x.0.1 x.1) inserts (assigned_sound ts))
statement_sound (t.Sign sign.Delete ∷ ts) =
    of_last IsKeyOf [] (t.Sign sign.Delete) (λ k. Delete k.0 k.1) (λ ks k d. delete k.0 ks k.1 d) ts (last_key_at ts) (last_key_sound ts)
statement_sound (t.Sign sign.Keep ∷ ts) =
    of_last IsKeyOf [] (t.Sign sign.Keep) (λ k. Keep k.0 k.1) (λ ks k d. keep k.0 ks k.1 d) ts (last_key_at ts) (last_key_sound ts)
statement_sound (t.Sign sign.Reply ∷ ts) = of_last IsExpr [] (t.Sign sign.Reply) Reply reply ts (last_expr_at ts) (last_expr_sound ts)
statement_sound (t.Sign sign.Abort ∷ ts) = token_sound IsStatement (t.Sign sign.Abort) ts _ (abort_sound ts)
statement_sound ts = fault_sound IsStatement ts (t.Sign sign.Abort ∷ t.Sign sign.Semicolon ∷ []) Abort abort

-- ---- blocks

-- the head of an `each`, behind the word
pub data IsListing : List Token → ListingTree → Type 0 where
  listing : (k v table : Name) (rs : List Token) (r : RangeTree)
      → IsRange rs table r
      → IsListing (t.Name k ∷ t.Sign sign.Comma ∷ t.Name v ∷ t.Sign sign.In ∷ rs) (record { key = k; value = v; table = table; range = r })

pub listing_sound : (ts : List Token) → Sound IsListing ts (listing_at ts)
unfolding listing_at
listing_sound ts =
    let F = λ (k : Name). behind (t.Sign sign.Comma ∷ []) (behind (t.Name k ∷ []) IsListing) in
    let G = λ (k v : Name). behind (t.Sign sign.In ∷ []) (behind (t.Name v ∷ []) (F k)) in
    one_sound IsListing t.Name a_name ts (name_at ts) _ (one_name ts)
    (λ rest k. one_sound (behind (t.Name k ∷ []) IsListing) (alone (t.Sign sign.Comma)) tt rest (expect sign.Comma rest) _ (one_sign sign.Comma rest)
    (λ rest u. one_sound (F k) t.Name a_name rest (name_at rest) _ (one_name rest)
    (λ rest v. one_sound (behind (t.Name v ∷ []) (F k)) (alone (t.Sign sign.In)) tt rest (expect sign.In rest) _ (one_sign sign.In rest)
    (λ rest u. mapped_sound IsRangeOf (G k v) rest (range_at rest) (λ r. record { key = k; value = v; table = r.0; range = r.1 })
    (λ us r d. listing k v r.0 us r.1 d) (range_sound rest)))))

-- what stands behind the opening sign of a block
abbrev pub IsBody : Phrase BlockTree
IsBody us b = IsBlock (t.Sign sign.OpenBlock ∷ us) b

body_end : IsBody (t.Sign sign.CloseBlock ∷ []) BlockEnd
body_end = block [] BlockEnd nothing

body_more : (ts us : List Token) (s : StatementTree) (rest : BlockTree) → IsStatement ts s → IsBody us rest → IsBody (ts ++ us) (Then s rest)
body_more ts _ s _ d (block us rest e) = subst (λ (vs : List Token). IsBody vs (Then s rest)) (append_assoc ts us (t.Sign sign.CloseBlock ∷ [])) (block (ts ++ us) (Then s rest) (g.IsStatements.more ts us s rest d e))

body_branch : (xs ts es us : List Token) (test : TestTree) (a b rest : BlockTree) → IsTest xs test → IsBlock ts a → IsElse es b → IsBody us rest
    → IsBody (t.Sign sign.If ∷ (xs ++ (ts ++ (es ++ us)))) (Branch test a b rest)
body_branch xs ts es _ test a b _ dx da db (block us rest d) =
    let whole : (xs ++ (ts ++ (es ++ us))) ++ t.Sign sign.CloseBlock ∷ [] ≡ xs ++ (ts ++ (es ++ (us ++ t.Sign sign.CloseBlock ∷ []))) = simp append_assoc in
    subst (λ (vs : List Token). IsBody (t.Sign sign.If ∷ vs) (Branch test a b rest)) whole
    (block (t.Sign sign.If ∷ (xs ++ (ts ++ (es ++ us)))) (Branch test a b rest) (g.IsStatements.branch xs ts es us test a b rest dx da db d))

body_each : (ls ts us : List Token) (l : ListingTree) (body rest : BlockTree) → IsListing ls l → IsBlock ts body → IsBody us rest → IsBody (t.Sign sign.Each ∷ (ls ++ (ts ++ us))) (Each l body rest)
body_each _ ts _ l body _ (listing k v table rs r dr) db (block us rest d) =
    let whole : (rs ++ (ts ++ us)) ++ t.Sign sign.CloseBlock ∷ [] ≡ rs ++ (ts ++ (us ++ t.Sign sign.CloseBlock ∷ [])) = simp append_assoc in
    subst (λ (vs : List Token). IsBody (t.Sign sign.Each ∷ t.Name k ∷ t.Sign sign.Comma ∷ t.Name v ∷ t.Sign sign.In ∷ vs) (Each l body rest)) whole
    (block (t.Sign sign.Each ∷ t.Name k ∷ t.Sign sign.Comma ∷ t.Name v ∷ t.Sign sign.In ∷ (rs ++ (ts ++ us))) (Each l body rest) (g.IsStatements.each k v table rs ts us r body rest dr db d))

module _ (body : List Token → Reading BlockTree) (body_sound : (ts : List Token) → Sound IsBody ts (body ts)) where
  pub block_sound : (ts : List Token) → Sound IsBlock ts (block_at body ts)
  unfolding block_at
  block_sound ts = one_sound IsBlock (alone (t.Sign sign.OpenBlock)) tt ts (expect sign.OpenBlock ts) _ (one_sign sign.OpenBlock ts) (λ rest u. body_sound rest)

  pub second_sound : (ts : List Token) → Sound IsElse ts (second_at body ts)
  unfolding second_at
  second_sound ts =
      behind_sign_sound IsElse (t.Sign sign.Else) ts (after_sign sign.Else ts) (block_at body) (Ok (BlockEnd, ts)) (finds_sign sign.Else ts)
      (λ us. sound_map IsBlock (behind (t.Sign sign.Else ∷ []) IsElse) us (block_at body us) present (block_sound us))
      (done_sound IsElse BlockEnd ts missing)

  branch_sound : (ts : List Token) → Sound (behind (t.Sign sign.If ∷ []) IsBody) ts (branch_at body ts)
  unfolding branch_at behind_first behind_second
  branch_sound ts =
      let E = behind (t.Sign sign.If ∷ []) IsBody in
      then_sound IsTest E ts (test_at ts) _ (test_sound ts)
      (λ xs rest test dx. then_sound IsBlock (behind xs E) rest (block_at body rest) _ (block_sound rest)
      (λ fs rest a da. then_sound IsElse (behind fs (behind xs E)) rest (second_at body rest) _ (second_sound rest)
      (λ es rest b db. mapped_sound IsBody (behind es (behind fs (behind xs E))) rest (body rest) (Branch test a b) (λ us c d. body_branch xs fs es us test a b c dx da db d) (body_sound rest))))

  each_sound : (ts : List Token) → Sound (behind (t.Sign sign.Each ∷ []) IsBody) ts (each_at body ts)
  unfolding each_at behind_turns
  each_sound ts =
      let E = behind (t.Sign sign.Each ∷ []) IsBody in
      then_sound IsListing E ts (listing_at ts) _ (listing_sound ts)
      (λ ls rest l dl. then_sound IsBlock (behind ls E) rest (block_at body rest) _ (block_sound rest)
      (λ fs rest inside d. mapped_sound IsBody (behind fs (behind ls E)) rest (body rest) (Each l inside) (λ us b e. body_each ls fs us l inside b dl d e) (body_sound rest)))

  more_sound : (ts : List Token) → Sound IsBody ts (more_at body ts)
  unfolding more_at
  more_sound ts =
      then_sound IsStatement IsBody ts (statement_at ts) _ (statement_sound ts)
      (λ front rest s d. mapped_sound IsBody (behind front IsBody) rest (body rest) (Then s) (λ us b e. body_more front us s b d e) (body_sound rest))

pub body_within_sound : (n : ℕ) (ts : List Token) → Sound IsBody ts (body_within n ts)
unfolding body_within
body_within_sound zero ts = fault_sound IsBody ts (t.Sign sign.CloseBlock ∷ []) BlockEnd body_end
body_within_sound (suc n) ts =
    behind_sign_sound IsBody (t.Sign sign.CloseBlock) ts (after_sign sign.CloseBlock ts) _ _ (finds_sign sign.CloseBlock ts)
    (λ us. done_sound (behind (t.Sign sign.CloseBlock ∷ []) IsBody) BlockEnd us body_end)
    (behind_sign_sound IsBody (t.Sign sign.If) ts (after_sign sign.If ts) (branch_at (body_within n)) _ (finds_sign sign.If ts)
    (branch_sound (body_within n) (body_within_sound n))
    (behind_sign_sound IsBody (t.Sign sign.Each) ts (after_sign sign.Each ts) (each_at (body_within n)) (more_at (body_within n) ts) (finds_sign sign.Each ts)
    (each_sound (body_within n) (body_within_sound n)) (more_sound (body_within n) (body_within_sound n) ts)))

pub body_sound : (ts : List Token) → Sound IsBody ts (body_at ts)
unfolding body_at
body_sound ts = body_within_sound (length ts) ts

-- ---- how a statement begins

-- a statement has a token, and begins with no sign that ends a block or begins another
pub record BeginsStatement (ts : List Token) : Type 0 where
  pub some : 0 < length ts
  pub no_end : (rest : List Token) → after_sign sign.CloseBlock (ts ++ rest) ≡ None
  pub no_branch : (rest : List Token) → after_sign sign.If (ts ++ rest) ≡ None
  pub no_each : (rest : List Token) → after_sign sign.Each (ts ++ rest) ≡ None
  pub no_else : (rest : List Token) → after_sign sign.Else (ts ++ rest) ≡ None

pub begins_statement : (ts : List Token) (s : StatementTree) → IsStatement ts s → BeginsStatement ts
begins_statement _ _ (bind x ts e d) = record { some = omega arith; no_end = λ rest. refl; no_branch = λ rest. refl; no_each = λ rest. refl; no_else = λ rest. refl }
begins_statement _ _ d = record { some = omega arith; no_end = λ rest. refl; no_branch = λ rest. refl; no_each = λ rest. refl; no_else = λ rest. refl }
