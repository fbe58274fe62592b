-- What is still to be read of a block, from one step of its reader to the next.
use Rattle.std.proofs.Common.{◌≡◌, List, [], ◌∷◌, ◌++◌, length, ◌<◌, Option, Some, None, Ok, Err, refl, ap, ◌∙◌, sym, subst, reverse, false, true, true≢false, arith}
use Rattle.std.proofs.lemmas.List.{reverse-append}
use Rattle.std.specs.declared.vec.Vec.{Vec}
use Rattle.std.specs.declared.alloc.Global.{Global}
use Rattle.prog_tree.specs.Syntax.{TestTree, ListingTree, StatementTree, BlockTree, BlockEnd, Then, Branch, Each, StmtTree, Fork, Loop, block_from}
use Rattle.prog_tree.specs.Tree.{test_tree, listing_tree, stmt_tree, with_stmt, with_stmts, stmts_tree}
use Rattle.prog_tree.specs.declared.expr.Test.{Test}
use Rattle.prog_tree.specs.declared.stmt.Listing.{Listing}
use Rattle.prog_tree.specs.declared.stmt.Stmt.{Stmt}
use Rattle.prog_tree.proofs.TreeLemmas.{with_stmts-push}
use Rattle.prog_text.specs.declared.reading.blocks.Open.{Open}
use Rattle.prog_text.specs.declared.reading.blocks.Open.TheVariants.{First, Second, Turns}
use Rattle.prog_text.specs.declared.reading.read_error.ReadError.{ReadError}
use Rattle.prog_text.specs.declared.reading.read_error.ReadError.TheVariants as errors
use Rattle.prog_text.specs.declared.lexing.token.Token.{Token}
use Rattle.prog_text.specs.Reading.{Stop, Unexpected, Reading, ◌>>=◌, Fails, after_sign, behind_sign, expect, test_at, statement_at, block_at, headed_at, second_at, behind_second, behind_first, branch_at, listing_at, behind_turns, each_at, more_at, body_at, as_plain, unexpected}
use Rattle.prog_text.specs.OpenBlocks.{in_front, outward, unread_by, unread, unread_behind_end, unread_behind_if, unread_behind_each}
use Rattle.prog_text.proofs.Enough.{body_is}
use Rattle.prog_text.specs.declared.lexing.token.Sign.TheVariants as sign

-- what is still to be read in front of a statement without blocks
unfoldable pub unread_from_statement : List Open → List Stmt → List Token → Reading BlockTree
unread_from_statement stack done ts = unread_by (more_at body_at) stack done ts

in_front-nil : (read : Reading BlockTree) → in_front [] read ≡ read
unfolding in_front
in_front-nil (Ok y) = refl
in_front-nil (Err k) = refl

in_front-push : (done : List Stmt) (s : Stmt) (f : BlockTree → BlockTree) (read : Reading BlockTree) → with_stmt s ≡ f → in_front (done ++ s ∷ []) read ≡ in_front done (read >>= λ rest. Ok (f rest.0, rest.1))
unfolding in_front
in_front-push done s f (Ok y) e = ap (λ (b : BlockTree). Ok (b, y.1)) (with_stmts-push done s y.0 ∙ ap (λ (g : BlockTree → BlockTree). with_stmts done (g y.0)) e)
in_front-push done s f (Err k) e = refl

-- a fault inside is the fault
outward_fails : (opened : List Open) (k : Stop) → outward opened (Err k) ≡ Err k
unfolding outward in_front
outward_fails [] k = refl
outward_fails (First test before ∷ others) k = outward_fails others k
outward_fails (Second test first before ∷ others) k = outward_fails others k
outward_fails (Turns listing before ∷ others) k = outward_fails others k

reading_fails : (e : ReadError) (opened : List Open) (done : List Stmt) (read : Reading BlockTree) → Fails e read → Fails e (outward opened (in_front done read))
unfolding in_front
reading_fails errors.Memory opened done read h = tt
reading_fails (errors.Unexpected left) opened done read h = rw h (outward_fails opened (Unexpected left))

-- one reading fails, and so does what goes on with it
pub then_fails : {A B : Type 0} (e : ReadError) (r : Reading A) (f : A × List Token → Reading B) → Fails e r → Fails e (r >>= f)
then_fails errors.Memory r f h = tt
then_fails (errors.Unexpected left) r f h = rw h refl

-- before the first statement
pub unread_begins : (ts : List Token) → unread [] [] ts ≡ body_at ts
unfolding unread outward
unread_begins ts = in_front-nil (body_at ts)

pub block_begins : (ts us : List Token) → expect sign.OpenBlock ts ≡ Ok (tt, us) → unread [] [] us ≡ block_at body_at ts
unfolding block_at
block_begins ts us e = unread_begins us ∙ ap (λ (r : Reading (Unit {0})). r >>= λ begun. body_at begun.1) (sym e)

pub block_fails : (k : ReadError) (ts : List Token) → Fails k (expect sign.OpenBlock ts) → Fails k (block_at body_at ts)
unfolding block_at
block_fails k ts h = then_fails k (expect sign.OpenBlock ts) _ h

-- what comes next: the end of the block, a branch, an `each`, or a statement without blocks
next_by : (opened : List Open) (done : List Stmt) (ts : List Token) (ends branches repeats : Option (List Token))
    → outward opened (in_front done (behind_sign ends (λ ts. Ok (BlockEnd, ts)) (behind_sign branches (branch_at body_at) (behind_sign repeats (each_at body_at) (more_at body_at ts)))))
    ≡ behind_sign ends (λ us. outward opened (Ok (stmts_tree done, us)))
    (behind_sign branches (λ us. outward opened (in_front done (branch_at body_at us)))
    (behind_sign repeats (λ us. outward opened (in_front done (each_at body_at us))) (outward opened (in_front done (more_at body_at ts)))))
unfolding in_front
next_by opened done ts (Some us) branches repeats = refl
next_by opened done ts None (Some us) repeats = refl
next_by opened done ts None None (Some us) = refl
next_by opened done ts None None None = refl

unread_next : (stack : List Open) (done : List Stmt) (ts : List Token)
    → unread stack done ts ≡ behind_sign (after_sign sign.CloseBlock ts) (unread_behind_end stack done) (behind_sign (after_sign sign.If ts) (unread_behind_if stack done) (behind_sign (after_sign sign.Each ts) (unread_behind_each stack done) (unread_from_statement stack done ts)))
unfolding unread unread_behind_end unread_behind_if unread_behind_each unread_from_statement
unread_next stack done ts =
    ap (λ (r : Reading BlockTree). outward (reverse stack) (in_front done r)) (body_is ts)
    ∙ next_by (reverse stack) done ts (after_sign sign.CloseBlock ts) (after_sign sign.If ts) (after_sign sign.Each ts)

pub next_ends : (stack : List Open) (done : List Stmt) (ts us : List Token) → after_sign sign.CloseBlock ts ≡ Some us → unread stack done ts ≡ unread_behind_end stack done us
next_ends stack done ts us e = unread_next stack done ts ∙ (rw e refl)

pub next_branches : (stack : List Open) (done : List Stmt) (ts us : List Token) → after_sign sign.CloseBlock ts ≡ None → after_sign sign.If ts ≡ Some us → unread stack done ts ≡ unread_behind_if stack done us
next_branches stack done ts us e f = unread_next stack done ts ∙ (rw (e, f) refl)

pub next_repeats : (stack : List Open) (done : List Stmt) (ts us : List Token) → after_sign sign.CloseBlock ts ≡ None → after_sign sign.If ts ≡ None → after_sign sign.Each ts ≡ Some us → unread stack done ts ≡ unread_behind_each stack done us
next_repeats stack done ts us e f g = unread_next stack done ts ∙ (rw (e, f, g) refl)

pub next_goes_on : (stack : List Open) (done : List Stmt) (ts : List Token) → after_sign sign.CloseBlock ts ≡ None → after_sign sign.If ts ≡ None → after_sign sign.Each ts ≡ None → unread stack done ts ≡ unread_from_statement stack done ts
next_goes_on stack done ts e f g = unread_next stack done ts ∙ (rw (e, f, g) refl)

-- the outermost block ends
pub body_ends : (stack : List Open) (done : List Stmt) (ts : List Token) → (0 < length stack → false ≡ true) → unread_behind_end stack done ts ≡ Ok (stmts_tree done, ts)
unfolding unread_behind_end outward
body_ends [] done ts empty = refl
body_ends (o ∷ stack) done ts empty = absurd (true≢false (sym (empty (omega arith))))

-- the innermost block is the first from the inside
innermost : (stack : List Open) (last : Open) (read : Reading BlockTree) → outward (reverse (stack ++ last ∷ [])) read ≡ outward (last ∷ reverse stack) read
innermost stack last read = ap (λ (opened : List Open). outward opened read) (reverse-append stack (last ∷ []))

-- ---- the end of a first block

with_second : (x : TestTree) (first : BlockTree) (ts us vs : List Token) → after_sign sign.Else ts ≡ Some us → expect sign.OpenBlock us ≡ Ok (tt, vs)
    → behind_first body_at x first ts ≡ (body_at vs >>= λ second. behind_second body_at x first second.0 second.1)
unfolding behind_first second_at block_at
with_second x first ts us vs e f = rw (e, f) refl

without_second : (x : TestTree) (first : BlockTree) (ts : List Token) → after_sign sign.Else ts ≡ None → behind_first body_at x first ts ≡ (body_at ts >>= λ rest. Ok (Branch x first BlockEnd rest.0, rest.1))
unfolding behind_first behind_second second_at
without_second x first ts e = rw e refl

no_second : (k : ReadError) (x : TestTree) (first : BlockTree) (ts us : List Token) → after_sign sign.Else ts ≡ Some us → Fails k (expect sign.OpenBlock us) → Fails k (behind_first body_at x first ts)
unfolding behind_first second_at block_at
no_second k x first ts us e h = rw e (then_fails k _ _ (then_fails k (expect sign.OpenBlock us) _ h))

pub second_opens : (stack : List Open) (test : Test) (done before : Vec Stmt Global) (ts us vs : List Token) → after_sign sign.Else ts ≡ Some us → expect sign.OpenBlock us ≡ Ok (tt, vs)
    → unread (stack ++ Second test done before ∷ []) [] vs ≡ unread_behind_end (stack ++ First test before ∷ []) done.items ts
unfolding unread unread_behind_end outward
second_opens stack test done before ts us vs e f =
    innermost stack (Second test done before) (in_front [] (body_at vs)) ∙ ap (outward (Second test done before ∷ reverse stack)) (in_front-nil (body_at vs))
    ∙ ap (λ (r : Reading BlockTree). outward (reverse stack) (in_front before.items r)) (sym (with_second (test_tree test) (stmts_tree done.items) ts us vs e f))
    ∙ sym (innermost stack (First test before) (Ok (stmts_tree done.items, ts)))

pub second_fails : (k : ReadError) (stack : List Open) (test : Test) (done : List Stmt) (before : Vec Stmt Global) (ts us : List Token) → after_sign sign.Else ts ≡ Some us → Fails k (expect sign.OpenBlock us)
    → Fails k (unread_behind_end (stack ++ First test before ∷ []) done ts)
unfolding unread_behind_end outward
second_fails k stack test done before ts us e h =
    subst (Fails k) (sym (innermost stack (First test before) (Ok (stmts_tree done, ts))))
    (reading_fails k (reverse stack) before.items (behind_first body_at (test_tree test) (stmts_tree done) ts) (no_second k (test_tree test) (stmts_tree done) ts us e h))

pub first_ends : (stack : List Open) (test : Test) (done : List Stmt) (before : Vec Stmt Global) (s : Stmt) (ts : List Token) → after_sign sign.Else ts ≡ None → stmt_tree s ≡ Fork (test_tree test) (stmts_tree done) BlockEnd
    → unread stack (before.items ++ s ∷ []) ts ≡ unread_behind_end (stack ++ First test before ∷ []) done ts
unfolding unread unread_behind_end outward
first_ends stack test done before s ts e is =
    ap (outward (reverse stack)) (in_front-push before.items s (λ rest. Branch (test_tree test) (stmts_tree done) BlockEnd rest) (body_at ts) (ap block_from is))
    ∙ ap (λ (r : Reading BlockTree). outward (reverse stack) (in_front before.items r)) (sym (without_second (test_tree test) (stmts_tree done) ts e))
    ∙ sym (innermost stack (First test before) (Ok (stmts_tree done, ts)))

-- ---- the end of a second block

pub second_ends : (stack : List Open) (test : Test) (first : Vec Stmt Global) (done : List Stmt) (before : Vec Stmt Global) (s : Stmt) (ts : List Token) → stmt_tree s ≡ Fork (test_tree test) (stmts_tree first.items) (stmts_tree done)
    → unread stack (before.items ++ s ∷ []) ts ≡ unread_behind_end (stack ++ Second test first before ∷ []) done ts
unfolding unread unread_behind_end outward behind_second
second_ends stack test first done before s ts is =
    ap (outward (reverse stack)) (in_front-push before.items s (λ rest. Branch (test_tree test) (stmts_tree first.items) (stmts_tree done) rest) (body_at ts) (ap block_from is))
    ∙ sym (innermost stack (Second test first before) (Ok (stmts_tree done, ts)))

-- ---- a head and its block

module _ {H : Type 0} (head : List Token → Reading H) (behind : H → BlockTree → List Token → Reading BlockTree) where
  with_block : (x : H) (ts us vs : List Token) → head ts ≡ Ok (x, us) → expect sign.OpenBlock us ≡ Ok (tt, vs) → headed_at head behind body_at ts ≡ (body_at vs >>= λ inside. behind x inside.0 inside.1)
  unfolding block_at
  with_block x ts us vs e f = rw (e, f) refl

  no_block : (k : ReadError) (x : H) (ts us : List Token) → head ts ≡ Ok (x, us) → Fails k (expect sign.OpenBlock us) → Fails k (headed_at head behind body_at ts)
  unfolding block_at
  no_block k x ts us e h = rw e (then_fails k _ _ (then_fails k (expect sign.OpenBlock us) _ h))

-- ---- a branch

pub test_fails : (k : ReadError) (stack : List Open) (done : List Stmt) (ts : List Token) → Fails k (test_at ts) → Fails k (unread_behind_if stack done ts)
unfolding unread_behind_if branch_at
test_fails k stack done ts h = reading_fails k (reverse stack) done _ (then_fails k (test_at ts) _ h)

pub first_fails : (k : ReadError) (stack : List Open) (done : List Stmt) (ts us : List Token) (x : TestTree) → test_at ts ≡ Ok (x, us) → Fails k (expect sign.OpenBlock us) → Fails k (unread_behind_if stack done ts)
unfolding unread_behind_if branch_at
first_fails k stack done ts us x e h = reading_fails k (reverse stack) done (branch_at body_at ts) (no_block test_at (behind_first body_at) k x ts us e h)

pub first_opens : (stack : List Open) (test : Test) (before : Vec Stmt Global) (ts us vs : List Token) → test_at ts ≡ Ok (test_tree test, us) → expect sign.OpenBlock us ≡ Ok (tt, vs)
    → unread (stack ++ First test before ∷ []) [] vs ≡ unread_behind_if stack before.items ts
unfolding unread unread_behind_if outward branch_at
first_opens stack test before ts us vs e f =
    innermost stack (First test before) (in_front [] (body_at vs)) ∙ ap (outward (First test before ∷ reverse stack)) (in_front-nil (body_at vs))
    ∙ ap (λ (r : Reading BlockTree). outward (reverse stack) (in_front before.items r)) (sym (with_block test_at (behind_first body_at) (test_tree test) ts us vs e f))

-- ---- an `each`

pub listing_fails : (k : ReadError) (stack : List Open) (done : List Stmt) (ts : List Token) → Fails k (listing_at ts) → Fails k (unread_behind_each stack done ts)
unfolding unread_behind_each each_at
listing_fails k stack done ts h = reading_fails k (reverse stack) done _ (then_fails k (listing_at ts) _ h)

pub turns_fail : (k : ReadError) (stack : List Open) (done : List Stmt) (ts us : List Token) (l : ListingTree) → listing_at ts ≡ Ok (l, us) → Fails k (expect sign.OpenBlock us) → Fails k (unread_behind_each stack done ts)
unfolding unread_behind_each each_at
turns_fail k stack done ts us l e h = reading_fails k (reverse stack) done (each_at body_at ts) (no_block listing_at (behind_turns body_at) k l ts us e h)

pub turns_open : (stack : List Open) (listing : Listing) (before : Vec Stmt Global) (ts us vs : List Token) → listing_at ts ≡ Ok (listing_tree listing, us) → expect sign.OpenBlock us ≡ Ok (tt, vs)
    → unread (stack ++ Turns listing before ∷ []) [] vs ≡ unread_behind_each stack before.items ts
unfolding unread unread_behind_each outward each_at
turns_open stack listing before ts us vs e f =
    innermost stack (Turns listing before) (in_front [] (body_at vs)) ∙ ap (outward (Turns listing before ∷ reverse stack)) (in_front-nil (body_at vs))
    ∙ ap (λ (r : Reading BlockTree). outward (reverse stack) (in_front before.items r)) (sym (with_block listing_at (behind_turns body_at) (listing_tree listing) ts us vs e f))

pub turns_end : (stack : List Open) (listing : Listing) (done : List Stmt) (before : Vec Stmt Global) (s : Stmt) (ts : List Token) → stmt_tree s ≡ Loop (listing_tree listing) (stmts_tree done)
    → unread stack (before.items ++ s ∷ []) ts ≡ unread_behind_end (stack ++ Turns listing before ∷ []) done ts
unfolding unread unread_behind_end outward behind_turns
turns_end stack listing done before s ts is =
    ap (outward (reverse stack)) (in_front-push before.items s (λ rest. Each (listing_tree listing) (stmts_tree done) rest) (body_at ts) (ap block_from is))
    ∙ sym (innermost stack (Turns listing before) (Ok (stmts_tree done, ts)))

-- ---- a statement without blocks

plain_fails : (k : ReadError) (r : Reading StatementTree) → Fails k (as_plain r) → Fails k r
plain_fails errors.Memory r h = tt
plain_fails (errors.Unexpected left) (Ok y) h = absurd (cc)
plain_fails (errors.Unexpected left) (Err e) h = ap (λ (r : Reading StmtTree). r >>= λ s. unexpected s.1) h

pub statement_fails : (k : ReadError) (stack : List Open) (done : List Stmt) (ts : List Token) → Fails k (as_plain (statement_at ts)) → Fails k (unread_from_statement stack done ts)
unfolding unread_from_statement more_at
statement_fails k stack done ts h = reading_fails k (reverse stack) done _ (then_fails k (statement_at ts) _ (plain_fails k (statement_at ts) h))

-- behind a statement, the rest of the block
abbrev led : StmtTree × List Token → Reading BlockTree
led x = body_at x.1 >>= λ rest. Ok (block_from x.0 rest.0, rest.1)

abbrev led_plain : StatementTree × List Token → Reading BlockTree
led_plain s = body_at s.1 >>= λ rest. Ok (Then s.0 rest.0, rest.1)

goes_on : (x : StmtTree) (rest : List Token) (r : Reading StatementTree) → as_plain r ≡ Ok (x, rest) → (r >>= led_plain) ≡ led (x, rest)
goes_on x rest (Ok y) e = ap (λ (r : Reading StmtTree). r >>= led) e
goes_on x rest (Err k) e = absurd (cc)

pub statement_further : (stack : List Open) (done : List Stmt) (s : Stmt) (ts rest : List Token) → as_plain (statement_at ts) ≡ Ok (stmt_tree s, rest)
    → unread stack (done ++ s ∷ []) rest ≡ unread_from_statement stack done ts
unfolding unread unread_from_statement more_at
statement_further stack done s ts rest e =
    ap (outward (reverse stack)) (in_front-push done s (block_from (stmt_tree s)) (body_at rest) refl)
    ∙ ap (λ (r : Reading BlockTree). outward (reverse stack) (in_front done r)) (sym (goes_on (stmt_tree s) rest (statement_at ts) e))
