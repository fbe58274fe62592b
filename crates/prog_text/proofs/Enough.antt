-- Loops and nesting take no more turns than there are tokens: any number of turns that is enough gives the same.
use Rattle.std.proofs.Common.{◌≡◌, ◌∙◌, ℕ, zero, suc, ◌<◌, ◌≤◌, List, [], ◌∷◌, ◌++◌, length, length-append, Option, Some, None, Ok, Err, refl, ap, sym, arith}
use Rattle.prog_tree.specs.Syntax.{Name, ExprTree, Plus, Minus, Times, ComparisonTree, TestTree, StatementTree, BlockTree, BlockEnd, Then, Branch, Each, ProgramTree}
use Rattle.prog_tree.specs.declared.table.TableDecl.{TableDecl}
use Rattle.prog_text.specs.declared.lexing.token.Token.{Token}
use Rattle.prog_text.specs.declared.lexing.token.Sign.TheVariants as sign
use Rattle.prog_text.specs.declared.lexing.token.Token.TheVariants as t
use Rattle.prog_text.specs.Grammar.{IsFactor, IsProduct, IsExpr, IsComparison, IsConjunction, IsTest, IsTable, IsName, IsStatement, IsBlock, IsElse, IsProgram}
use Rattle.prog_text.specs.Reading.{Reading, ◌>>=◌, after_sign, expect, behind_sign, name_at, many_from, factor_at, product_from, product_at, sum_from, sum_at, expr_within, expr_at, comparison_at, conjunction_at, test_at, table_at, program_at, statement_at, block_at, second_at, behind_second, behind_first, branch_at, listing_at, behind_turns, each_at, more_at, body_within, body_at}
use Rattle.prog_text.proofs.Sound.{Sound, behind, IsBehind, IsShorter, sound_shorter}
use Rattle.prog_text.proofs.OneToken.{finds_sign}
use Rattle.prog_text.proofs.DerivedExprs.{factor_sound, product_sound, expr_within_sound, comparison_sound, conjunction_sound, test_sound}
use Rattle.prog_text.proofs.DerivedStatements.{statement_sound, IsListing, listing_sound, IsBody, block_sound, second_sound, body_within_sound, begins_statement}
use Rattle.prog_text.proofs.Derived.{table_sound, program_sound, name_sound}

-- what goes on behind a reading matters only where no more is left than there was
then_same : {A B : Type 0} (us : List Token) (r s : Reading A) (f g : A × List Token → Reading B) → r ≡ s → IsShorter us r → ((x : A) (rest : List Token) → length rest ≤ length us → f (x, rest) ≡ g (x, rest)) → (r >>= f) ≡ (s >>= g)
then_same us (Ok x) s f g e short h = h x.0 x.1 short ∙ ap (λ r. r >>= g) e
then_same us (Err k) s f g e short h = ap (λ r. r >>= g) e

-- What is read behind a sign matters only for lists that are shorter.
behind_sought_same : {A : Type 0} (u : Token) (ts : List Token) (o : Option (List Token)) (p q : List Token → Reading A) (r s : Reading A) → IsBehind u ts o → ((us : List Token) → length us < length ts → p us ≡ q us) → r ≡ s → behind_sign o p r ≡ behind_sign o q s
behind_sought_same u ts (Some us) p q r s parts h k = h us (omega (arith, ap length parts))
behind_sought_same u ts None p q r s parts h k = k

-- the same of a phrase behind a sign, and what goes on behind it
item_same : {A B : Type 0} (u : Token) (ts : List Token) (o : Option (List Token)) (p q : List Token → Reading A) (f g : A × List Token → Reading B) (r s : Reading B) → IsBehind u ts o → ((us : List Token) → IsShorter us (p us))
    → ((us : List Token) → length us < length ts → p us ≡ q us) → ((x : A) (rest : List Token) → length rest < length ts → f (x, rest) ≡ g (x, rest)) → r ≡ s → behind_sign o (λ us. p us >>= f) r ≡ behind_sign o (λ us. q us >>= g) s
item_same u ts o p q f g r s finds short same h k =
    behind_sought_same u ts o _ _ r s finds (λ us less. then_same us (p us) (q us) f g (same us less) (short us) (λ x rest fewer. h x rest (omega (arith, less, fewer)))) k

-- ---- turns

-- at the end of the tokens each number of turns gives what none gives
abbrev EndsAlike : {A B : Type 0} → (ℕ → A → List Token → Reading B) → Type 0
EndsAlike {A = A} read = (n : ℕ) (x : A) → read (suc n) x [] ≡ read 0 x []

at_end : {A B : Type 0} (read : ℕ → A → List Token → Reading B) → EndsAlike read → (n : ℕ) (x : A) → read n x [] ≡ read 0 x []
at_end read ends zero x = refl
at_end read ends (suc n) x = ends n x

-- A reader that takes n turns, from a value on: where each turn leaves fewer tokens, all numbers of turns that are enough give the same.
enough_by : {A B : Type 0} (read : ℕ → A → List Token → Reading B) → EndsAlike read
    → ((n m len : ℕ) → ((x : A) (ts : List Token) → length ts ≤ len → read n x ts ≡ read m x ts) → (x : A) (ts : List Token) → length ts ≡ suc len → read (suc n) x ts ≡ read (suc m) x ts)
    → (x : A) (n m : ℕ) (ts : List Token) → length ts ≤ n → length ts ≤ m → read n x ts ≡ read m x ts
enough_by read ends turn x n m [] le ge = at_end read ends n x ∙ sym (at_end read ends m x)
enough_by read ends turn x zero m (v ∷ ts) le ge = absurd (omega (arith, le))
enough_by read ends turn x (suc n) zero (v ∷ ts) le ge = absurd (omega (arith, ge))
enough_by read ends turn x (suc n) (suc m) (v ∷ ts) le ge =
    turn n m (length ts) (λ y us short. enough_by read ends turn y n m us (omega (arith, short, le)) (omega (arith, short, ge))) x (v ∷ ts) (omega arith)

-- ---- lists

many_enough : {A : Type 0} (u : Token) (after : List Token → Option (List Token)) (read : List Token → Reading A) → after [] ≡ None → ((ts : List Token) → IsBehind u ts (after ts)) → ((us : List Token) → IsShorter us (read us))
    → (done : List A) (n m : ℕ) (ts : List Token) → length ts ≤ n → length ts ≤ m → many_from after read n done ts ≡ many_from after read m done ts
unfolding many_from
many_enough u after read e finds short =
    enough_by (λ n done ts. many_from after read n done ts) (λ n done. rw e refl)
    (λ n m len same done ts is. item_same u ts (after ts) read read _ _ (Ok (done, ts)) (Ok (done, ts)) (finds ts) short (λ us less. refl)
    (λ x rest less. same (done ++ x ∷ []) rest (omega (arith, less, is))) refl)

pub tables_enough : (done : List TableDecl) (n m : ℕ) (ts : List Token) → length ts ≤ n → length ts ≤ m → many_from (after_sign sign.Table) table_at n done ts ≡ many_from (after_sign sign.Table) table_at m done ts
tables_enough = many_enough (t.Sign sign.Table) (after_sign sign.Table) table_at refl (finds_sign sign.Table) (λ us. sound_shorter (behind (t.Sign sign.Table ∷ []) IsTable) us (table_at us) (table_sound us))

pub names_enough : (done : List Name) (n m : ℕ) (ts : List Token) → length ts ≤ n → length ts ≤ m → many_from (after_sign sign.Comma) name_at n done ts ≡ many_from (after_sign sign.Comma) name_at m done ts
names_enough = many_enough (t.Sign sign.Comma) (after_sign sign.Comma) name_at refl (finds_sign sign.Comma) (λ us. sound_shorter IsName us (name_at us) (name_sound us))

pub programs_enough : (done : List ProgramTree) (n m : ℕ) (ts : List Token) → length ts ≤ n → length ts ≤ m → many_from (after_sign sign.Program) program_at n done ts ≡ many_from (after_sign sign.Program) program_at m done ts
programs_enough = many_enough (t.Sign sign.Program) (after_sign sign.Program) program_at refl (finds_sign sign.Program) (λ us. sound_shorter (behind (t.Sign sign.Program ∷ []) IsProgram) us (program_at us) (program_sound us))

pub comparisons_enough : (done : List ComparisonTree) (n m : ℕ) (ts : List Token) → length ts ≤ n → length ts ≤ m → many_from (after_sign sign.And) comparison_at n done ts ≡ many_from (after_sign sign.And) comparison_at m done ts
comparisons_enough = many_enough (t.Sign sign.And) (after_sign sign.And) comparison_at refl (finds_sign sign.And) (λ us. sound_shorter IsComparison us (comparison_at us) (comparison_sound us))

pub conjunctions_enough : (done : TestTree) (n m : ℕ) (ts : List Token) → length ts ≤ n → length ts ≤ m → many_from (after_sign sign.Or) conjunction_at n done ts ≡ many_from (after_sign sign.Or) conjunction_at m done ts
conjunctions_enough = many_enough (t.Sign sign.Or) (after_sign sign.Or) conjunction_at refl (finds_sign sign.Or) (λ us. sound_shorter IsConjunction us (conjunction_at us) (conjunction_sound us))

-- ---- products and sums

module _ (inner : List Token → Reading ExprTree) (inner_sound : (ts : List Token) → Sound IsExpr ts (inner ts)) where
  factor_shorter : (ts : List Token) → IsShorter ts (factor_at inner ts)
  factor_shorter ts = sound_shorter IsFactor ts (factor_at inner ts) (factor_sound inner inner_sound ts)

  product_shorter : (ts : List Token) → IsShorter ts (product_at inner ts)
  product_shorter ts = sound_shorter IsProduct ts (product_at inner ts) (product_sound inner inner_sound ts)

  pub product_enough : (left : ExprTree) (n m : ℕ) (ts : List Token) → length ts ≤ n → length ts ≤ m → product_from inner n left ts ≡ product_from inner m left ts
  unfolding product_from
  product_enough =
      enough_by (λ n left ts. product_from inner n left ts) (λ n left. refl)
      (λ n m len same left ts is. item_same (t.Sign sign.Times) ts (after_sign sign.Times ts) (factor_at inner) (factor_at inner) _ _ (Ok (left, ts)) (Ok (left, ts)) (finds_sign sign.Times ts) factor_shorter (λ us less. refl)
      (λ x rest less. same (Times left x) rest (omega (arith, less, is))) refl)

  pub sum_enough : (left : ExprTree) (n m : ℕ) (ts : List Token) → length ts ≤ n → length ts ≤ m → sum_from inner n left ts ≡ sum_from inner m left ts
  unfolding sum_from
  sum_enough =
      enough_by (λ n left ts. sum_from inner n left ts) (λ n left. refl)
      (λ n m len same left ts is.
      item_same (t.Sign sign.Plus) ts (after_sign sign.Plus ts) (product_at inner) (product_at inner) _ _ _ _ (finds_sign sign.Plus ts) product_shorter (λ us less. refl) (λ x rest less. same (Plus left x) rest (omega (arith, less, is)))
      (item_same (t.Sign sign.Minus) ts (after_sign sign.Minus ts) (product_at inner) (product_at inner) _ _ (Ok (left, ts)) (Ok (left, ts)) (finds_sign sign.Minus ts) product_shorter (λ us less. refl) (λ x rest less. same (Minus left x) rest (omega (arith, less, is))) refl))

-- ---- brackets

-- Readers of what stands in brackets that give the same for short lists give the same one token further out.
module _ (p q : List Token → Reading ExprTree) (p_sound : (ts : List Token) → Sound IsExpr ts (p ts)) (len : ℕ) (same : (ts : List Token) → length ts ≤ len → p ts ≡ q ts) where
  factor_same : (ts : List Token) → length ts ≤ suc len → factor_at p ts ≡ factor_at q ts
  unfolding factor_at
  factor_same (t.Sign sign.Open ∷ ts) le = ap (λ (r : Reading ExprTree). r >>= λ e. expect sign.Close e.1 >>= λ closed. Ok (e.0, closed.1)) (same ts (omega (arith, le)))
  factor_same ts le = refl

  product_from_same : (n : ℕ) (left : ExprTree) (ts : List Token) → length ts ≤ suc len → product_from p n left ts ≡ product_from q n left ts
  unfolding product_from
  product_from_same zero left ts le = refl
  product_from_same (suc n) left ts le =
      item_same (t.Sign sign.Times) ts (after_sign sign.Times ts) (factor_at p) (factor_at q) _ _ (Ok (left, ts)) (Ok (left, ts)) (finds_sign sign.Times ts) (factor_shorter p p_sound) (λ us less. factor_same us (omega (arith, less, le)))
      (λ x rest less. product_from_same n (Times left x) rest (omega (arith, less, le))) refl

  product_same : (ts : List Token) → length ts ≤ suc len → product_at p ts ≡ product_at q ts
  unfolding product_at
  product_same ts le =
      then_same ts (factor_at p ts) (factor_at q ts) _ _ (factor_same ts le) (factor_shorter p p_sound ts)
      (λ x rest fewer. product_from_same (length rest) x rest (omega (arith, fewer, le)))

  sum_from_same : (n : ℕ) (left : ExprTree) (ts : List Token) → length ts ≤ suc len → sum_from p n left ts ≡ sum_from q n left ts
  unfolding sum_from
  sum_from_same zero left ts le = refl
  sum_from_same (suc n) left ts le =
      let side = λ (us : List Token) (less : length us < length ts). product_same us (omega (arith, less, le)) in
      item_same (t.Sign sign.Plus) ts (after_sign sign.Plus ts) (product_at p) (product_at q) _ _ _ _ (finds_sign sign.Plus ts) (product_shorter p p_sound) side (λ x rest less. sum_from_same n (Plus left x) rest (omega (arith, less, le)))
      (item_same (t.Sign sign.Minus) ts (after_sign sign.Minus ts) (product_at p) (product_at q) _ _ (Ok (left, ts)) (Ok (left, ts)) (finds_sign sign.Minus ts) (product_shorter p p_sound) side (λ x rest less. sum_from_same n (Minus left x) rest (omega (arith, less, le))) refl)

  sum_same : (ts : List Token) → length ts ≤ suc len → sum_at p ts ≡ sum_at q ts
  unfolding sum_at
  sum_same ts le =
      then_same ts (product_at p ts) (product_at q ts) _ _ (product_same ts le) (product_shorter p p_sound ts)
      (λ x rest fewer. sum_from_same (length rest) x rest (omega (arith, fewer, le)))

expr_enough : (n m : ℕ) (ts : List Token) → length ts ≤ n → length ts ≤ m → expr_within n ts ≡ expr_within m ts
unfolding expr_within sum_at product_at factor_at
expr_enough =
    enough_by (λ n (x : Unit {0}) ts. expr_within n ts) (λ n x. refl)
    (λ n m len same x ts is. sum_same (expr_within n) (expr_within m) (expr_within_sound n) len (λ us short. same tt us short) ts (omega (arith, is))) tt

-- an expression is a sum, in whose brackets expressions stand
pub expr_is : (ts : List Token) → expr_at ts ≡ sum_at expr_at ts
unfolding expr_at expr_within sum_at product_at factor_at
expr_is [] = refl
expr_is (v ∷ ts) =
    sum_same (expr_within (length ts)) expr_at (expr_within_sound (length ts)) (length ts)
    (λ us short. expr_enough (length ts) (length us) us short (omega arith)) (v ∷ ts) (omega arith)

pub expr_further : (n : ℕ) (ts : List Token) → length ts ≤ n → expr_at ts ≡ expr_within n ts
unfolding expr_at
expr_further n ts le = expr_enough (length ts) n ts (omega arith) le

-- ---- blocks

-- a statement that is read has a token
statement_same : (ts : List Token) (r : Reading StatementTree) (f g : StatementTree × List Token → Reading BlockTree) → Sound IsStatement ts r
    → ((s : StatementTree) (rest : List Token) → length rest < length ts → f (s, rest) ≡ g (s, rest)) → (r >>= f) ≡ (r >>= g)
statement_same ts (Ok s) f g found h =
    let begins = begins_statement found.front s.0 found.phrase in
    h s.0 s.1 (omega (arith, ap length found.parts, length-append found.front s.1, begins.some))
statement_same ts (Err e) f g found h = refl

-- Readers of a block's rest that give the same for short lists give the same one token further out.
module _ (p q : List Token → Reading BlockTree) (p_sound : (ts : List Token) → Sound IsBody ts (p ts)) (len : ℕ) (same : (ts : List Token) → length ts ≤ len → p ts ≡ q ts) where
  block_same : (ts : List Token) → length ts ≤ suc len → block_at p ts ≡ block_at q ts
  unfolding block_at
  block_same (t.Sign sign.OpenBlock ∷ ts) le = same ts (omega (arith, le))
  block_same ts le = refl

  second_same : (ts : List Token) → length ts ≤ suc len → second_at p ts ≡ second_at q ts
  unfolding second_at
  second_same ts le =
      behind_sought_same (t.Sign sign.Else) ts (after_sign sign.Else ts) (block_at p) (block_at q) _ _ (finds_sign sign.Else ts) (λ us less. block_same us (omega (arith, less, le))) refl

  branch_same : (ts : List Token) → length ts ≤ len → branch_at p ts ≡ branch_at q ts
  unfolding branch_at behind_first behind_second
  branch_same ts le =
      then_same ts (test_at ts) (test_at ts) _ _ refl (sound_shorter IsTest ts (test_at ts) (test_sound ts))
      (λ x us few. then_same us (block_at p us) (block_at q us) _ _ (block_same us (omega (arith, few, le))) (sound_shorter IsBlock us (block_at p us) (block_sound p p_sound us))
      (λ a vs fewer. then_same vs (second_at p vs) (second_at q vs) _ _ (second_same vs (omega (arith, few, fewer, le))) (sound_shorter IsElse vs (second_at p vs) (second_sound p p_sound vs))
      (λ b ws fewest. ap (λ (r : Reading BlockTree). r >>= λ rest. Ok (Branch x a b rest.0, rest.1)) (same ws (omega (arith, few, fewer, fewest, le))))))

  each_same : (ts : List Token) → length ts ≤ len → each_at p ts ≡ each_at q ts
  unfolding each_at behind_turns
  each_same ts le =
      then_same ts (listing_at ts) (listing_at ts) _ _ refl (sound_shorter IsListing ts (listing_at ts) (listing_sound ts))
      (λ l us few. then_same us (block_at p us) (block_at q us) _ _ (block_same us (omega (arith, few, le))) (sound_shorter IsBlock us (block_at p us) (block_sound p p_sound us))
      (λ inside vs fewer. ap (λ (r : Reading BlockTree). r >>= λ rest. Ok (Each l inside rest.0, rest.1)) (same vs (omega (arith, few, fewer, le)))))

  more_same : (ts : List Token) → length ts ≤ suc len → more_at p ts ≡ more_at q ts
  unfolding more_at
  more_same ts le =
      statement_same ts (statement_at ts) _ _ (statement_sound ts)
      (λ s rest less. ap (λ (r : Reading BlockTree). r >>= λ rest. Ok (Then s rest.0, rest.1)) (same rest (omega (arith, less, le))))

  body_same : (ts : List Token) → length ts ≤ suc len
      → behind_sign (after_sign sign.CloseBlock ts) (λ ts. Ok (BlockEnd, ts)) (behind_sign (after_sign sign.If ts) (branch_at p) (behind_sign (after_sign sign.Each ts) (each_at p) (more_at p ts)))
      ≡ behind_sign (after_sign sign.CloseBlock ts) (λ ts. Ok (BlockEnd, ts)) (behind_sign (after_sign sign.If ts) (branch_at q) (behind_sign (after_sign sign.Each ts) (each_at q) (more_at q ts)))
  body_same ts le =
      behind_sought_same (t.Sign sign.CloseBlock) ts (after_sign sign.CloseBlock ts) _ _ _ _ (finds_sign sign.CloseBlock ts) (λ us less. refl)
      (behind_sought_same (t.Sign sign.If) ts (after_sign sign.If ts) (branch_at p) (branch_at q) _ _ (finds_sign sign.If ts) (λ us less. branch_same us (omega (arith, less, le)))
      (behind_sought_same (t.Sign sign.Each) ts (after_sign sign.Each ts) (each_at p) (each_at q) _ _ (finds_sign sign.Each ts) (λ us less. each_same us (omega (arith, less, le))) (more_same ts le)))

body_enough : (n m : ℕ) (ts : List Token) → length ts ≤ n → length ts ≤ m → body_within n ts ≡ body_within m ts
unfolding body_within more_at statement_at
body_enough =
    enough_by (λ n (x : Unit {0}) ts. body_within n ts) (λ n x. refl)
    (λ n m len same x ts is. body_same (body_within n) (body_within m) (body_within_sound n) len (λ us short. same tt us short) ts (omega (arith, is))) tt

pub body_further : (n : ℕ) (ts : List Token) → length ts ≤ n → body_at ts ≡ body_within n ts
unfolding body_at
body_further n ts le = body_enough (length ts) n ts (omega arith) le

-- what is left of a block: its closing sign, or a branch, an `each` or a statement, and more
pub body_is : (ts : List Token)
    → body_at ts ≡ behind_sign (after_sign sign.CloseBlock ts) (λ ts. Ok (BlockEnd, ts)) (behind_sign (after_sign sign.If ts) (branch_at body_at) (behind_sign (after_sign sign.Each ts) (each_at body_at) (more_at body_at ts)))
unfolding body_at body_within more_at statement_at
body_is [] = refl
body_is (v ∷ ts) =
    body_same (body_within (length ts)) body_at (body_within_sound (length ts)) (length ts) (λ us short. body_enough (length ts) (length us) us short (omega arith)) (v ∷ ts) (omega arith)
