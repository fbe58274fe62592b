-- Trails past the body of an `each`, statement by statement.
use Rattle.std.proofs.Common.{◌≡◌, ℕ, ◌+◌, List, [], ◌∷◌, ◌++◌, map, refl, ap, sym, subst, ◌∙◌, arith, true, false, Bool, not}
use Rattle.std.proofs.lemmas.Bool.{false≢true}
use Rattle.std.proofs.lemmas.List.{append-nil, append_assoc}
use Rattle.std.specs.Prelude.{if◌then◌else◌}
use Rattle.prog_tree.specs.declared.table.TableDecl.{TableDecl}
use Rattle.prog_tree.specs.declared.stmt.Block.{Block}
use Rattle.prog_tree.specs.declared.stmt.Listing.{Listing}
use Rattle.prog_tree.specs.declared.stmt.Stmt.{Stmt}
use Rattle.prog_tree.specs.declared.stmt.Stmt as t
use Rattle.prog_tree.specs.Syntax.{Name, TestTree, ListingTree, StatementTree, BlockTree, BlockEnd, Then, StmtTree, Plain, Fork, Loop, block_from}
use Rattle.prog_tree.specs.Tree.{stmt_tree, block_tree}
use Rattle.prog_tree.proofs.TreeLemmas.{loop_tree}
use Rattle.prog_check.specs.Accesses.{columns_of, next_unknown, accesses_of}
use Rattle.prog_check.specs.Paths.{Passed, no_steps, passing, body_passed, routes, statement_count, accesses_along}
use Rattle.prog_check.specs.Uses.{is_abort, as_count}
use Rattle.prog_paths.specs.declared.path.trail.Trail.{Trail}
use Rattle.prog_paths.specs.Trails.{alone, passes, unknown_behind, trail_of, past, past_body, along, IsLow}
use Rattle.prog_paths.proofs.Walking.{unknown_append, accesses_append, statement_low, behind_low, body_short}

-- a statement of a body
abbrev loose : ℕ → StatementTree → Passed
loose n st = record { number = n; sure = false; statement = st }

-- ---- what a body passes, by its first statement

body_from : (n : ℕ) (x : StmtTree) (rest : BlockTree) → body_passed n (block_from x rest) ≡ body_passed n (alone x) ++ body_passed (n + statement_count (alone x)) rest
body_from n (Plain st) rest = refl
body_from n (Fork t a b) rest =
    let first = body_passed (n + 1) a in
    let second = body_passed (n + 1 + statement_count a) b in
    let same : n + 1 + statement_count a + statement_count b ≡ n + (1 + statement_count a + statement_count b + 0) = omega arith in
    λ i. sym (append-nil (first ++ second)) i ++ body_passed (same i) rest
body_from n (Loop l body) rest =
    let own = body_passed (n + 1) body in
    let later = body_passed (n + 1 + statement_count body) rest in
    let same : n + 1 + statement_count body ≡ n + (1 + statement_count body + 0) = omega arith in
    sym (ap (λ ps. loose n (as_count l) ∷ (ps ++ later)) (append-nil own))
    ∙ (λ i. (loose n (as_count l) ∷ (own ++ [])) ++ body_passed (same i) rest)

module _ (tables : List TableDecl) (params : List Name) where
  -- a trail behind statements
  abbrev behind : List Passed → Trail → Trail
  behind ps t = trail_of t.choices (t.accesses ++ accesses_along tables params t.unknown ps) (unknown_behind params t.unknown ps)

  behind_append : (ps qs : List Passed) (t : Trail) → behind qs (behind ps t) ≡ behind (ps ++ qs) t
  behind_append ps qs t =
      let first = accesses_along tables params t.unknown ps in
      let later = accesses_along tables params (unknown_behind params t.unknown ps) qs in
      λ i.
      trail_of t.choices
      ((append_assoc t.accesses first later ∙ ap (λ l. t.accesses ++ l) (sym (accesses_append tables params t.unknown ps qs))) i)
      (sym (unknown_append tables params t.unknown ps qs) i)

  pub body_end : (n : ℕ) (t : Trail) → past_body tables params n BlockEnd t ≡ t
  body_end n t = λ i. trail_of t.choices (append-nil t.accesses i) t.unknown

  -- past one statement, and then the rest
  pub body_next : (n : ℕ) (x : StmtTree) (rest : BlockTree) (t : Trail) → past_body tables params (n + statement_count (alone x)) rest (past_body tables params n (alone x) t) ≡ past_body tables params n (block_from x rest) t
  body_next n x rest t =
      behind_append (body_passed n (alone x)) (body_passed (n + statement_count (alone x)) rest) t
      ∙ ap (λ ps. behind ps t) (sym (body_from n x rest))

  -- ---- one statement

  alone_is : (sure : Bool) (n : ℕ) (st : StatementTree) (t : Trail) → past tables params sure n (Plain st) t ≡ behind (record { number = n; sure = sure; statement = st } ∷ []) t
  alone_is sure n st t =
      λ i. trail_of t.choices (t.accesses ++ sym (append-nil (accesses_of tables params t.unknown sure n st)) i) (next_unknown t.unknown (columns_of params t.unknown st))

  pub inside_plain : (n : ℕ) (st : StatementTree) (x : StmtTree) (t : Trail) → x ≡ Plain st → past tables params false n x t ≡ past_body tables params n (alone x) t
  inside_plain n st x t is = subst (λ y. past tables params false n y t ≡ past_body tables params n (alone y) t) (sym is) (alone_is false n st t)

  pub inside_loop : (n : ℕ) (x : StmtTree) (l : ListingTree) (body : BlockTree) (t : Trail) → x ≡ Loop l body → past_body tables params (n + 1) body (past tables params false n x t) ≡ past_body tables params n (alone x) t
  inside_loop n x l body t is =
      subst (λ y. past_body tables params (n + 1) body (past tables params false n y t) ≡ past_body tables params n (alone y) t) (sym is)
      (ap (behind (body_passed (n + 1) body)) (alone_is false n (as_count l) t)
      ∙ behind_append (loose n (as_count l) ∷ []) (body_passed (n + 1) body) t
      ∙ ap (λ ps. behind (loose n (as_count l) ∷ ps) t) (sym (append-nil (body_passed (n + 1) body))))

  pub inside_branch : (n m : ℕ) (x : StmtTree) (test : TestTree) (a b : BlockTree) (t : Trail) → x ≡ Fork test a b → m ≡ statement_count a →
      past_body tables params (n + 1 + m) b (past_body tables params (n + 1) a (past tables params false n x t)) ≡ past_body tables params n (alone x) t
  inside_branch n m x test a b t is same =
      let first = body_passed (n + 1) a in
      let second = body_passed (n + 1 + statement_count a) b in
      (λ i. past_body tables params (n + 1 + same i) b (past_body tables params (n + 1) a (past tables params false n (is i) t)))
      ∙ ap (λ z. behind second (behind first z)) (body_end n t)
      ∙ behind_append first second t
      ∙ ap (λ ps. behind ps t) (sym (append-nil (first ++ second)))
      ∙ ap (λ y. past_body tables params n (alone y) t) (sym is)

  -- ---- a whole statement of a route

  pub whole_plain : (n : ℕ) (x : StmtTree) (st : StatementTree) (t : Trail) → x ≡ Plain st → passes x ≡ true → past tables params true n x t ∷ [] ≡ map (along tables params t) (routes n (alone x))
  whole_plain n x st t is on = subst (λ y. past tables params true n y t ∷ [] ≡ map (along tables params t) (routes n (alone y))) (sym is) (go (is_abort st) refl)
    where
      open_end : along tables params t (passing n st no_steps) ≡ past tables params true n (Plain st) t
      open_end = λ i. trail_of (append-nil t.choices i) (t.accesses ++ append-nil (accesses_of tables params t.unknown true n st) i) (next_unknown t.unknown (columns_of params t.unknown st))

      go : (w : Bool) → is_abort st ≡ w → past tables params true n (Plain st) t ∷ [] ≡ map (along tables params t) (routes n (Then st BlockEnd))
      go true e = absurd (false≢true (sym (ap not e) ∙ sym (ap passes is) ∙ on))
      go false e = (λ i. sym open_end i ∷ []) ∙ (λ i. map (along tables params t) (if sym e i then [] else map (passing n st) (no_steps ∷ [])))

  pub whole_loop : (n : ℕ) (x : StmtTree) (l : ListingTree) (body : BlockTree) (t : Trail) → x ≡ Loop l body → past_body tables params (n + 1) body (past tables params true n x t) ∷ [] ≡ map (along tables params t) (routes n (alone x))
  whole_loop n x l body t is = subst (λ y. past_body tables params (n + 1) body (past tables params true n y t) ∷ [] ≡ map (along tables params t) (routes n (alone y))) (sym is) (λ i. whole i ∷ [])
    where
      own : List Passed
      own = body_passed (n + 1) body

      head : Passed
      head = record { number = n; sure = true; statement = as_count l }

      passed : past_body tables params (n + 1) body (past tables params true n (Loop l body) t) ≡ behind (head ∷ (own ++ [])) t
      passed =
          ap (behind own) (alone_is true n (as_count l) t) ∙ behind_append (head ∷ []) own t
          ∙ ap (λ ps. behind (head ∷ ps) t) (sym (append-nil own))

      whole : past_body tables params (n + 1) body (past tables params true n (Loop l body) t) ≡ along tables params t (record { choices = []; passed = head ∷ (own ++ []) })
      whole =
          passed
          ∙ (λ i. trail_of (sym (append-nil t.choices) i) (t.accesses ++ accesses_along tables params t.unknown (head ∷ (own ++ []))) (unknown_behind params t.unknown (head ∷ (own ++ []))))

  -- ---- unknowns stay low

  pub low_body : (n : ℕ) (b : BlockTree) (t r : Trail) → r ≡ past_body tables params n b t → IsLow n t → IsLow (n + statement_count b) r
  low_body n b t r is h =
      let e = ap (λ (u : Trail). u.unknown) is in
      let g = behind_low tables params t.unknown (body_passed n b) in
      let s = body_short n b in
      omega (arith, h, e, g, s)

  pub low_fork : (n : ℕ) (x : StmtTree) (test : TestTree) (a b : BlockTree) (t r : Trail) → x ≡ Fork test a b → r ≡ past tables params false n x t → IsLow n t → IsLow (n + 1) r
  low_fork n x test a b t r fork is h =
      let e = ap (λ (u : Trail). u.unknown) (is ∙ ap (λ y. past tables params false n y t) fork) in
      omega (arith, h, e)

  pub low_head : (sure : Bool) (n : ℕ) (x : StmtTree) (l : ListingTree) (body : BlockTree) (t r : Trail) → x ≡ Loop l body → r ≡ past tables params sure n x t → IsLow n t → IsLow (n + 1) r
  low_head sure n x l body t r loop is h =
      let e = ap (λ (u : Trail). u.unknown) (is ∙ ap (λ y. past tables params sure n y t) loop) in
      let g = statement_low tables params t.unknown (as_count l) in
      omega (arith, h, e, g)

pub loop_counts : (stmt : Stmt) (l : Listing) (body : Block) → stmt ≡ t.Each l body → statement_count (alone (stmt_tree stmt)) ≡ 1 + statement_count (block_tree body)
loop_counts stmt l body is = ap (λ y. statement_count (alone y)) (ap stmt_tree is ∙ loop_tree l body) ∙ omega arith
