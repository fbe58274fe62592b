-- Each run of a block that goes on follows a route of the block: the one with its choices.
use Rattle.std.proofs.Common.{◌≡◌, ℕ, ◌+◌, Bool, true, false, List, [], ◌∷◌, ◌++◌, inl, inr, length, map, refl, sym, subst, ap, ◌∙◌, arith, append_assoc, append-nil}
use Rattle.std.specs.Prelude.{ℤ, Some, if◌then◌else◌}
use Rattle.std.proofs.lemmas.List.{length-append}
use Rattle.prog_tree.specs.declared.cell.Region.{Region}
use Rattle.prog_tree.specs.declared.progress.Progress.{Progress}
use Rattle.prog_tree.specs.declared.table.TableDecl.{TableDecl}
use Rattle.prog_tree.specs.Syntax.{Name, TestTree, ListingTree, StatementTree, BlockTree, BlockEnd, Then, Branch, Each}
use Rattle.prog_tree.specs.Syntax as s
use Rattle.prog_tree.specs.Numbering.{number_of}
use Rattle.prog_tree.specs.Steps.{closed}
use Rattle.prog_tree.specs.Value.{Bindings, holds_of}
use Rattle.prog_tree.specs.Table.{TableState}
use Rattle.prog_tree.specs.Evaluation.{Flow, GoesOn, and_then, with_value, region_of, Turn, turns_of, run_turns, run_statement, run_block}
use Rattle.prog_check.specs.Accesses.{columns_of, next_unknown, accesses_of}
use Rattle.prog_check.specs.Paths.{Route, statement_count, no_steps, passing, body_passed, going_round, choosing, joined, followed_by, routes, accesses_along}
use Rattle.prog_check.specs.Uses.{as_count}
use Rattle.prog_paths.specs.Trails.{unknown_behind}
use Rattle.prog_paths.specs.Choices.{choices_behind, choices_by, choices_taken}
use Rattle.prog_tree.proofs.Elements.{IsMember, member_left, member_right, member_map}
use Rattle.prog_paths.proofs.Segments.{Segment, segment_none, segment_join}
use Rattle.prog_paths.proofs.Numbers.{AllI64, BlockFits}
use Rattle.prog_paths.proofs.SingleCells.{all-append}
use Rattle.prog_tree.specs.Number.{IsI64}
use Rattle.prog_paths.proofs.Ranges.{EnvOfI64, Ranged, TurnsOfI64, listed_i64}
use Rattle.prog_paths.proofs.Walking.{unknown_append, accesses_append}
use Rattle.prog_paths.proofs.Parts.{then_goes, value_goes, seen_in, listed, Did, StatementFollows, ListingFollows, goes_same}
use Rattle.prog_paths.proofs.Rounds.{Turned, close_env, rounds, by_turns, passed_counts, zeros, zeros_i64, zeros_length}
use Rattle.prog_paths.proofs.Values.{Agrees, agrees_first, agrees_behind, EnvFits, assigned, BlockSound, RemovesPlain}

-- ---- routes one behind the other

member_followed : (route later : Route) (xs ys : List Route) → IsMember route xs → IsMember later ys → IsMember (joined route later) (followed_by xs ys)
member_followed route later [] ys h k = absurd h
member_followed route later (x ∷ xs) ys (inl e) k =
    member_left (joined route later) (map (joined x) ys) (followed_by xs ys) (subst (λ z. IsMember (joined route later) (map (joined z) ys)) (sym e) (member_map (joined route) later ys k))
member_followed route later (x ∷ xs) ys (inr h) k = member_right (joined route later) (map (joined x) ys) (followed_by xs ys) (member_followed route later xs ys h k)

module _ (tables : List TableDecl) (m : TableState) (params : List Name) (parameter : ℕ → ℤ) where
  -- ---- what is said of a block

  -- What a run of a block from p to q did: it took a route with these choices.
  pub record Took (number : ℕ) (block : BlockTree) (choices : List Bool) (p q : Progress) : Type 0 where
    pub route : Route
    pub of_block : IsMember route (routes number block)
    pub chosen : route.choices ≡ choices
    pub values : List ℤ
    pub count : (u : ℕ) → unknown_behind params u route.passed ≡ u + length values
    pub segment : BlockFits block → Ranged m p → (f : ℕ → ℤ) (u : ℕ) → Agrees f u values → Segment m (assigned params parameter f) (accesses_along tables params u route.passed) p q
    pub more : Bindings
    pub env : q.env ≡ p.env ++ more
    pub fits : EnvFits params parameter q.env
    pub removes : RemovesPlain tables q.changes
    pub of_i64 : BlockFits block → Ranged m p → AllI64 values × Ranged m q

  -- ---- a statement and then the rest

  through : (number : ℕ) (statement : StatementTree) (rest : BlockTree) (p r : Progress) (route : Route) → run_statement tables m statement p ≡ GoesOn r → IsMember route (routes (number + 1) rest) →
      IsMember (passing number statement route) (routes number (Then statement rest))
  through number s.Abort rest p r route e h = absurd (cc)
  through number statement rest p r route e h = member_map (passing number statement) route (routes (number + 1) rest) h

  took_then : (number : ℕ) (statement : StatementTree) (rest : BlockTree) (p r q : Progress) → run_statement tables m statement p ≡ GoesOn r → Did tables m params parameter number statement p r →
      Took (number + 1) rest (choices_taken tables m rest r) r q → Took number (Then statement rest) (choices_taken tables m (Then statement rest) p) p q
  took_then number statement rest p r q e d t =
      record {
        route = passing number statement t.route;
        of_block = through number statement rest p r t.route e t.of_block;
        chosen = t.chosen ∙ ap (λ f. choices_behind f (choices_taken tables m rest)) (sym e);
        values = d.values ++ t.values;
        count = λ u. t.count (next_unknown u (columns_of params u statement)) ∙ (let a = d.count u in let b = length-append d.values t.values in omega (arith, a, b));
        segment = λ ok before f u h. segment_join m (assigned params parameter f) (accesses_of tables params u true number statement) (accesses_along tables params (next_unknown u (columns_of params u statement)) t.route.passed) p r q
            (d.segment f u (agrees_first f u d.values t.values h))
            (t.segment ok.1 (d.of_i64 ok.0 before).1 f (next_unknown u (columns_of params u statement)) (agrees_behind f u (next_unknown u (columns_of params u statement)) d.values t.values (d.count u) h));
        more = d.more ++ t.more;
        env = t.env ∙ ap (λ l. l ++ t.more) d.env ∙ append_assoc p.env d.more t.more;
        fits = t.fits;
        removes = t.removes;
        of_i64 = λ h r.
            let x = d.of_i64 h.0 r in
            let y = t.of_i64 h.1 x.1 in
            (all-append IsI64 d.values t.values x.0 y.0, y.1);
      }

  -- ---- a branch and then the rest

  -- the number from which the statements of the block are counted
  abbrev block_number : ℕ → BlockTree → Bool → ℕ
  block_number number a true = number + 1
  block_number number a false = number + 1 + statement_count a

  into_branch : (number : ℕ) (test : TestTree) (a b rest : BlockTree) (holds : Bool) (route later : Route) → IsMember route (routes (block_number number a holds) (if holds then a else b)) →
      IsMember later (routes (number + 1 + statement_count a + statement_count b) rest) → IsMember (joined (choosing holds route) later) (routes number (Branch test a b rest))
  into_branch number test a b rest true route later h k =
      member_followed (choosing true route) later _ (routes (number + 1 + statement_count a + statement_count b) rest)
      (member_left (choosing true route) (map (choosing true) (routes (number + 1) a)) (map (choosing false) (routes (number + 1 + statement_count a) b)) (member_map (choosing true) route (routes (number + 1) a) h)) k
  into_branch number test a b rest false route later h k =
      member_followed (choosing false route) later _ (routes (number + 1 + statement_count a + statement_count b) rest)
      (member_right (choosing false route) (map (choosing true) (routes (number + 1) a)) (map (choosing false) (routes (number + 1 + statement_count a) b)) (member_map (choosing false) route (routes (number + 1 + statement_count a) b) h)) k

  -- what a run of one of two blocks does
  abbrev run_one : (a b : BlockTree) → Bool → Progress → Flow
  run_one a b holds p = (if holds then run_block tables m a else run_block tables m b) p

  abbrev choices_one : (a b : BlockTree) → Bool → Progress → List Bool
  choices_one a b holds p = (if holds then choices_taken tables m a else choices_taken tables m b) p

  took_branch : (number : ℕ) (test : TestTree) (a b rest : BlockTree) (p r q : Progress) (holds : Bool) → holds_of test p.env ≡ Some holds → run_one a b holds p ≡ GoesOn r →
      (t : Took (block_number number a holds) (if holds then a else b) (choices_one a b holds p) p r) →
      Took (number + 1 + statement_count a + statement_count b) rest (choices_taken tables m rest (closed (length p.env) r)) (closed (length p.env) r) q →
      Took number (Branch test a b rest) (choices_taken tables m (Branch test a b rest) p) p q
  took_branch number test a b rest p r q holds is goes t l =
      record {
        route = joined (choosing holds t.route) l.route;
        of_block = into_branch number test a b rest holds t.route l.route t.of_block l.of_block;
        chosen = (λ i. holds ∷ (t.chosen i ++ l.chosen i))
            ∙ ap (λ f. holds ∷ (choices_one a b holds p ++ choices_behind f (λ z. choices_taken tables m rest (closed (length p.env) z)))) (sym goes)
            ∙ ap (λ o. choices_by o (λ w. choices_one a b w p ++ choices_behind (run_one a b w p) (λ z. choices_taken tables m rest (closed (length p.env) z)))) (sym is);
        values = t.values ++ l.values;
        count = λ u. unknown_append tables params u t.route.passed l.route.passed ∙ l.count (unknown_behind params u t.route.passed) ∙ (let x = t.count u in let y = length-append t.values l.values in omega (arith, x, y));
        segment = λ ok before f u h. subst (λ accesses. Segment m (assigned params parameter f) accesses p q) (sym (accesses_append tables params u t.route.passed l.route.passed))
            (segment_join m (assigned params parameter f) (accesses_along tables params u t.route.passed) (accesses_along tables params (unknown_behind params u t.route.passed) l.route.passed) p (closed (length p.env) r) q
            (renamed f u (t.segment (one_fits holds ok.0 ok.1) before f u (agrees_first f u t.values l.values h)))
            (l.segment ok.2 (closed_ranged ok before) f (unknown_behind params u t.route.passed) (agrees_behind f u (unknown_behind params u t.route.passed) t.values l.values (t.count u) h)));
        more = l.more;
        env = l.env ∙ ap (λ e. e ++ l.more) (close_env tables m params parameter p r t.more t.env);
        fits = l.fits;
        removes = l.removes;
        of_i64 = λ h before.
            let x = t.of_i64 (one_fits holds h.0 h.1) before in
            let y = l.of_i64 h.2 (closed_ranged h before) in
            (all-append IsI64 t.values l.values x.0 y.0, y.1);
      }
    where
      one_fits : (w : Bool) → BlockFits a → BlockFits b → BlockFits (if w then a else b)
      one_fits true x y = x
      one_fits false x y = y

      closed_ranged : BlockFits (Branch test a b rest) → Ranged m p → Ranged m (closed (length p.env) r)
      closed_ranged ok before =
          let x = t.of_i64 (one_fits holds ok.0 ok.1) before in
          record { rows = before.rows; env = subst EnvOfI64 (sym (close_env tables m params parameter p r t.more t.env)) before.env; changes = x.1.changes }

      renamed : (f : ℕ → ℤ) (u : ℕ) → Segment m (assigned params parameter f) (accesses_along tables params u t.route.passed) p r → Segment m (assigned params parameter f) (accesses_along tables params u t.route.passed) p (closed (length p.env) r)
      renamed f u s = record { look = s.look; change = s.change; keep = s.keep; touched = s.touched; changes_stay = s.changes_stay; keeps_stay = s.keeps_stay }

  -- ---- an `each` and then the rest

  -- the run goes on behind the turns, and a route of the rest behind those of the body
  took_each : (number : ℕ) (l : ListingTree) (body rest : BlockTree) (p z r q : Progress) (turns : List Turn) → run_block tables m (Each l body BlockEnd) p ≡ GoesOn r → Did tables m params parameter number (as_count l) p z → z.env ≡ p.env →
      (Ranged m p → TurnsOfI64 turns) → Turned tables m params parameter (number + 1) body turns z r → Took (number + 1 + statement_count body) rest (choices_taken tables m rest r) r q →
      Took number (Each l body rest) (choices_taken tables m (Each l body rest) p) p q
  took_each number l body rest p z r q turns goes d same ranged w t =
      let xs = body_passed (number + 1) body in
      let ys = t.route.passed in
      let k = passed_counts params xs in
      record {
        route = passing number (as_count l) (going_round (number + 1) body t.route);
        of_block =
            let later = routes (number + 1 + statement_count body) rest in
            member_map (passing number (as_count l)) (going_round (number + 1) body t.route) (map (going_round (number + 1) body) later)
            (member_map (going_round (number + 1) body) t.route later t.of_block);
        chosen = t.chosen ∙ ap (λ f. choices_behind f (choices_taken tables m rest)) (sym goes);
        values = d.values ++ (zeros k.0 ++ t.values);
        count = λ u.
            let next = next_unknown u (columns_of params u (as_count l)) in
            unknown_append tables params next xs ys ∙ t.count (unknown_behind params next xs)
            ∙ (let a = d.count u in let b = k.1 next in let c = length-append d.values (zeros k.0 ++ t.values) in let e = length-append (zeros k.0) t.values in let g = zeros_length k.0 in omega (arith, a, b, c, e, g));
        segment = λ ok before f u h.
            let v = assigned params parameter f in
            let x = d.of_i64 tt before in
            let next = next_unknown u (columns_of params u (as_count l)) in
            let own = agrees_behind f u next d.values (zeros k.0 ++ t.values) (d.count u) h in
            let size : unknown_behind params next xs ≡ next + length (zeros k.0) = (let b = k.1 next in let g = zeros_length k.0 in omega (arith, b, g)) in
            segment_join m v (accesses_of tables params u true number (as_count l)) (accesses_along tables params next (xs ++ ys)) p z q
            (d.segment f u (agrees_first f u d.values (zeros k.0 ++ t.values) h))
            (subst (λ accesses. Segment m v accesses z q) (sym (accesses_append tables params next xs ys))
            (segment_join m v (accesses_along tables params next xs) (accesses_along tables params (unknown_behind params next xs) ys) z r q
            (w.segment ok.0 (ranged before) x.1 f next)
            (t.segment ok.1 (w.of_i64 ok.0 (ranged before) x.1) f (unknown_behind params next xs) (agrees_behind f next (unknown_behind params next xs) (zeros k.0) t.values size own))));
        more = t.more;
        env = t.env ∙ ap (λ e. e ++ t.more) (w.env ∙ same);
        fits = t.fits;
        removes = t.removes;
        of_i64 = λ ok before.
            let x = d.of_i64 tt before in
            let y = t.of_i64 ok.1 (w.of_i64 ok.0 (ranged before) x.1) in
            (all-append IsI64 d.values (zeros k.0 ++ t.values) x.0 (all-append IsI64 (zeros k.0) t.values (zeros_i64 k.0) y.0), y.1);
      }

  -- the listing and its turns alone
  each_goes : (l : ListingTree) (body : BlockTree) (p r : Progress) (region : Region) → region_of (number_of tables l.table) l.range p.env ≡ Some region →
      run_turns l (run_block tables m body) (turns_of l.range (seen_in m region p)) (listed m region p) ≡ GoesOn r → run_block tables m (Each l body BlockEnd) p ≡ GoesOn r
  each_goes l body p r region is turned =
      (λ i. with_value (is i) p (λ g. and_then (run_turns l (run_block tables m body) (turns_of l.range (seen_in m g p)) (listed m g p)) (run_block tables m BlockEnd)))
      ∙ ap (λ f. and_then f (run_block tables m BlockEnd)) turned

  -- ---- blocks

  module _ (statement_follows : StatementFollows tables m params parameter) (listing_follows : ListingFollows tables m params parameter) where
    pub block_follows : (number : ℕ) (block : BlockTree) (p q : Progress) → run_block tables m block p ≡ GoesOn q → BlockSound tables params block → EnvFits params parameter p.env → RemovesPlain tables p.changes →
        Took number block (choices_taken tables m block p) p q
    block_follows number BlockEnd p q e sound fits removes = at_end number p q (goes_same p q e) fits removes
      where
        at_end : (number : ℕ) (p q : Progress) → p ≡ q → EnvFits params parameter p.env → RemovesPlain tables p.changes → Took number BlockEnd [] p q
        at_end number p q e fits removes =
            subst (λ z. Took number BlockEnd [] p z) e
            (record {
              route = no_steps;
              of_block = inl refl;
              chosen = refl;
              values = [];
              count = λ u. omega arith;
              segment = λ ok before f u h. segment_none m (assigned params parameter f) p p refl refl;
              more = [];
              env = sym (append-nil p.env);
              fits = fits;
              removes = removes;
              of_i64 = λ h r. (tt, r);
            })
    block_follows number (Then statement rest) p q e sound fits removes =
        let c = then_goes (run_statement tables m statement p) (run_block tables m rest) q e in
        let d = statement_follows number statement p c.0 c.1 sound.0 fits removes in
        took_then number statement rest p c.0 q c.1 d (block_follows (number + 1) rest c.0 q c.2 sound.1 d.fits d.removes)
    block_follows number (Branch test a b rest) p q e sound fits removes =
        let c = value_goes (holds_of test p.env) p (λ holds. and_then (run_one a b holds p) (λ z. run_block tables m rest (closed (length p.env) z))) q e in
        let g = then_goes (run_one a b c.0 p) (λ z. run_block tables m rest (closed (length p.env) z)) q c.2 in
        let t = either c.0 g.0 g.1 (λ r h. block_follows (number + 1) a p r h sound.0 fits removes) (λ r h. block_follows (number + 1 + statement_count a) b p r h sound.1 fits removes) in
        took_branch number test a b rest p g.0 q c.0 c.1 g.1 t
        (block_follows (number + 1 + statement_count a + statement_count b) rest (closed (length p.env) g.0) q g.2 sound.2
        (subst (EnvFits params parameter) (sym (close_env tables m params parameter p g.0 t.more t.env)) fits) t.removes)
      where
        either : (holds : Bool) (r : Progress) → run_one a b holds p ≡ GoesOn r →
            ((r : Progress) → run_block tables m a p ≡ GoesOn r → Took (number + 1) a (choices_taken tables m a p) p r) →
            ((r : Progress) → run_block tables m b p ≡ GoesOn r → Took (number + 1 + statement_count a) b (choices_taken tables m b p) p r) →
            Took (block_number number a holds) (if holds then a else b) (choices_one a b holds p) p r
        either true r h f g = f r h
        either false r h f g = g r h
    block_follows number (Each l body rest) p q e sound fits removes =
        let c = value_goes (region_of (number_of tables l.table) l.range p.env) p _ q e in
        let z = listed m c.0 p in
        let turns = turns_of l.range (seen_in m c.0 p) in
        let g = then_goes (run_turns l (run_block tables m body) turns z) (run_block tables m rest) q c.2 in
        let d = listing_follows number l c.0 p c.1 fits removes in
        let w = by_turns tables m params parameter (number + 1) l body (λ x y h k i. rounds tables m params parameter statement_follows listing_follows (number + 1) body x y h sound.2 k i) sound.0 sound.1 turns z g.0 g.1 d.fits d.removes in
        took_each number l body rest p z g.0 q turns (each_goes l body p g.0 c.0 c.1 g.1) d refl (λ before. listed_i64 m p c.0 l.range before) w
        (block_follows (number + 1 + statement_count body) rest g.0 q g.2 sound.3 w.fits w.removes)
