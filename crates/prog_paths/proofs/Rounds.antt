-- A run of a body makes its accesses at some times, whichever they are: in each turn with the values of that turn.
use Rattle.std.proofs.Common.{◌≡◌, ℕ, zero, suc, ◌+◌, ◌-◌, Bool, true, false, List, [], ◌∷◌, ◌++◌, inl, inr, ◌⊎◌, length, map, take, refl, sym, subst, ap, ◌∙◌, arith, append_assoc, append-nil, true≢false}
use Rattle.std.specs.Prelude.{ℤ, pos, Option, Some, None, if◌then◌else◌}
use Rattle.std.proofs.Math.Seq.{take-append_seam}
use Rattle.prog_tree.specs.declared.cell.Cell.{Cell}
use Rattle.prog_tree.specs.declared.progress.Progress.{Progress}
use Rattle.prog_tree.specs.declared.table.TableDecl.{TableDecl}
use Rattle.prog_tree.specs.Syntax.{Name, TestTree, ListingTree, StatementTree, BlockTree, BlockEnd, Then, Branch, Each}
use Rattle.prog_tree.specs.Numbering.{number_of}
use Rattle.prog_tree.specs.Number.{IsI64}
use Rattle.prog_tree.proofs.NumberLaws.{i64_is_tested}
use Rattle.prog_tree.specs.Steps.{closed}
use Rattle.prog_tree.specs.Value.{Bindings, holds_of}
use Rattle.prog_tree.specs.Table.{TableState}
use Rattle.prog_tree.specs.Evaluation.{Flow, GoesOn, and_then, region_of, Turn, turns_of, begun_turn, run_turns, run_statement, run_block}
use Rattle.prog_check.specs.declared.path.Access.{Access}
use Rattle.prog_check.specs.declared.path.Kind.{Kind}
use Rattle.prog_check.specs.Accesses.{Columns, columns_of, next_unknown, kinds_at, access_of, accesses_to, accesses_of}
use Rattle.prog_check.specs.Paths.{Passed, statement_count, body_passed, accesses_along}
use Rattle.prog_check.specs.Uses.{as_count}
use Rattle.prog_paths.specs.Meeting.{Assignment, IsOf, MayCover, with_own, IsTimeOf, IsOfOwn}
use Rattle.prog_paths.specs.Trails.{unknown_behind}
use Rattle.prog_paths.proofs.Numbers.{AllI64, BlockFits}
use Rattle.prog_paths.proofs.Own.{owned_here, law_of_values}
use Rattle.prog_paths.proofs.Parts.{then_goes, value_goes, seen_in, listed, Did, StatementFollows, ListingFollows, statement_counts, goes_same}
use Rattle.prog_paths.proofs.Ranges.{nth_i64, EnvOfI64, Ranged, env_push, TurnsOfI64, listed_i64}
use Rattle.prog_tree.proofs.Elements.{IsMember, member_left, member_right, member_either}
use Rattle.prog_paths.proofs.Segments.{Segment, segment_none, segment_into, segment_join}
use Rattle.prog_paths.proofs.Values.{Agrees, nth, EnvFits, assigned, IsApart, fits_push, BlockSound, RemovesPlain}
use Rattle.prog_paths.proofs.Walking.{accesses_append}

-- ---- values from an unknown on

agrees_all : (f : ℕ → ℤ) (u : ℕ) (xs : List ℤ) → ((i : ℕ) → f (u + i) ≡ nth xs i) → Agrees f u xs
agrees_all f u [] h = tt
agrees_all f u (x ∷ xs) h =
    let here : u ≡ u + 0 = omega arith in
    (ap f here ∙ h 0, agrees_all f (suc u) xs (λ i. let later : suc u + i ≡ u + suc i = omega arith in ap f later ∙ h (suc i)))

-- the values of these from an unknown on
abbrev from_on : ℕ → List ℤ → ℕ → ℤ
from_on u xs n = nth xs (n - u)

agrees_from : (u : ℕ) (xs : List ℤ) → Agrees (from_on u xs) u xs
agrees_from u xs = agrees_all (from_on u xs) u xs (λ i. let same : u + i - u ≡ i = omega arith in ap (nth xs) same)

-- ---- the accesses of a body's statement

-- the same access, made in a body
abbrev loose : Access → Access
loose a = record a { sure = false }

module _ (tables : List TableDecl) (params : List Name) where
  loose_kinds : (number : ℕ) (st : StatementTree) (c : Columns) (kinds : List Kind) (a : Access) → IsMember a (map (access_of tables true number st c) kinds) → IsMember (loose a) (map (access_of tables false number st c) kinds)
  loose_kinds number st c [] a m = absurd m
  loose_kinds number st c (k ∷ ks) a (inl e) = inl (ap loose e)
  loose_kinds number st c (k ∷ ks) a (inr m) = inr (loose_kinds number st c ks a m)

  loose_to : (number : ℕ) (st : StatementTree) (c : Option Columns) (a : Access) → IsMember a (accesses_to tables true number st c) → IsMember (loose a) (accesses_to tables false number st c)
  loose_to number st None a m = absurd m
  loose_to number st (Some c) a m = loose_kinds number st c (kinds_at tables st) a m

  loose_member : (u number : ℕ) (st : StatementTree) (a : Access) → IsMember a (accesses_of tables params u true number st) → IsMember (loose a) (accesses_of tables params u false number st)
  loose_member u number st a m = loose_to number st (columns_of params u st) a m

  sure_is : (u : ℕ) (sure : Bool) (number : ℕ) (st : StatementTree) (a : Access) → IsMember a (accesses_of tables params u sure number st) → a.sure ≡ sure
  sure_is u sure number st a m = (owned_here params tables u (record { number = number; sure = sure; statement = st }) a m).same

  -- ---- a body has no access that covers

  abbrev AllLoose : List Passed → Type 0
  AllLoose [] = Unit {0}
  AllLoose (p ∷ ps) = (p.sure ≡ false) × AllLoose ps

  loose_append : (xs ys : List Passed) → AllLoose xs → AllLoose ys → AllLoose (xs ++ ys)
  loose_append [] ys h k = k
  loose_append (x ∷ xs) ys h k = (h.0, loose_append xs ys h.1 k)

  body_loose : (number : ℕ) (block : BlockTree) → AllLoose (body_passed number block)
  body_loose number BlockEnd = tt
  body_loose number (Then st rest) = (refl, body_loose (number + 1) rest)
  body_loose number (Branch test a b rest) =
      let first = body_passed (number + 1) a in
      let second = body_passed (number + 1 + statement_count a) b in
      let later = body_passed (number + 1 + statement_count a + statement_count b) rest in
      loose_append (first ++ second) later (loose_append first second (body_loose (number + 1) a) (body_loose (number + 1 + statement_count a) b)) (body_loose (number + 1 + statement_count a + statement_count b) rest)
  body_loose number (Each l body rest) =
      (refl, loose_append (body_passed (number + 1) body) (body_passed (number + 1 + statement_count body) rest) (body_loose (number + 1) body) (body_loose (number + 1 + statement_count body) rest))

  none_covers : (u : ℕ) (ps : List Passed) → AllLoose ps → (a : Access) → IsMember a (accesses_along tables params u ps) → MayCover a → ⊥
  none_covers u [] h a m k = absurd m
  none_covers u (p ∷ ps) h a m k =
      go (none_covers (next_unknown u (columns_of params u p.statement)) ps h.1 a) (member_either a (accesses_of tables params u p.sure p.number p.statement) (accesses_along tables params (next_unknown u (columns_of params u p.statement)) ps) m)
    where
      go : (IsMember a (accesses_along tables params (next_unknown u (columns_of params u p.statement)) ps) → MayCover a → ⊥) →
          IsMember a (accesses_of tables params u p.sure p.number p.statement) ⊎ IsMember a (accesses_along tables params (next_unknown u (columns_of params u p.statement)) ps) → ⊥
      go later (inl x) = true≢false (sym k.0 ∙ sure_is u p.sure p.number p.statement a x ∙ h.0)
      go later (inr x) = later x k

-- ---- times

-- what a sure access holds, it holds under the assignment itself
at_own : (a : Access) (v : Assignment) (c : Cell) → a.sure ≡ true → IsOfOwn v a c → IsOf v a c
at_own a v c sure h =
    let itself : h.0 ≡ v = subst (λ (b : Bool). IsTimeOf b a v h.0) sure h.1 in
    subst (λ (w : Assignment). IsOf w a c) itself h.2

-- what the values of one run hold, the access of a body holds at their time
at_time : (a : Access) (v : Assignment) (values : ℕ → ℤ) (c : Cell) → ((n : ℕ) → IsI64 (values n)) → IsOf (record { parameter = v.parameter; unknown = values }) a c → IsOfOwn v (loose a) c
at_time a v values c ok h =
    (with_own (loose a) values v, (values, ok, refl), law_of_values (loose a) c v values (record { table = h.table; first = h.first; second = h.second }))

module _ (tables : List TableDecl) (m : TableState) (params : List Name) (parameter : ℕ → ℤ) where
  -- ---- one statement of a body

  loosened : (number : ℕ) (st : StatementTree) (p q : Progress) (d : Did tables m params parameter number st p q) → AllI64 d.values → (f : ℕ → ℤ) (u : ℕ) →
      Segment m (assigned params parameter f) (accesses_of tables params u false number st) p q
  loosened number st p q d ok f u =
      let values = from_on u d.values in
      let v = assigned params parameter values in
      segment_into m v (assigned params parameter f) (accesses_of tables params u true number st) (accesses_of tables params u false number st) p q
      (λ a member c own. (
        loose a,
        loose_member tables params u number st a member,
        at_time a (assigned params parameter f) values c (λ n. nth_i64 d.values ok (n - u)) (at_own a v c (sure_is tables params u true number st a member) own),
        refl,
      ))
      (λ a member covers. true≢false (sym covers.0 ∙ sure_is tables params u false number st a member))
      (d.segment values u (agrees_from u d.values))

  -- a part of a body's accesses holds no more than all of them
  widened : (v : Assignment) (u : ℕ) (xs : List Access) (ps : List Passed) (p q : Progress) → AllLoose tables params ps → ((a : Access) → IsMember a xs → IsMember a (accesses_along tables params u ps)) →
      Segment m v xs p q → Segment m v (accesses_along tables params u ps) p q
  widened v u xs ps p q bare into s =
      segment_into m v v xs (accesses_along tables params u ps) p q (λ a member c own. (a, into a member, own, refl)) (none_covers tables params u ps bare) s

  -- names may end, or be bound, beside a segment
  renamed : (v : Assignment) (xs : List Access) (p q : Progress) (before after : Bindings) → Segment m v xs p q → Segment m v xs (record p { env = before }) (record q { env = after })
  renamed v xs p q before after s = record { look = s.look; change = s.change; keep = s.keep; touched = s.touched; changes_stay = s.changes_stay; keeps_stay = s.keeps_stay }

  -- ---- what is said of a body

  -- What a run of a body from p to q did, in one turn. It made the body's accesses at some times, whatever its unknowns are.
  pub record Round (number : ℕ) (block : BlockTree) (p q : Progress) : Type 0 where
    pub segment : BlockFits block → Ranged m p → (f : ℕ → ℤ) (u : ℕ) → Segment m (assigned params parameter f) (accesses_along tables params u (body_passed number block)) p q
    pub more : Bindings
    pub env : q.env ≡ p.env ++ more
    pub fits : EnvFits params parameter q.env
    pub removes : RemovesPlain tables q.changes
    pub of_i64 : BlockFits block → Ranged m p → Ranged m q

  -- what the turns of an `each` from p to q did
  pub record Turned (number : ℕ) (body : BlockTree) (turns : List Turn) (p q : Progress) : Type 0 where
    pub segment : BlockFits body → TurnsOfI64 turns → Ranged m p → (f : ℕ → ℤ) (u : ℕ) → Segment m (assigned params parameter f) (accesses_along tables params u (body_passed number body)) p q
    pub env : q.env ≡ p.env
    pub fits : EnvFits params parameter q.env
    pub removes : RemovesPlain tables q.changes
    pub of_i64 : BlockFits body → TurnsOfI64 turns → Ranged m p → Ranged m q

  -- the end of a block
  pub close_env : (p r : Progress) (more : Bindings) → r.env ≡ p.env ++ more → (closed (length p.env) r).env ≡ p.env
  close_env p r more e = ap (take (length p.env)) e ∙ take-append_seam p.env more

  closed_ranged : (p r : Progress) (more : Bindings) → r.env ≡ p.env ++ more → Ranged m p → Ranged m r → Ranged m (closed (length p.env) r)
  closed_ranged p r more e before after = record { rows = before.rows; env = subst EnvOfI64 (sym (close_env p r more e)) before.env; changes = after.changes }

  -- ---- one statement, and then the rest

  round_end : (number : ℕ) (p q : Progress) → p ≡ q → EnvFits params parameter p.env → RemovesPlain tables p.changes → Round number BlockEnd p q
  round_end number p q e fits removes =
      subst (λ z. Round number BlockEnd p z) e
      (record {
        segment = λ ok before f u. segment_none m (assigned params parameter f) p p refl refl;
        more = [];
        env = sym (append-nil p.env);
        fits = fits;
        removes = removes;
        of_i64 = λ ok before. before;
      })

  round_then : (number : ℕ) (st : StatementTree) (rest : BlockTree) (p r q : Progress) → Did tables m params parameter number st p r → Round (number + 1) rest r q → Round number (Then st rest) p q
  round_then number st rest p r q d t =
      record {
        segment = λ ok before f u.
            let x = d.of_i64 ok.0 before in
            let next = next_unknown u (columns_of params u st) in
            segment_join m (assigned params parameter f) (accesses_of tables params u false number st) (accesses_along tables params next (body_passed (number + 1) rest)) p r q
            (loosened number st p r d x.0 f u) (t.segment ok.1 x.1 f next);
        more = d.more ++ t.more;
        env = t.env ∙ ap (λ l. l ++ t.more) d.env ∙ append_assoc p.env d.more t.more;
        fits = t.fits;
        removes = t.removes;
        of_i64 = λ ok before. t.of_i64 ok.1 (d.of_i64 ok.0 before).1;
      }

  -- ---- a branch: both blocks' accesses are there, whichever is taken

  abbrev run_one : (a b : BlockTree) → Bool → Progress → Flow
  run_one a b holds p = (if holds then run_block tables m a else run_block tables m b) p

  -- a run of one of both blocks
  record OneRound (number : ℕ) (a b : BlockTree) (p r : Progress) : Type 0 where
    segment : BlockFits a → BlockFits b → Ranged m p → (f : ℕ → ℤ) (u : ℕ) → Segment m (assigned params parameter f) (accesses_along tables params u (body_passed (number + 1) a ++ body_passed (number + 1 + statement_count a) b)) p r
    more : Bindings
    env : r.env ≡ p.env ++ more
    removes : RemovesPlain tables r.changes
    of_i64 : BlockFits a → BlockFits b → Ranged m p → Ranged m r

  one_round : (number : ℕ) (a b : BlockTree) (p r : Progress) (holds : Bool) → run_one a b holds p ≡ GoesOn r →
      (run_block tables m a p ≡ GoesOn r → Round (number + 1) a p r) → (run_block tables m b p ≡ GoesOn r → Round (number + 1 + statement_count a) b p r) → OneRound number a b p r
  one_round number a b p r true e first second =
      let t = first e in
      let xs = body_passed (number + 1) a in
      let ys = body_passed (number + 1 + statement_count a) b in
      record {
        segment = λ ok other before f u.
            let own = accesses_along tables params u xs in
            let later = accesses_along tables params (unknown_behind params u xs) ys in
            widened (assigned params parameter f) u own (xs ++ ys) p r (loose_append tables params xs ys (body_loose tables params (number + 1) a) (body_loose tables params (number + 1 + statement_count a) b))
            (λ x member. subst (IsMember x) (sym (accesses_append tables params u xs ys)) (member_left x own later member)) (t.segment ok before f u);
        more = t.more;
        env = t.env;
        removes = t.removes;
        of_i64 = λ ok other before. t.of_i64 ok before;
      }
  one_round number a b p r false e first second =
      let t = second e in
      let xs = body_passed (number + 1) a in
      let ys = body_passed (number + 1 + statement_count a) b in
      record {
        segment = λ other ok before f u.
            let own = accesses_along tables params u xs in
            let later = accesses_along tables params (unknown_behind params u xs) ys in
            widened (assigned params parameter f) u later (xs ++ ys) p r (loose_append tables params xs ys (body_loose tables params (number + 1) a) (body_loose tables params (number + 1 + statement_count a) b))
            (λ x member. subst (IsMember x) (sym (accesses_append tables params u xs ys)) (member_right x own later member)) (t.segment ok before f (unknown_behind params u xs));
        more = t.more;
        env = t.env;
        removes = t.removes;
        of_i64 = λ other ok before. t.of_i64 ok before;
      }

  round_branch : (number : ℕ) (test : TestTree) (a b rest : BlockTree) (p r q : Progress) → OneRound number a b p r → Round (number + 1 + statement_count a + statement_count b) rest (closed (length p.env) r) q → Round number (Branch test a b rest) p q
  round_branch number test a b rest p r q t l =
      let xs = body_passed (number + 1) a ++ body_passed (number + 1 + statement_count a) b in
      let ys = body_passed (number + 1 + statement_count a + statement_count b) rest in
      record {
        segment = λ ok before f u.
            let v = assigned params parameter f in
            let after = closed_ranged p r t.more t.env before (t.of_i64 ok.0 ok.1 before) in
            subst (λ accesses. Segment m v accesses p q) (sym (accesses_append tables params u xs ys))
            (segment_join m v (accesses_along tables params u xs) (accesses_along tables params (unknown_behind params u xs) ys) p (closed (length p.env) r) q
            (renamed v (accesses_along tables params u xs) p r p.env (closed (length p.env) r).env (t.segment ok.0 ok.1 before f u)) (l.segment ok.2 after f (unknown_behind params u xs)));
        more = l.more;
        env = l.env ∙ ap (λ e. e ++ l.more) (close_env p r t.more t.env);
        fits = l.fits;
        removes = l.removes;
        of_i64 = λ ok before. l.of_i64 ok.2 (closed_ranged p r t.more t.env before (t.of_i64 ok.0 ok.1 before));
      }

  -- ---- the turns of an `each`

  turned_none : (number : ℕ) (body : BlockTree) (p q : Progress) → p ≡ q → EnvFits params parameter p.env → RemovesPlain tables p.changes → Turned number body [] p q
  turned_none number body p q e fits removes =
      subst (λ z. Turned number body [] p z) e
      (record {
        segment = λ ok turns before f u.
            widened (assigned params parameter f) u [] (body_passed number body) p p (body_loose tables params number body) (λ a member. absurd member) (segment_none m (assigned params parameter f) p p refl refl);
        env = refl;
        fits = fits;
        removes = removes;
        of_i64 = λ ok turns before. before;
      })

  -- the names of a turn
  abbrev turn_names : ListingTree → Turn → Bindings → Bindings
  turn_names l turn more = (l.key, turn.0) ∷ (l.value, turn.1) ∷ more

  turn_env : (l : ListingTree) (turn : Turn) (p r : Progress) (more : Bindings) → r.env ≡ (begun_turn l turn p).env ++ more → r.env ≡ p.env ++ turn_names l turn more
  turn_env l turn p r more e = e ∙ append_assoc (p.env ++ (l.key, turn.0) ∷ []) ((l.value, turn.1) ∷ []) more ∙ append_assoc p.env ((l.key, turn.0) ∷ []) ((l.value, turn.1) ∷ more)

  begun_ranged : (l : ListingTree) (turn : Turn) (p : Progress) → IsI64 turn.0 → IsI64 turn.1 → Ranged m p → Ranged m (begun_turn l turn p)
  begun_ranged l turn p key value before =
      record { rows = before.rows; env = env_push (p.env ++ (l.key, turn.0) ∷ []) l.value turn.1 (env_push p.env l.key turn.0 before.env key) value; changes = before.changes }

  -- one more turn before the others
  turned_more : (number : ℕ) (l : ListingTree) (body : BlockTree) (turn : Turn) (turns : List Turn) (p r q : Progress) → (t : Round number body (begun_turn l turn p) r) →
      Turned number body turns (closed (length p.env) r) q → Turned number body (turn ∷ turns) p q
  turned_more number l body turn turns p r q t w =
      let named = turn_env l turn p r t.more t.env in
      record {
        segment = λ ok of_i64 before f u.
            let v = assigned params parameter f in
            let own = accesses_along tables params u (body_passed number body) in
            let begun = begun_ranged l turn p of_i64.0.0 of_i64.0.1 before in
            let after = closed_ranged p r (turn_names l turn t.more) named before (t.of_i64 ok begun) in
            widened v u (own ++ own) (body_passed number body) p q (body_loose tables params number body) (λ a member. one_of a own (member_either a own own member))
            (segment_join m v own own p (closed (length p.env) r) q
            (renamed v own (begun_turn l turn p) r p.env (closed (length p.env) r).env (t.segment ok begun f u)) (w.segment ok of_i64.1 after f u));
        env = w.env ∙ close_env p r (turn_names l turn t.more) named;
        fits = w.fits;
        removes = w.removes;
        of_i64 = λ ok of_i64 before.
            w.of_i64 ok of_i64.1 (closed_ranged p r (turn_names l turn t.more) named before (t.of_i64 ok (begun_ranged l turn p of_i64.0.0 of_i64.0.1 before)));
      }
    where
      one_of : (a : Access) (own : List Access) → IsMember a own ⊎ IsMember a own → IsMember a own
      one_of a own (inl h) = h
      one_of a own (inr h) = h

  pub by_turns : (number : ℕ) (l : ListingTree) (body : BlockTree) → ((p q : Progress) → run_block tables m body p ≡ GoesOn q → EnvFits params parameter p.env → RemovesPlain tables p.changes → Round number body p q) →
      IsApart params l.key → IsApart params l.value → (turns : List Turn) (p q : Progress) → run_turns l (run_block tables m body) turns p ≡ GoesOn q → EnvFits params parameter p.env → RemovesPlain tables p.changes → Turned number body turns p q
  by_turns number l body one key value [] p q e fits removes = turned_none number body p q (goes_same p q e) fits removes
  by_turns number l body one key value (turn ∷ turns) p q e fits removes =
      let begun = begun_turn l turn p in
      let c = then_goes (run_block tables m body begun) (λ z. run_turns l (run_block tables m body) turns (closed (length p.env) z)) q e in
      let t = one begun c.0 c.1 (fits_push params parameter (p.env ++ (l.key, turn.0) ∷ []) l.value turn.1 value (fits_push params parameter p.env l.key turn.0 key fits)) removes in
      let close = close_env p c.0 (turn_names l turn t.more) (turn_env l turn p c.0 t.more t.env) in
      turned_more number l body turn turns p c.0 q t (by_turns number l body one key value turns (closed (length p.env) c.0) q c.2 (subst (EnvFits params parameter) (sym close) fits) t.removes)

  -- ---- an `each` in a body, and then the rest

  round_each : (number : ℕ) (l : ListingTree) (body rest : BlockTree) (p z r q : Progress) (turns : List Turn) → Did tables m params parameter number (as_count l) p z → z.env ≡ p.env → (Ranged m p → TurnsOfI64 turns) →
      Turned (number + 1) body turns z r → Round (number + 1 + statement_count body) rest r q → Round number (Each l body rest) p q
  round_each number l body rest p z r q turns d same ranged w t =
      let xs = body_passed (number + 1) body in
      let ys = body_passed (number + 1 + statement_count body) rest in
      record {
        segment = λ ok before f u.
            let v = assigned params parameter f in
            let x = d.of_i64 tt before in
            let next = next_unknown u (columns_of params u (as_count l)) in
            segment_join m v (accesses_of tables params u false number (as_count l)) (accesses_along tables params next (xs ++ ys)) p z q
            (loosened number (as_count l) p z d x.0 f u)
            (subst (λ accesses. Segment m v accesses z q) (sym (accesses_append tables params next xs ys))
            (segment_join m v (accesses_along tables params next xs) (accesses_along tables params (unknown_behind params next xs) ys) z r q
            (w.segment ok.0 (ranged before) x.1 f next) (t.segment ok.1 (w.of_i64 ok.0 (ranged before) x.1) f (unknown_behind params next xs))));
        more = t.more;
        env = t.env ∙ ap (λ e. e ++ t.more) (w.env ∙ same);
        fits = t.fits;
        removes = t.removes;
        of_i64 = λ ok before. t.of_i64 ok.1 (w.of_i64 ok.0 (ranged before) (d.of_i64 tt before).1);
      }

  -- ---- bodies

  module _ (statement_follows : StatementFollows tables m params parameter) (listing_follows : ListingFollows tables m params parameter) where
    pub rounds : (number : ℕ) (block : BlockTree) (p q : Progress) → run_block tables m block p ≡ GoesOn q → BlockSound tables params block → EnvFits params parameter p.env → RemovesPlain tables p.changes → Round number block p q
    rounds number BlockEnd p q e sound fits removes = round_end number p q (goes_same p q e) fits removes
    rounds number (Then st rest) p q e sound fits removes =
        let c = then_goes (run_statement tables m st p) (run_block tables m rest) q e in
        let d = statement_follows number st p c.0 c.1 sound.0 fits removes in
        round_then number st rest p c.0 q d (rounds (number + 1) rest c.0 q c.2 sound.1 d.fits d.removes)
    rounds number (Branch test a b rest) p q e sound fits removes =
        let c = value_goes (holds_of test p.env) p (λ holds. and_then (run_one a b holds p) (λ z. run_block tables m rest (closed (length p.env) z))) q e in
        let g = then_goes (run_one a b c.0 p) (λ z. run_block tables m rest (closed (length p.env) z)) q c.2 in
        let t = one_round number a b p g.0 c.0 g.1 (λ h. rounds (number + 1) a p g.0 h sound.0 fits removes) (λ h. rounds (number + 1 + statement_count a) b p g.0 h sound.1 fits removes) in
        round_branch number test a b rest p g.0 q t
        (rounds (number + 1 + statement_count a + statement_count b) rest (closed (length p.env) g.0) q g.2 sound.2 (subst (EnvFits params parameter) (sym (close_env p g.0 t.more t.env)) fits) t.removes)
    rounds number (Each l body rest) p q e sound fits removes =
        let c = value_goes (region_of (number_of tables l.table) l.range p.env) p _ q e in
        let z = listed m c.0 p in
        let turns = turns_of l.range (seen_in m c.0 p) in
        let g = then_goes (run_turns l (run_block tables m body) turns z) (run_block tables m rest) q c.2 in
        let d = listing_follows number l c.0 p c.1 fits removes in
        let w = by_turns (number + 1) l body (λ x y h k i. rounds (number + 1) body x y h sound.2 k i) sound.0 sound.1 turns z g.0 g.1 d.fits d.removes in
        round_each number l body rest p z g.0 q turns d refl (λ before. listed_i64 m p c.0 l.range before) w (rounds (number + 1 + statement_count body) rest g.0 q g.2 sound.3 w.fits w.removes)

-- ---- unknowns of a body, which no value of the path goes to

pub passed_counts : (params : List Name) (ps : List Passed) → (k : ℕ) × ((u : ℕ) → unknown_behind params u ps ≡ u + k)
passed_counts params [] = (0, λ u. omega arith)
passed_counts params (p ∷ ps) =
    let x = statement_counts params p.statement in
    let y = passed_counts params ps in
    (x.0 + y.0, λ u. y.1 (next_unknown u (columns_of params u p.statement)) ∙ (let h = x.1 u in omega (arith, h)))

abbrev pub zeros : ℕ → List ℤ
zeros zero = []
zeros (suc k) = pos 0 ∷ zeros k

pub zeros_length : (k : ℕ) → length (zeros k) ≡ k
zeros_length zero = refl
zeros_length (suc k) = ap suc (zeros_length k)

pub zeros_i64 : (k : ℕ) → AllI64 (zeros k)
zeros_i64 zero = tt
zeros_i64 (suc k) = ((i64_is_tested (pos 0)).0 refl, zeros_i64 k)
