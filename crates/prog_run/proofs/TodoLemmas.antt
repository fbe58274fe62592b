-- Laws of what is left of a run.
use Rattle.std.proofs.Common.{◌≡◌, ℕ, zero, suc, ◌+◌, ◌*◌, ◌<◌, ◌≤◌, subst, List, [], ◌∷◌, ◌++◌, refl, ap, sym, ◌∙◌, true, false, length, take, drop, arith}
use Rattle.std.specs.Prelude.{Bool, if◌then◌else◌, Option, Some, None}
use Rattle.std.proofs.lemmas.Grind.{fold-append}
use Rattle.std.proofs.lemmas.List.{take_all}
use Rattle.prog_tree.specs.declared.cell.Region.{Region}
use Rattle.prog_tree.specs.declared.deed.Cause.TheVariants.{Overflow}
use Rattle.prog_tree.specs.declared.deed.Deed.TheVariants.{Listed}
use Rattle.prog_tree.specs.declared.deed.End.TheVariants.{Ready}
use Rattle.prog_tree.specs.declared.look.Look.TheVariants as look
use Rattle.prog_tree.specs.declared.progress.Progress.{Progress}
use Rattle.prog_tree.specs.declared.table.TableDecl.{TableDecl}
use Rattle.prog_tree.specs.Numbering.{number_of}
use Rattle.prog_tree.specs.Syntax.{ListingTree, StatementTree, BlockTree, BlockEnd, Then, Branch, Each, TestTree}
use Rattle.prog_tree.specs.Value.{holds_of}
use Rattle.prog_tree.specs.Table.{TableState}
use Rattle.prog_tree.specs.Steps.{closed, did, looked}
use Rattle.prog_tree.specs.Evaluation.{Flow, GoesOn, Stops, and_then, Turn, turns_of, begun_turn, run_turns, run_statement, run_block, with_value, ended, region_of, own_cells, rows_left, rows_seen}
use Rattle.prog_run.specs.Todo.{TurnsTree, OpenTree, CursorTree, named, head_of, finish_turns, finish_block, finish_all, todo, weight, turns_weight, open_weight, weight_of_all, weight_left, listed, next_turn, in_turn, with_rest, inside}
use Rattle.prog_run.specs.Cursor.{IsLocalStep, SameTodo, KeepsStore}
use Rattle.prog_run.specs.declared.cursor.Standing.TheVariants.{Moved, Over}
use Rattle.prog_run.proofs.FrontLemmas.{begins_same}

-- inside a block of a branch, before which so many names are bound
abbrev pub entered : BlockTree → ℕ → BlockTree → CursorTree → CursorTree
entered block scope rest c = inside (record { rest = block; scope = scope; turns = None }) rest c

pub and_then_assoc : (f : Flow) (g h : Progress → Flow) → and_then (and_then f g) h ≡ and_then f (λ q. and_then (g q) h)
and_then_assoc (GoesOn p) g h = refl
and_then_assoc (Stops cause p) g h = refl

-- names that were cut are not cut again
take_twice : {A : Type 0} (n : ℕ) (xs : List A) → take n (take n xs) ≡ take n xs
take_twice zero xs = refl
take_twice (suc n) [] = refl
take_twice (suc n) (x ∷ xs) = ap (λ ys. x ∷ ys) (take_twice n xs)

-- all names are those up to their number
closed_all : (p : Progress) → closed (length p.env) p ≡ p
closed_all p = ap (λ env. record p { env = env }) (take_all (length p.env) p.env (omega arith))

module _ (tables : List TableDecl) (m : TableState) where
  -- what comes after the rest of the innermost block
  abbrev after_rest : CursorTree → Progress → Flow
  after_rest c q = and_then (finish_turns tables m c.here.turns (closed c.here.scope q)) (finish_all tables m c.outer)

  -- what is left before a statement is the statement, and then what is left after it
  pub todo_then : (statement : StatementTree) (rest : BlockTree) (c : CursorTree) (p : Progress) → c.here.rest ≡ Then statement rest →
      todo tables m c p ≡ and_then (run_statement tables m statement p) (todo tables m (with_rest rest c))
  todo_then statement rest c p is =
      ap (λ t. and_then (run_block tables m t p) (after_rest c)) is
      ∙ and_then_assoc (run_statement tables m statement p) (run_block tables m rest) (after_rest c)

  -- ---- branches

  -- what is left inside a block of a branch is its rest, and then what was left outside
  pub finish_entered : (block rest : BlockTree) (scope : ℕ) (c : CursorTree) (p : Progress) →
      todo tables m (entered block scope rest c) p ≡ and_then (run_block tables m block p) (λ q. todo tables m (with_rest rest c) (closed scope q))
  finish_entered block rest scope c p =
      ap (λ (k : Progress → Flow). finish_block tables m k (record { rest = block; scope = scope; turns = None }) p)
      (fold-append (finish_block tables m) GoesOn c.outer (record c.here { rest = rest } ∷ []))

  branch_todo : (test : TestTree) (a b rest : BlockTree) (c : CursorTree) (p : Progress) (v : Bool) →
      c.here.rest ≡ Branch test a b rest → holds_of test p.env ≡ Some v →
      todo tables m (entered (if v then a else b) (length p.env) rest c) p ≡ todo tables m c p
  branch_todo test a b rest c p v is holds =
      finish_entered (if v then a else b) rest (length p.env) c p
      ∙ sym (and_then_assoc (run_block tables m (if v then a else b) p) (λ q. run_block tables m rest (closed (length p.env) q)) (after_rest c))
      ∙ chosen v
      ∙ ap (λ o. and_then (with_value o p (λ w. and_then ((if w then run_block tables m a else run_block tables m b) p) (λ q. run_block tables m rest (closed (length p.env) q)))) (after_rest c)) (sym holds)
      ∙ ap (λ t. and_then (run_block tables m t p) (after_rest c)) (sym is)
    where
      chosen : (w : Bool) →
          and_then (and_then (run_block tables m (if w then a else b) p) (λ q. run_block tables m rest (closed (length p.env) q))) (after_rest c)
          ≡ and_then (and_then ((if w then run_block tables m a else run_block tables m b) p) (λ q. run_block tables m rest (closed (length p.env) q))) (after_rest c)
      chosen true = refl
      chosen false = refl

  -- ---- listings

  -- of the head of an `each` its turns need the names alone
  names_alone : (l : ListingTree) (body : Progress → Flow) (turns : List Turn) (p : Progress) → run_turns (named l.key l.value) body turns p ≡ run_turns l body turns p
  names_alone l body [] p = refl
  names_alone l body (turn ∷ turns) p = ap (λ (go : Progress → Flow). and_then (body (begun_turn l turn p)) go) (λ i q. names_alone l body turns (closed (length p.env) q) i)

  -- what is left once the rows are listed is the turns, and then the rest
  todo_listed : (t : TurnsTree) (rest : BlockTree) (c : CursorTree) (q : Progress) →
      todo tables m (listed t (length q.env) rest c) q
      ≡ and_then (run_turns (head_of t) (run_block tables m t.body) t.left q) (todo tables m (with_rest rest c))
  todo_listed t rest c q =
      ap (λ (k : Progress → Flow). and_then (run_turns (head_of t) (run_block tables m t.body) t.left (closed (length q.env) q)) k)
      (fold-append (finish_block tables m) GoesOn c.outer (record c.here { rest = rest } ∷ []))
      ∙ ap (λ z. and_then (run_turns (head_of t) (run_block tables m t.body) t.left z) (todo tables m (with_rest rest c))) (closed_all q)

  -- on a table state that holds what the look found, what is left after the listing means what was left before it
  pub listing_goes : (l : ListingTree) (body rest : BlockTree) (g : Region) (c : CursorTree) (p : Progress) →
      c.here.rest ≡ Each l body rest → region_of (number_of tables l.table) l.range p.env ≡ Some g →
      (rows : TableState) → rows_left g (own_cells g p.changes.cells) m ≡ rows →
      (let seen = rows_seen g p.changes.cells rows in
      let q = did (Listed g (length seen)) (looked (look.Range g (own_cells g p.changes.cells) rows) p) in
      todo tables m (listed (record { key = l.key; value = l.value; body = body; left = turns_of l.range seen }) (length p.env) rest c) q ≡ todo tables m c p)
  listing_goes l body rest g c p is region rows found =
      let after = λ (z : TableState). did (Listed g (length (rows_seen g p.changes.cells z))) (looked (look.Range g (own_cells g p.changes.cells) z) p) in
      let turns = λ (z : TableState). run_turns l (run_block tables m body) (turns_of l.range (rows_seen g p.changes.cells z)) (after z) in
      todo_listed (record { key = l.key; value = l.value; body = body; left = turns_of l.range (rows_seen g p.changes.cells rows) }) rest c (after rows)
      ∙ ap (λ f. and_then f (todo tables m (with_rest rest c))) (names_alone l (run_block tables m body) (turns_of l.range (rows_seen g p.changes.cells rows)) (after rows))
      ∙ ap (λ z. and_then (turns z) (todo tables m (with_rest rest c))) (sym found)
      ∙ sym (and_then_assoc (turns (rows_left g (own_cells g p.changes.cells) m)) (run_block tables m rest) (after_rest c))
      ∙ ap (λ o. and_then (with_value o p (λ h. let own = own_cells h p.changes.cells in let left = rows_left h own m in let seen = rows_seen h p.changes.cells left in
      and_then (run_turns l (run_block tables m body) (turns_of l.range seen) (did (Listed h (length seen)) (looked (look.Range h own left) p))) (run_block tables m rest)))
      (after_rest c)) (sym region)
      ∙ ap (λ b. and_then (run_block tables m b p) (after_rest c)) (sym is)

  -- an `each` whose range lies outside i64
  pub listing_stops : (l : ListingTree) (body rest : BlockTree) (c : CursorTree) (p : Progress) →
      c.here.rest ≡ Each l body rest → region_of (number_of tables l.table) l.range p.env ≡ None → todo tables m c p ≡ Stops Overflow p
  listing_stops l body rest c p is region =
      ap (λ b. and_then (run_block tables m b p) (after_rest c)) is
      ∙ ap (λ o. and_then (with_value o p (λ h. let own = own_cells h p.changes.cells in let left = rows_left h own m in let seen = rows_seen h p.changes.cells left in
      and_then (run_turns l (run_block tables m body) (turns_of l.range seen) (did (Listed h (length seen)) (looked (look.Range h own left) p))) (run_block tables m rest)))
      (after_rest c)) region

  -- ---- the end of a block

  -- at the end of a turn the next one begins
  turn_goes : (t : TurnsTree) (turn : Turn) (later : List Turn) (c : CursorTree) (p : Progress) →
      c.here.rest ≡ BlockEnd → c.here.turns ≡ Some t → t.left ≡ turn ∷ later →
      (let q = closed c.here.scope p in
      let here : OpenTree = record { rest = t.body; scope = length q.env; turns = Some (record t { left = later }) } in
      todo tables m (record c { here = here }) (begun_turn (head_of t) turn q) ≡ todo tables m c p)
  turn_goes t turn later c p ends has left =
      let q = closed c.here.scope p in
      let body = run_block tables m t.body in
      sym (and_then_assoc (body (begun_turn (head_of t) turn q)) (λ r. run_turns (head_of t) body later (closed (length q.env) r)) (finish_all tables m c.outer))
      ∙ ap (λ turns. and_then (run_turns (head_of t) body turns q) (finish_all tables m c.outer)) (sym left)
      ∙ ap (λ o. and_then (finish_turns tables m o q) (finish_all tables m c.outer)) (sym has)
      ∙ ap (λ b. and_then (run_block tables m b p) (after_rest c)) (sym ends)

  -- a block without turns ends in what comes after it
  no_turns : (b : OpenTree) (q : Progress) → next_turn b ≡ None → finish_turns tables m b.turns q ≡ GoesOn q
  no_turns b q none = by_turns b.turns refl
    where
      by_turns : (o : Option TurnsTree) → b.turns ≡ o → finish_turns tables m o q ≡ GoesOn q
      by_turns None is = refl
      by_turns (Some t) is = by_left t.left refl
        where
          by_left : (left : List Turn) → t.left ≡ left → run_turns (head_of t) (run_block tables m t.body) left q ≡ GoesOn q
          by_left [] empty = refl
          by_left (turn ∷ later) has = absurd (cc)

  -- at the end of a block without turns only what comes after it is left
  end_goes : (c : CursorTree) (p : Progress) → c.here.rest ≡ BlockEnd → next_turn c.here ≡ None → todo tables m c p ≡ finish_all tables m c.outer (closed c.here.scope p)
  end_goes c p ends none =
      ap (λ b. and_then (run_block tables m b p) (after_rest c)) ends
      ∙ ap (λ f. and_then f (finish_all tables m c.outer)) (no_turns c.here (closed c.here.scope p) none)

weight_pos : (b : BlockTree) → 0 < weight b
weight_pos BlockEnd = omega arith
weight_pos (Then statement rest) = omega arith
weight_pos (Branch test a b rest) = omega arith
weight_pos (Each l body rest) = omega arith

weight_chosen : (a b : BlockTree) (v : Bool) → weight (if v then a else b) + 1 ≤ weight a + weight b
weight_chosen a b true = omega (arith, weight_pos b)
weight_chosen a b false = omega (arith, weight_pos a)

branch_weight : (test : TestTree) (a b rest : BlockTree) (scope : ℕ) (c : CursorTree) (v : Bool) →
    c.here.rest ≡ Branch test a b rest → weight_left (entered (if v then a else b) scope rest c) < weight_left c
branch_weight test a b rest scope c v is =
    let outer = fold-append (λ (n : ℕ) (o : OpenTree). n + open_weight o) 0 c.outer (record c.here { rest = rest } ∷ []) in
    omega (arith, outer, weight_chosen a b v, ap weight is)

-- to enter the block that the test chooses is a step
pub branch_moves : (test : TestTree) (a b rest : BlockTree) (c d : CursorTree) (p : Progress) (v : Bool) →
    c.here.rest ≡ Branch test a b rest → holds_of test p.env ≡ Some v →
    d ≡ entered (if v then a else b) (length p.env) rest c → IsLocalStep Moved c p d p
branch_moves test a b rest c d p v is holds e =
    subst (λ d. IsLocalStep Moved c p d p) (sym e)
    (λ tables m. branch_todo tables m test a b rest c p v is holds, branch_weight test a b rest (length p.env) c v is, record { deeds = refl; changes = refl; looks = refl; replies = begins_same refl })

-- ---- turns

-- less is left in the next turn
turn_weight : (t : TurnsTree) (turn : Turn) (later : List Turn) (scope : ℕ) (c : CursorTree) → c.here.rest ≡ BlockEnd → c.here.turns ≡ Some t → t.left ≡ turn ∷ later →
    weight_left (record c { here = record { rest = t.body; scope = scope; turns = Some (record t { left = later }) } }) < weight_left c
turn_weight t turn later scope c ends has left =
    let rest = ap weight ends in
    let turns = ap turns_weight has ∙ ap (λ ts. length ts * (weight t.body + 1)) left in
    let more : length (turn ∷ later) * (weight t.body + 1) ≡ length later * (weight t.body + 1) + (weight t.body + 1) = omega arith in
    omega (arith, rest, turns, more)

-- in the next turn
abbrev next_cursor : CursorTree → Progress → CursorTree
next_cursor c p = record c { here = in_turn (length (closed c.here.scope p).env) c.here }

-- the next turn has begun
begun_moves : (l : ListingTree) (turn : Turn) (c : CursorTree) (p : Progress) → c.here.rest ≡ BlockEnd → next_turn c.here ≡ Some (l, turn) →
    IsLocalStep Moved c p (next_cursor c p) (begun_turn l turn (closed c.here.scope p))
begun_moves l turn c p ends next = by_turns c.here.turns refl
  where
    by_turns : (o : Option TurnsTree) → c.here.turns ≡ o → IsLocalStep Moved c p (next_cursor c p) (begun_turn l turn (closed c.here.scope p))
    by_turns None is = absurd (cc)
    by_turns (Some t) is = by_left t.left refl
      where
        by_left : (left : List Turn) → t.left ≡ left → IsLocalStep Moved c p (next_cursor c p) (begun_turn l turn (closed c.here.scope p))
        by_left [] empty = absurd (cc)
        by_left (first ∷ later) has =
            let q = closed c.here.scope p in
            let names = length q.env in
            let both : ((head_of t), first) ≡ (l, turn) = cc in
            let head = ap (λ (x : ListingTree × Turn). x.0) both in
            let one = ap (λ (x : ListingTree × Turn). x.1) both in
            let here : in_turn names c.here ≡ record { rest = t.body; scope = names; turns = Some (record t { left = later }) } =
            ap (λ o. in_turn names (record c.here { turns = o })) is ∙ (λ i. record { rest = t.body; scope = names; turns = Some (record t { left = drop 1 (has i) }) }) in
            let is_now : next_cursor c p ≡ record c { here = record { rest = t.body; scope = names; turns = Some (record t { left = later }) } } = λ i. record c { here = here i } in (
              λ tables m. (λ i. todo tables m (is_now i) (begun_turn (sym head i) (sym one i) q)) ∙ turn_goes tables m t first later c p ends is has,
              subst (λ e. weight_left e < weight_left c) (sym is_now) (turn_weight t first later names c ends is has),
              record { deeds = refl; changes = refl; looks = refl; replies = begins_same refl },
            )

-- to cut the names and to begin the next turn is a step
pub turn_moves : (l : ListingTree) (turn : Turn) (names : ℕ) (c d : CursorTree) (p cut q : Progress) → c.here.rest ≡ BlockEnd → next_turn c.here ≡ Some (l, turn) →
    cut ≡ closed c.here.scope p → names ≡ length cut.env → q ≡ begun_turn l turn cut → d ≡ record c { here = in_turn names c.here } → IsLocalStep Moved c p d q
turn_moves l turn names c d p cut q ends next is count begun at =
    let number : names ≡ length (closed c.here.scope p).env = count ∙ ap (λ (r : Progress). length r.env) is in
    subst (λ e. IsLocalStep Moved c p e q) (sym (at ∙ (λ i. record c { here = in_turn (number i) c.here })))
    (subst (λ r. IsLocalStep Moved c p (next_cursor c p) r) (sym (begun ∙ ap (begun_turn l turn) is))
    (begun_moves l turn c p ends next))

-- ---- the end of a block without turns

pub block_moves : (outer : List OpenTree) (b : OpenTree) (c : CursorTree) (p q : Progress) → c.here.rest ≡ BlockEnd → next_turn c.here ≡ None →
    c.outer ≡ outer ++ b ∷ [] → q ≡ closed c.here.scope p → IsLocalStep Moved c p (record { here = b; outer = outer }) q
block_moves outer b c p q ends none was cut = subst (λ r. IsLocalStep Moved c p (record { here = b; outer = outer }) r) (sym cut) (
  λ tables m.
      sym (ap (λ (k : Progress → Flow). k (closed c.here.scope p)) (fold-append (finish_block tables m) GoesOn outer (b ∷ [])))
      ∙ ap (λ bs. finish_all tables m bs (closed c.here.scope p)) (sym was) ∙ sym (end_goes tables m c p ends none),
  lighter,
  record { deeds = refl; changes = refl; looks = refl; replies = begins_same refl },
)
  where
    lighter : weight_left (record { here = b; outer = outer }) < weight_left c
    lighter =
        let before = ap weight_of_all was ∙ fold-append (λ (n : ℕ) (o : OpenTree). n + open_weight o) 0 outer (b ∷ []) in
        let rest = ap weight ends in
        omega (arith, before, rest)

pub block_over : (c d : CursorTree) (p q : Progress) → c.here.rest ≡ BlockEnd → next_turn c.here ≡ None → c.outer ≡ [] → q ≡ closed c.here.scope p → IsLocalStep (Over Ready) c p d q
block_over c d p q ends none last cut = subst (λ r. IsLocalStep (Over Ready) c p d r) (sym cut) (
  λ tables m. ap ended (end_goes tables m c p ends none ∙ ap (λ bs. finish_all tables m bs (closed c.here.scope p)) last),
  record { deeds = refl; changes = refl; looks = refl; replies = begins_same refl },
)

-- where a turn could not be begun, what is left is the same
pub turn_waits : (c d : CursorTree) (p q : Progress) → c.here.rest ≡ BlockEnd → d ≡ c → q ≡ closed c.here.scope p → SameTodo c p d q × KeepsStore p q
turn_waits c d p q ends same cut = (
  λ tables m. (λ i. todo tables m (same i) (cut i)) ∙ waits tables m,
  record { deeds = ap (λ (r : Progress). r.deeds) cut; changes = ap (λ (r : Progress). r.changes) cut; looks = ap (λ (r : Progress). r.looks) cut; replies = begins_same (ap (λ (r : Progress). r.replies) cut) },
)
  where
    twice : closed c.here.scope (closed c.here.scope p) ≡ closed c.here.scope p
    twice = ap (λ env. record p { env = env }) (take_twice c.here.scope p.env)

    waits : (tables : List TableDecl) (m : TableState) → todo tables m c (closed c.here.scope p) ≡ todo tables m c p
    waits tables m =
        ap (λ b. and_then (run_block tables m b (closed c.here.scope p)) (after_rest tables m c)) ends
        ∙ ap (λ r. and_then (finish_turns tables m c.here.turns r) (finish_all tables m c.outer)) twice
        ∙ ap (λ b. and_then (run_block tables m b p) (after_rest tables m c)) (sym ends)
