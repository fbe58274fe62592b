-- A run only adds to its deeds and its replies.
use Rattle.std.proofs.Common.{◌≡◌, List, [], ◌∷◌, ◌++◌, refl, ap, sym, subst, ◌∙◌, take, length, true, false}
use Rattle.std.specs.Prelude.{ℤ, pos, Option, Some, None, if◌then◌else◌, Bool, fold}
use Rattle.std.specs.Option.{option_or}
use Rattle.prog_tree.specs.declared.cell.Cell.{Cell}
use Rattle.prog_tree.specs.declared.cell.Region.{Region}
use Rattle.prog_tree.specs.declared.deed.Deed.{Deed}
use Rattle.prog_tree.specs.declared.deed.End.{End}
use Rattle.prog_tree.specs.declared.progress.Progress.{Progress}
use Rattle.prog_tree.specs.declared.table.TableDecl.{TableDecl}
use Rattle.prog_tree.specs.Syntax.{Name, KeyTree, RangeTree, ListingTree, StatementTree, BlockTree}
use Rattle.prog_tree.specs.Syntax as s
use Rattle.prog_tree.specs.Table.{TableState, total_of}
use Rattle.prog_tree.specs.declared.deed.Deed.TheVariants.{Counted, Summed, Listed}
use Rattle.prog_tree.specs.Steps.{closed, bound, did}
use Rattle.prog_tree.specs.Evaluation.{Evaluation, Flow, GoesOn, Stops, with_value, if_present, and_then, at_key, in_range, seen_or, with_rows, Turn, begun_turn, turns_of, run_turns, run_statement, run_block, ended, cell_of, region_of}
use Rattle.prog_tree.specs.Numbering.{number_of}
use Rattle.prog_tree.specs.Value.{exact, value_of}
use Rattle.prog_tree.specs.ChangeSet.{change_at}
use Rattle.prog_tree.specs.Tree.{program_tree}
use Rattle.prog_run.specs.Todo.{TurnsTree, head_of, OpenTree, CursorTree, finish_turns, finish_block, todo}
use Rattle.prog_run.specs.Cursor.{BeginsWith}
use Rattle.prog_run.specs.Looks.{AreFound}
use Rattle.prog_run.specs.View.{RunView, IsTrueTo, IsTrueRun, comes_to}
use Rattle.prog_run.proofs.FrontLemmas.{begins_same, begins_one, begins_on}

abbrev progress_of : Flow → Progress
progress_of (GoesOn p) = p
progress_of (Stops cause p) = p

-- the flow's deeds and its replies begin with those of p
record Extends (p : Progress) (f : Flow) : Type 0 where
  deeds : BeginsWith p.deeds (progress_of f).deeds
  replies : BeginsWith p.replies (progress_of f).replies

still : (p : Progress) (f : Flow) → (progress_of f).deeds ≡ p.deeds → (progress_of f).replies ≡ p.replies → Extends p f
still p f deeds replies = record { deeds = begins_same deeds; replies = begins_same replies }

-- what extends q extends p, if q does
via : (p q : Progress) (f : Flow) → Extends p (GoesOn q) → Extends q f → Extends p f
via p q f g h = record { deeds = begins_on (progress_of f).deeds g.deeds h.deeds; replies = begins_on (progress_of f).replies g.replies h.replies }

same : (p q : Progress) (f : Flow) → q.deeds ≡ p.deeds → q.replies ≡ p.replies → Extends q f → Extends p f
same p q f deeds replies h = via p q f (still p (GoesOn q) deeds replies) h

by_value : {A : Type 0} (o : Option A) (p : Progress) (go : A → Flow) → ((v : A) → Extends p (go v)) → Extends p (with_value o p go)
by_value None p go h = still p (with_value None p go) refl refl
by_value (Some v) p go h = h v

by_present : (o : Option ℤ) (p : Progress) (go : ℤ → Flow) (other : Flow) → ((v : ℤ) → Extends p (go v)) → Extends p other → Extends p (if_present o go other)
by_present (Some v) p go other h e = h v
by_present None p go other h e = e

by_block : (p : Progress) (f : Flow) (go : Progress → Flow) → Extends p f → ((q : Progress) → Extends q (go q)) → Extends p (and_then f go)
by_block p (GoesOn q) go e h = via p q (go q) e (h q)
by_block p (Stops cause q) go e h = e

by_turns : (l : ListingTree) (body : Progress → Flow) → ((q : Progress) → Extends q (body q)) → (turns : List Turn) (p : Progress) → Extends p (run_turns l body turns p)
by_turns l body h [] p = still p _ refl refl
by_turns l body h (turn ∷ turns) p =
    by_block p _ _ (same p (begun_turn l turn p) _ refl refl (h (begun_turn l turn p))) (λ q. same q _ _ refl refl (by_turns l body h turns (closed (length p.env) q)))

module _ (tables : List TableDecl) (m : TableState) where
  by_seen : (own : Option (Option ℤ)) (c : Cell) (p : Progress) (go : Option ℤ → Progress → Flow) →
      ((v : Option ℤ) (q : Progress) → Extends q (go v q)) → Extends p (seen_or tables m own c p go)
  by_seen (Some own) c p go h = h own p
  by_seen None c p go h = same p _ _ refl refl (h _ _)

  by_rows : (g : Region) (p : Progress) (go : TableState → Progress → Flow) →
      ((rows : TableState) (q : Progress) → Extends q (go rows q)) → Extends p (with_rows tables m g p go)
  by_rows g p go h = same p _ _ refl refl (h _ _)

  at_cell_grows : (t : Name) (k : KeyTree) (p : Progress) (go : Cell → Flow) → ((c : Cell) → Extends p (go c)) → Extends p (at_key tables m t k p go)
  at_cell_grows t k p go h = by_value (cell_of (number_of tables t) k p.env) p go h

  in_range_grows : (t : Name) (r : RangeTree) (p : Progress) (go : Region → Flow) → ((g : Region) → Extends p (go g)) → Extends p (in_range tables m t r p go)
  in_range_grows t r p go h = by_value (region_of (number_of tables t) r p.env) p go h

  -- one deed more, or one reply
  deed : (d : Deed) (p q : Progress) → q.deeds ≡ p.deeds ++ d ∷ [] → q.replies ≡ p.replies → Extends p (GoesOn q)
  deed d p q deeds replies = record { deeds = begins_one p.deeds d deeds; replies = begins_same replies }

  reply : (v : ℤ) (p q : Progress) → q.deeds ≡ p.deeds → q.replies ≡ p.replies ++ v ∷ [] → Extends p (GoesOn q)
  reply v p q deeds replies = record { deeds = begins_same deeds; replies = begins_one p.replies v replies }

  statement_grows : (st : StatementTree) (p : Progress) → Extends p (run_statement tables m st p)
  statement_grows (s.Bind x e) p = by_value (value_of e p.env) p _ (λ v. still p _ refl refl)
  statement_grows (s.Get x t k e) p =
      at_cell_grows t k p _ (λ c. by_seen (change_at p.changes c) c p _ (λ seen q. by_value (option_or seen (value_of e q.env)) q _ (λ v. deed _ q _ refl refl)))
  statement_grows (s.Need x t k) p =
      at_cell_grows t k p _ (λ c. by_seen (change_at p.changes c) c p _ (λ seen q. by_present seen q _ _ (λ v. deed _ q _ refl refl) (still q _ refl refl)))
  statement_grows (s.Count x t r) p =
      in_range_grows t r p _ (λ g. by_rows g p _ (λ rows q. by_value (exact (pos (length rows))) q _ (λ v. deed (Counted g v) q (bound x v (did (Counted g v) q)) refl refl)))
  statement_grows (s.Sum x t r) p =
      in_range_grows t r p _ (λ g. by_rows g p _ (λ rows q. by_value (exact (total_of rows)) q _ (λ v. deed (Summed g v) q (bound x v (did (Summed g v) q)) refl refl)))
  statement_grows (s.Lacks t k) p =
      at_cell_grows t k p _ (λ c. by_seen (change_at p.changes c) c p _ (λ seen q. by_present seen q _ _ (λ v. still q _ refl refl) (deed _ q _ refl refl)))
  statement_grows (s.Put t k e) p = at_cell_grows t k p _ (λ c. by_value (value_of e p.env) p _ (λ v. deed _ p _ refl refl))
  statement_grows (s.Insert t k e) p =
      at_cell_grows t k p _ (λ c. by_value (value_of e p.env) p _ (λ v. by_seen (change_at p.changes c) c p _ (λ seen q. by_present seen q _ _ (λ w. still q _ refl refl) (deed _ q _ refl refl))))
  statement_grows (s.Delete t k) p = at_cell_grows t k p _ (λ c. deed _ p _ refl refl)
  statement_grows (s.Keep t k) p = at_cell_grows t k p _ (λ c. deed _ p _ refl refl)
  statement_grows (s.Reply e) p = by_value (value_of e p.env) p _ (λ v. reply v p _ refl refl)
  statement_grows s.Abort p = still p _ refl refl

  run_grows : (b : BlockTree) (p : Progress) → Extends p (run_block tables m b p)
  run_grows s.BlockEnd p = still p _ refl refl
  run_grows (s.Then st rest) p = by_block p _ _ (statement_grows st p) (run_grows rest)
  run_grows (s.Branch test a b rest) p =
      by_value _ p _ (λ (holds : Bool). by_block p _ _
      (elim holds as (λ w. Extends p ((if w then run_block tables m a else run_block tables m b) p)) [ true ↦ run_grows a p | false ↦ run_grows b p ])
      (λ q. same q _ _ refl refl (run_grows rest (closed (length p.env) q))))
  run_grows (s.Each l body rest) p =
      in_range_grows l.table l.range p _ (λ g. by_rows g p _ (λ rows q.
      let listed = did (Listed g (length rows)) q in
      by_block q _ _ (via q listed _ (deed (Listed g (length rows)) q listed refl refl) (by_turns l (run_block tables m body) (run_grows body) (turns_of l.range rows) listed)) (run_grows rest)))

  turns_grow : (o : Option TurnsTree) (p : Progress) → Extends p (finish_turns tables m o p)
  turns_grow None p = still p _ refl refl
  turns_grow (Some t) p = by_turns (head_of t) (run_block tables m t.body) (run_grows t.body) t.left p

  -- the rest of a block, its turns, and what comes after them
  block_grows : (b : OpenTree) (after : Progress → Flow) → ((q : Progress) → Extends q (after q)) → (p : Progress) → Extends p (finish_block tables m after b p)
  block_grows b after h p = by_block p _ _ (run_grows b.rest p) (λ q. same q (closed b.scope q) _ refl refl (by_block (closed b.scope q) _ _ (turns_grow b.turns (closed b.scope q)) h))

  finish_grows : (outer : List OpenTree) (after : Progress → Flow) → ((q : Progress) → Extends q (after q)) →
      (q : Progress) → Extends q (fold (finish_block tables m) after outer q)
  finish_grows [] after h = h
  finish_grows (b ∷ outer) after h = finish_grows outer (finish_block tables m after b) (block_grows b after h)

  todo_grows : (c : CursorTree) (p : Progress) → Extends p (todo tables m c p)
  todo_grows c p = block_grows c.here _ (finish_grows c.outer GoesOn (λ r. still r _ refl refl)) p

-- what a run comes to begins with what it has done
module _ (tables : List TableDecl) (m : TableState) where
  ended_grows : (p : Progress) (f : Flow) → Extends p f → BeginsWith p.deeds (ended f).deeds × BeginsWith p.replies (ended f).replies
  ended_grows p (GoesOn q) e = (e.deeds, e.replies)
  ended_grows p (Stops cause q) e = (e.deeds, e.replies)

  comes_from : (over : Option End) (c : CursorTree) (p : Progress) → let e = comes_to tables m over c p in BeginsWith p.deeds e.deeds × BeginsWith p.replies e.replies
  comes_from (Some end) c p = (begins_same refl, begins_same refl)
  comes_from None c p = ended_grows p (todo tables m c p) (todo_grows tables m c p)

-- a run that is true to its program says what the program means, in its view too
pub true_at : (v : RunView) (c : CursorTree) (p : Progress) → p.deeds ≡ v.deeds → p.replies ≡ v.replies → p.changes ≡ v.changes → p.looks ≡ v.looks →
    IsTrueTo v.tables (program_tree v.program) v.args v.end c p → IsTrueRun v
true_at v c p deeds replies changes looks t m f =
    let at = t m (subst (AreFound m) (sym looks) f) in
    let came = comes_to v.tables m v.end c p in
    let from = comes_from v.tables m v.end c p in
    record {
      deeds = ap (take (length v.deeds)) (ap (λ (e : Evaluation). e.deeds) (sym at)) ∙ ap (λ (ds : List Deed). take (length ds) came.deeds) (sym deeds) ∙ from.0 ∙ deeds;
      replies = ap (take (length v.replies)) (ap (λ (e : Evaluation). e.replies) (sym at)) ∙ ap (λ (rs : List ℤ). take (length rs) came.replies) (sym replies) ∙ from.1 ∙ replies;
      ending = λ end is.
          (λ i. record { ending = end; deeds = sym deeds i; replies = sym replies i; changes = sym changes i; looks = sym looks i })
          ∙ ap (λ o. comes_to v.tables m o c p) (sym is) ∙ at;
    }
