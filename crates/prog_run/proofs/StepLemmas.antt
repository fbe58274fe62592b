-- Laws of the steps of a run.
use Rattle.std.proofs.Common.{◌≡◌, List, [], ◌∷◌, ◌++◌, refl, ap, sym, subst, ◌∙◌, false, length}
use Rattle.std.specs.Prelude.{ℤ, Option, Some, None, IfSome}
use Rattle.prog_tree.specs.declared.cell.Cell.{Cell}
use Rattle.prog_tree.specs.declared.cell.Region.{Region}
use Rattle.prog_tree.specs.declared.deed.Deed.TheVariants.{Listed}
use Rattle.prog_tree.specs.declared.deed.End.{End}
use Rattle.prog_tree.specs.declared.deed.End.TheVariants.{Ready, Aborted}
use Rattle.prog_tree.specs.declared.look.Look.{Look}
use Rattle.prog_tree.specs.declared.look.Look.TheVariants as look
use Rattle.prog_tree.specs.declared.progress.Progress.{Progress}
use Rattle.prog_tree.specs.declared.table.TableDecl.{TableDecl}
use Rattle.prog_tree.specs.Syntax.{ListingTree, StatementTree, BlockTree, Then, StmtTree, Plain, Fork, Loop, block_from, ProgramTree}
use Rattle.prog_tree.specs.Steps.{did, looked}
use Rattle.prog_tree.specs.Table.{TableState}
use Rattle.prog_tree.specs.Evaluation.{Flow, with_value, and_then, ended, turns_of, own_cells, run_statement, rows_without}
use Rattle.prog_run.specs.Todo.{TurnsTree, CursorTree, listed, with_rest, todo}
use Rattle.prog_run.specs.Cursor.{BeginsWith, is_store_stmt, is_store, SameTodo, KeepsStore}
use Rattle.prog_run.specs.Task.{CellUseTree, RegionUseTree, Counts, Sums, Lists, AskedTree, OfCell, OfRegion, TaskTree, asked_tree, task_of, task_of_stmt, next_task, use_flow, rows_flow, task_flow}
use Rattle.prog_run.specs.Task as task
use Rattle.prog_run.specs.Looks.{AreFound, asked_by, region_look, seen_rows}
use Rattle.prog_run.specs.Statement.{changes_with, IsFlow, IsBegun}
use Rattle.prog_run.specs.Step.{next_of, asked_after, question_after, end_after, deeds_after, changes_after, rest_after, cursor_after, cursor_behind, IsAt, IsStep}
use Rattle.prog_run.specs.View.{IsTrueTo, asked_region, question_in}
use Rattle.prog_run.specs.declared.next.Next.TheVariants.{Scan}
use Rattle.prog_run.specs.declared.next.Next.{Next}
use Rattle.prog_run.specs.declared.next.Step.{Step}
use Rattle.prog_run.specs.declared.next.Step.TheVariants.{Asks, Did, Over}
use Rattle.prog_run.specs.declared.task.Asked.{Asked}
use Rattle.prog_run.specs.declared.task.Asked.TheVariants as asked
use Rattle.prog_run.proofs.FrontLemmas.{begins_same, begins_on}
use Rattle.prog_run.proofs.LookLemmas.{found_last, found_same, asked_unchanged}
use Rattle.prog_run.proofs.StatementLemmas.{IsDoneBy, lists, task_law, task_store, listing_is, first_statement, first_listing, begun_done, listing_asks, listing_goes_on, cell_done, rows_done}
use Rattle.prog_run.proofs.TodoLemmas.{todo_then, listing_goes}

-- a task that is begun and asks is no step of the cursor
asks_step : (tables : List TableDecl) (c d : CursorTree) (p q : Progress) (t : TaskTree) → next_task tables c.here.rest p.env ≡ Some t → (a : Asked) → d ≡ c → IsBegun t (Asks a) p q → IsStep tables (Asks a) c p d q
asks_step tables c d p q t next a at h = (
  λ m f i. todo tables m (at i) (h.0 i),
  found_same p q (ap (λ (r : Progress). r.looks) h.0),
  record { deeds = ap (λ (r : Progress). r.deeds) h.0; changes = ap (λ (r : Progress). r.changes) h.0; looks = ap (λ (r : Progress). r.looks) h.0; replies = begins_same (ap (λ (r : Progress). r.replies) h.0) },
  (
    (λ i. next_task tables (at i).here.rest (h.0 i).env) ∙ next ∙ ap Some h.1,
    ap (λ (r : Progress). asked_by r.changes (task.Ask (asked_tree a))) h.0 ∙ ap (asked_by p.changes) (sym h.1) ∙ h.2,
  ),
)

-- a statement that is done is a step of the cursor
module _ (tables : List TableDecl) (statement : StatementTree) (rest : BlockTree) (c d : CursorTree) (p q : Progress) (is : c.here.rest ≡ Then statement rest) where
  done : (n : Step) → d ≡ cursor_after n c → (flow : TableState → Flow) → ((m : TableState) → run_statement tables m statement p ≡ flow m) → IsDoneBy flow n p q → IsStep tables n c p d q
  done (Asks a) at flow same h = absurd h
  done (Did deed) at flow same h =
      (λ m f. ap (λ k. todo tables m k q) (at ∙ ap (λ b. with_rest (rest_after b) c) is) ∙ sym (todo_then tables m statement rest c p is ∙ ap (λ r. and_then r (todo tables m (with_rest rest c))) (same m ∙ h.0 m f)), h.1, h.2, h.3, begins_same h.4)
  done (Over (Aborted cause)) at flow same h =
      (λ m f. ap ended (todo_then tables m statement rest c p is ∙ ap (λ r. and_then r (todo tables m (with_rest rest c))) (same m ∙ h.0 m f)), h.1, h.2, h.3, begins_same h.4)
  done (Over Ready) at flow same h = absurd h

  module _ (t : TaskTree) (has : task_of tables statement p.env ≡ Some t) where
    by_task : (m : TableState) → run_statement tables m statement p ≡ task_flow m t p
    by_task m = task_law tables m statement p (task_store tables statement p.env t has) ∙ ap (λ o. with_value o p (λ u. task_flow m u p)) has

    -- so is one whose look is answered
    pub finished : (n : Step) → d ≡ cursor_after n c → IsDoneBy (λ m. task_flow m t p) n p q → IsStep tables n c p d q
    finished n at h = done n at (λ m. task_flow m t p) by_task h

    -- and one that is begun
    pub step_of : (n : Step) → d ≡ cursor_after n c → IsBegun t n p q → IsStep tables n c p d q
    step_of (Asks a) at h = asks_step tables c d p q t (ap (λ b. next_task tables b p.env) is ∙ has) a at h
    step_of (Did deed) at h = finished (Did deed) at (begun_done t (Did deed) p q h)
    step_of (Over end) at h = finished (Over end) at (begun_done t (Over end) p q h)

-- any statement of the store that is begun
pub step_of_stmt : (tables : List TableDecl) (x : StmtTree) (rest : BlockTree) (c d : CursorTree) (p q : Progress) → c.here.rest ≡ block_from x rest →
    (t : TaskTree) → task_of_stmt tables x p.env ≡ Some t → (n : Step) → d ≡ cursor_after n c → IsBegun t n p q → IsStep tables n c p d q
step_of_stmt tables (Plain statement) rest c d p q is t has n at h = step_of tables statement rest c d p q is t has n at h
step_of_stmt tables (Fork test a b) rest c d p q is t has n at h = absurd (cc)
step_of_stmt tables (Loop l body) rest c d p q is t has (Asks a) at h = asks_step tables c d p q t (ap (λ b. next_task tables b p.env) is ∙ has) a at h
step_of_stmt tables (Loop l body) rest c d p q is t has (Did deed) at h =
    let k = listing_is tables l body p.env t has in absurd (listing_asks k.region l body p q deed (subst (λ u. IsBegun u (Did deed) p q) (sym k.is) h))
step_of_stmt tables (Loop l body) rest c d p q is t has (Over end) at h =
    let k = listing_is tables l body p.env t has in absurd (listing_goes_on k.region l body p q end (subst (λ u. IsBegun u (Over end) p q) (sym k.is) h))

-- a statement in front of the rest of its block
pub store_first : (x : StmtTree) (rest : BlockTree) → is_store (block_from x rest) ≡ is_store_stmt x
store_first (Plain statement) rest = refl
store_first (Fork test a b) rest = refl
store_first (Loop l body) rest = refl

-- ---- answers

module _ (tables : List TableDecl) (c d : CursorTree) (p q : Progress) where
  pub cell_step : (cell : Cell) (usage : CellUseTree) (held : Option ℤ) → IsAt tables (OfCell cell usage) c p → (n : Step) → d ≡ cursor_after n c →
      IsFlow (use_flow usage cell held (looked (look.One cell held) p)) n (looked (look.One cell held) p) q → IsStep tables n c p d q
  cell_step cell usage held h n at done =
      let first = first_statement tables c.here.rest p.env (task.Ask (OfCell cell usage)) refl h.0 in
      finished tables first.0 first.1 c d p q first.2 (task.Ask (OfCell cell usage)) (ap (λ b. next_task tables b p.env) (sym first.2) ∙ h.0) n at
      (cell_done cell usage held p (asked_unchanged p.changes cell usage h.1) n q done)

  -- a count or a sum
  tally_step : (region : Region) (usage : RegionUseTree) (rows : TableState) → lists (task.Ask (OfRegion region usage)) ≡ false → IsAt tables (OfRegion region usage) c p → (n : Step) → d ≡ cursor_after n c →
      IsFlow (rows_flow usage region (seen_rows p.changes region rows) (looked (region_look p.changes region rows) p)) n (looked (region_look p.changes region rows) p) q → IsStep tables n c p d q
  tally_step region usage rows tally h n at flow =
      let first = first_statement tables c.here.rest p.env (task.Ask (OfRegion region usage)) tally h.0 in
      finished tables first.0 first.1 c d p q first.2 (task.Ask (OfRegion region usage)) (ap (λ b. next_task tables b p.env) (sym first.2) ∙ h.0) n at
      (rows_done region usage rows p n q flow)

  -- an `each` whose rows are listed
  listing_step : (region : Region) (l : ListingTree) (body : BlockTree) (rows : TableState) → IsAt tables (OfRegion region (Lists l body)) c p → (n : Step) →
      d ≡ cursor_behind (Lists l body) (seen_rows p.changes region rows) (length p.env) n c →
      IsFlow (rows_flow (Lists l body) region (seen_rows p.changes region rows) (looked (region_look p.changes region rows) p)) n (looked (region_look p.changes region rows) p) q → IsStep tables n c p d q
  listing_step region l body rows h (Asks a) at flow = absurd flow
  listing_step region l body rows h (Over Ready) at flow = absurd flow
  listing_step region l body rows h (Over (Aborted cause)) at flow = let stops = flow.0 in absurd (cc)
  listing_step region l body rows h (Did deed) at flow =
      let first = first_listing tables c.here.rest p.env l body region h.0 in
      let own = own_cells region p.changes.cells in
      let seen = seen_rows p.changes region rows in
      let goes = flow.0 in
      let same : did (Listed region (length seen)) (looked (region_look p.changes region rows) p) ≡ q = cc in
      let found : (m : TableState) → AreFound m q.looks → AreFound m p.looks × AreFound m (region_look p.changes region rows ∷ []) =
      λ m f. found_last m p.looks (region_look p.changes region rows) (subst (AreFound m) flow.2 f) in
      let turns : TurnsTree = record { key = l.key; value = l.value; body = body; left = turns_of l.range seen } in
      let opened : d ≡ listed turns (length p.env) first.rest c = at ∙ ap (λ b. listed turns (length p.env) (rest_after b) c) first.at in (
        λ m f. (λ i. todo tables m (opened i) (sym same i)) ∙ listing_goes tables m l body first.rest region c p first.at first.found (rows_without own rows) (found m f).1.0,
        λ m f. (found m f).0,
        flow.1,
        flow.3,
        begins_same flow.4,
      )

  -- a statement whose region's rows are known
  pub rows_step : (region : Region) (usage : RegionUseTree) (rows : TableState) → IsAt tables (OfRegion region usage) c p → (n : Step) →
      d ≡ cursor_behind usage (seen_rows p.changes region rows) (length p.env) n c →
      IsFlow (rows_flow usage region (seen_rows p.changes region rows) (looked (region_look p.changes region rows) p)) n (looked (region_look p.changes region rows) p) q → IsStep tables n c p d q
  rows_step region (Counts name) rows h n at flow = tally_step region (Counts name) rows refl h n at flow
  rows_step region (Sums name) rows h n at flow = tally_step region (Sums name) rows refl h n at flow
  rows_step region (Lists l body) rows h n at flow = listing_step region l body rows h n at flow

-- what an answer adds, and that it asks nothing
pub answer_adds : (l : Look) (f : Flow) (n : Step) (p q : Progress) → IsFlow f n (looked l p) q →
    (q.deeds ≡ deeds_after (next_of n) p.deeds) × (q.looks ≡ p.looks ++ l ∷ []) × (question_after (next_of n) ≡ None) × (q.changes ≡ changes_after (next_of n) p.changes) × (q.replies ≡ p.replies)
answer_adds l f (Asks a) p q h = absurd h
answer_adds l f (Did deed) p q h = (h.1, h.2, refl, h.3, h.4)
answer_adds l f (Over (Aborted cause)) p q h = (h.1, h.2, refl, h.3, h.4)
answer_adds l f (Over Ready) p q h = absurd h

-- what is so of the region that a run asks for
pub asked_for_rows : (waits : Option Next) (region : Region) (P : Region → Type 0) → waits ≡ Some (Scan region) → P region → IfSome (asked_region waits) P
asked_for_rows waits region P is holds = subst (λ o. IfSome (asked_region o) P) (sym is) holds

-- ---- steps without the store and then a step at the store are a step

module _ (tables : List TableDecl) (c b d : CursorTree) (p r q : Progress) (same : SameTodo c p b r) (k : KeepsStore p r) where
  pub settled_then : (n : Step) → IsStep tables n b r d q → IsStep tables n c p d q
  settled_then (Asks a) h = (
    λ m f. h.0 m f ∙ same tables m,
    λ m f. found_same p r k.looks m (h.1 m f),
    record { deeds = h.2.deeds ∙ k.deeds; changes = h.2.changes ∙ k.changes; looks = h.2.looks ∙ k.looks; replies = begins_on q.replies k.replies h.2.replies },
    h.3,
  )
  settled_then (Did deed) h = (λ m f. h.0 m f ∙ same tables m, λ m f. found_same p r k.looks m (h.1 m f), h.2 ∙ ap (λ ds. ds ++ deed ∷ []) k.deeds, h.3 ∙ ap (changes_with deed) k.changes, begins_on q.replies k.replies h.4)
  settled_then (Over end) h = (λ m f. ap ended (sym (same tables m)) ∙ h.0 m f, λ m f. found_same p r k.looks m (h.1 m f), h.2 ∙ k.deeds, h.3 ∙ k.changes, begins_on q.replies k.replies h.4)

-- ---- a run after a step

-- where nothing was done, all is as before
pub unchanged : (P : CursorTree → Progress → Type 0) (c d : CursorTree) (p q : Progress) → d ≡ c → q ≡ p → P c p → P d q
unchanged P c d p q at is h = subst (λ x. P x q) (sym at) (subst (P c) (sym is) h)

-- a run that was true to its program is so after a step
module _ (tables : List TableDecl) (program : ProgramTree) (args : List ℤ) (c d : CursorTree) (p q : Progress) (t : IsTrueTo tables program args None c p) where
  pub true_after : (n : Step) → IsStep tables n c p d q → IsTrueTo tables program args (end_after (next_of n)) d q
  true_after (Asks (asked.OfCell cell usage)) h m f = ap ended (h.0 m f) ∙ t m (h.1 m f)
  true_after (Asks (asked.OfRegion region usage)) h m f = ap ended (h.0 m f) ∙ t m (h.1 m f)
  true_after (Did deed) h m f = ap ended (h.0 m f) ∙ t m (h.1 m f)
  true_after (Over end) h m f = sym (h.0 m f) ∙ t m (h.1 m f)

  pub true_still : SameTodo c p d q → KeepsStore p q → IsTrueTo tables program args None d q
  true_still same k m f = ap ended (same tables m) ∙ t m (found_same p q k.looks m f)

-- so is a run whose question was answered
pub true_answered : (tables : List TableDecl) (program : ProgramTree) (args : List ℤ) (before after : Option End) (c d : CursorTree) (p q : Progress) (n : Step) →
    before ≡ None → after ≡ end_after (next_of n) → IsTrueTo tables program args before c p → IsStep tables n c p d q → IsTrueTo tables program args after d q
true_answered tables program args before after c d p q n goes_on ends t step =
    subst (λ o. IsTrueTo tables program args o d q) (sym ends)
    (true_after tables program args c d p q (subst (λ o. IsTrueTo tables program args o c p) goes_on t) n step)

-- what a step adds to the deeds
pub step_deeds : (tables : List TableDecl) (c d : CursorTree) (p q : Progress) (n : Step) → IsStep tables n c p d q → q.deeds ≡ deeds_after (next_of n) p.deeds
step_deeds tables c d p q (Asks (asked.OfCell cell usage)) h = h.2.deeds
step_deeds tables c d p q (Asks (asked.OfRegion region usage)) h = h.2.deeds
step_deeds tables c d p q (Did deed) h = h.2
step_deeds tables c d p q (Over end) h = h.2

-- what a step changes
pub step_changes : (tables : List TableDecl) (c d : CursorTree) (p q : Progress) (n : Step) → IsStep tables n c p d q → q.changes ≡ changes_after (next_of n) p.changes
step_changes tables c d p q (Asks (asked.OfCell cell usage)) h = h.2.changes
step_changes tables c d p q (Asks (asked.OfRegion region usage)) h = h.2.changes
step_changes tables c d p q (Did deed) h = h.3
step_changes tables c d p q (Over end) h = h.3

-- its replies come behind those before
pub step_replies : (tables : List TableDecl) (c d : CursorTree) (p q : Progress) (n : Step) → IsStep tables n c p d q → BeginsWith p.replies q.replies
step_replies tables c d p q (Asks asked) h = h.2.replies
step_replies tables c d p q (Did deed) h = h.4
step_replies tables c d p q (Over end) h = h.4

-- the question that a caller sees
pub step_question : (n : Step) → question_in (asked_after n) ≡ question_after (next_of n)
step_question (Asks (asked.OfCell cell usage)) = refl
step_question (Asks (asked.OfRegion region usage)) = refl
step_question (Did deed) = refl
step_question (Over end) = refl
