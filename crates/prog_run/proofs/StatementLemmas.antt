-- Laws of the statements of the store.
use Rattle.std.proofs.Common.{◌≡◌, List, [], ◌∷◌, ◌++◌, ap, sym, subst, refl, ◌∙◌, true, false, true≢false, length, length-append, arith}
use Rattle.std.specs.Prelude.{ℤ, Bool, Option, Some, None, option_and_then, option_map}
use Rattle.prog_tree.specs.declared.cell.Cell.{Cell}
use Rattle.prog_tree.specs.declared.cell.Region.{Region}
use Rattle.prog_tree.specs.declared.deed.Deed.{Deed}
use Rattle.prog_tree.specs.declared.deed.Deed.TheVariants.{Listed}
use Rattle.prog_tree.specs.declared.deed.End.{End}
use Rattle.prog_tree.specs.declared.deed.End.TheVariants.{Ready, Aborted}
use Rattle.prog_tree.specs.declared.look.Look.{Look}
use Rattle.prog_tree.specs.declared.look.Look.TheVariants as look
use Rattle.prog_tree.specs.declared.progress.Progress.{Progress}
use Rattle.prog_tree.specs.declared.table.TableDecl.{TableDecl}
use Rattle.prog_tree.specs.Syntax.{ListingTree, StatementTree, BlockTree, BlockEnd, Then, Branch, Each}
use Rattle.prog_tree.specs.Syntax as s
use Rattle.prog_tree.specs.Numbering.{number_of}
use Rattle.prog_tree.specs.Value.{Bindings, value_of}
use Rattle.prog_tree.specs.Table.{TableState}
use Rattle.prog_tree.specs.ChangeSet.{change_at}
use Rattle.prog_tree.specs.Steps.{did, looked}
use Rattle.prog_tree.specs.Evaluation.{Flow, GoesOn, Stops, with_value, seen_or, cell_of, region_of, own_cells, rows_seen, run_statement, rows_without}
use Rattle.prog_run.specs.Cursor.{needs_store}
use Rattle.prog_run.specs.Looks.{AreFound, FoundBefore, region_look, seen_rows}
use Rattle.prog_run.specs.Task.{CellUseTree, RegionUseTree, Lists, OfCell, OfRegion, TaskTree, task_of, listing_task, next_task, use_flow, rows_flow, task_flow}
use Rattle.prog_run.specs.Task as task
use Rattle.prog_run.specs.Statement.{changes_with, IsFlow, IsBegun}
use Rattle.prog_run.specs.declared.next.Step.{Step}
use Rattle.prog_run.specs.declared.next.Step.TheVariants.{Asks, Did, Over}
use Rattle.prog_run.proofs.LookLemmas.{found_last}

-- what was to be done was done, on each table state that holds what the looks found
abbrev pub IsDoneBy : (TableState → Flow) → Step → Progress → Progress → Type 0
IsDoneBy flow (Asks asked) p q = ⊥
IsDoneBy flow (Did deed) p q = ((m : TableState) → AreFound m q.looks → flow m ≡ GoesOn q) × FoundBefore p q × (q.deeds ≡ p.deeds ++ deed ∷ []) × (q.changes ≡ changes_with deed p.changes) × (q.replies ≡ p.replies)
IsDoneBy flow (Over (Aborted cause)) p q = ((m : TableState) → AreFound m q.looks → flow m ≡ Stops cause q) × FoundBefore p q × (q.deeds ≡ p.deeds) × (q.changes ≡ p.changes) × (q.replies ≡ p.replies)
IsDoneBy flow (Over Ready) p q = ⊥

-- ---- a statement does what its task does

chained : {A B : Type 0} (o : Option A) (make : A → Option B) (p : Progress) (go : B → Flow) →
    with_value (option_and_then make o) p go ≡ with_value o p (λ a. with_value (make a) p go)
chained (Some a) make p go = refl
chained None make p go = refl

mapped : {A B : Type 0} (o : Option A) (make : A → B) (p : Progress) (go : B → Flow) →
    with_value (option_map make o) p go ≡ with_value o p (λ a. go (make a))
mapped (Some a) make p go = refl
mapped None make p go = refl

module _ (tables : List TableDecl) (m : TableState) where
  pub task_law : (st : StatementTree) (p : Progress) → needs_store st ≡ true → run_statement tables m st p ≡ with_value (task_of tables st p.env) p (λ t. task_flow m t p)
  task_law (s.Bind name value) p store = absurd (true≢false (sym store))
  task_law (s.Get name table key otherwise) p store =
      sym (chained (cell_of (number_of tables table) key p.env) (λ cell. Some (task.Ask (OfCell cell (task.Get name otherwise)))) p (λ t. task_flow m t p))
  task_law (s.Need name table key) p store =
      sym (chained (cell_of (number_of tables table) key p.env) (λ cell. Some (task.Ask (OfCell cell (task.Need name)))) p (λ t. task_flow m t p))
  task_law (s.Count name table range) p store = sym (chained (region_of (number_of tables table) range p.env) _ p (λ t. task_flow m t p))
  task_law (s.Sum name table range) p store = sym (chained (region_of (number_of tables table) range p.env) _ p (λ t. task_flow m t p))
  task_law (s.Lacks table key) p store =
      sym (chained (cell_of (number_of tables table) key p.env) (λ cell. Some (task.Ask (OfCell cell task.Lacks))) p (λ t. task_flow m t p))
  task_law (s.Put table key value) p store =
      (λ i. with_value (cell_of (number_of tables table) key p.env) p (λ cell. sym (mapped (value_of value p.env) (λ v. task.Put cell v) p (λ t. task_flow m t p)) i))
      ∙ sym (chained (cell_of (number_of tables table) key p.env) (λ cell. option_map (λ v. task.Put cell v) (value_of value p.env)) p (λ t. task_flow m t p))
  task_law (s.Insert table key value) p store =
      (λ i. with_value (cell_of (number_of tables table) key p.env) p (λ cell. sym (mapped (value_of value p.env) (λ v. task.Ask (OfCell cell (task.Insert v))) p (λ t. task_flow m t p)) i))
      ∙ sym (chained (cell_of (number_of tables table) key p.env) (λ cell. option_map (λ v. task.Ask (OfCell cell (task.Insert v))) (value_of value p.env)) p (λ t. task_flow m t p))
  task_law (s.Delete table key) p store = sym (chained (cell_of (number_of tables table) key p.env) (λ cell. Some (task.Remove cell)) p (λ t. task_flow m t p))
  task_law (s.Keep table key) p store = sym (chained (cell_of (number_of tables table) key p.env) (λ cell. Some (task.Keep cell)) p (λ t. task_flow m t p))
  task_law (s.Reply value) p store = absurd (true≢false (sym store))
  task_law s.Abort p store = absurd (true≢false (sym store))

-- a statement with a task is one of the store
pub task_store : (tables : List TableDecl) (st : StatementTree) (env : Bindings) (t : TaskTree) → task_of tables st env ≡ Some t → needs_store st ≡ true
task_store tables (s.Bind name value) env t is = absurd (cc)
task_store tables (s.Get name table key otherwise) env t is = refl
task_store tables (s.Need name table key) env t is = refl
task_store tables (s.Count name table range) env t is = refl
task_store tables (s.Sum name table range) env t is = refl
task_store tables (s.Lacks table key) env t is = refl
task_store tables (s.Put table key value) env t is = refl
task_store tables (s.Insert table key value) env t is = refl
task_store tables (s.Delete table key) env t is = refl
task_store tables (s.Keep table key) env t is = refl
task_store tables (s.Reply value) env t is = absurd (cc)
task_store tables s.Abort env t is = absurd (cc)

-- ---- listings

-- whether a task is to list rows
abbrev pub lists : TaskTree → Bool
lists (task.Ask (OfRegion region (Lists l body))) = true
lists _ = false

made : {A : Type 0} (o : Option A) (make : A → Option TaskTree) (t : TaskTree) → ((a : A) (u : TaskTree) → make a ≡ Some u → lists u ≡ false) → option_and_then make o ≡ Some t → lists t ≡ false
made None make t h is = absurd (cc)
made (Some a) make t h is = h a t is

just : (x u : TaskTree) → lists x ≡ false → Some x ≡ Some u → lists u ≡ false
just x u h is = let same : x ≡ u = cc in ap lists (sym same) ∙ h

valued : (o : Option ℤ) (make : ℤ → TaskTree) (u : TaskTree) → ((v : ℤ) → lists (make v) ≡ false) → option_map make o ≡ Some u → lists u ≡ false
valued None make u h is = absurd (cc)
valued (Some v) make u h is = just (make v) u (h v) is

-- no statement without blocks lists rows
plain_lists : (tables : List TableDecl) (st : StatementTree) (env : Bindings) (t : TaskTree) → task_of tables st env ≡ Some t → lists t ≡ false
plain_lists tables (s.Bind name value) env t is = absurd (cc)
plain_lists tables (s.Get name table key otherwise) env t is = made (cell_of (number_of tables table) key env) _ t (λ cell u. just (task.Ask (OfCell cell (task.Get name otherwise))) u refl) is
plain_lists tables (s.Need name table key) env t is = made (cell_of (number_of tables table) key env) _ t (λ cell u. just (task.Ask (OfCell cell (task.Need name))) u refl) is
plain_lists tables (s.Count name table range) env t is = made (region_of (number_of tables table) range env) _ t (λ region u. just (task.Ask (OfRegion region (task.Counts name))) u refl) is
plain_lists tables (s.Sum name table range) env t is = made (region_of (number_of tables table) range env) _ t (λ region u. just (task.Ask (OfRegion region (task.Sums name))) u refl) is
plain_lists tables (s.Lacks table key) env t is = made (cell_of (number_of tables table) key env) _ t (λ cell u. just (task.Ask (OfCell cell task.Lacks)) u refl) is
plain_lists tables (s.Put table key value) env t is = made (cell_of (number_of tables table) key env) _ t (λ cell u. valued (value_of value env) (λ v. task.Put cell v) u (λ v. refl)) is
plain_lists tables (s.Insert table key value) env t is = made (cell_of (number_of tables table) key env) _ t (λ cell u. valued (value_of value env) (λ v. task.Ask (OfCell cell (task.Insert v))) u (λ v. refl)) is
plain_lists tables (s.Delete table key) env t is = made (cell_of (number_of tables table) key env) _ t (λ cell u. just (task.Remove cell) u refl) is
plain_lists tables (s.Keep table key) env t is = made (cell_of (number_of tables table) key env) _ t (λ cell u. just (task.Keep cell) u refl) is
plain_lists tables (s.Reply value) env t is = absurd (cc)
plain_lists tables s.Abort env t is = absurd (cc)

-- the region that an `each` is to list
pub record IsListing (tables : List TableDecl) (l : ListingTree) (body : BlockTree) (env : Bindings) (t : TaskTree) : Type 0 where
  pub region : Region
  pub found : region_of (number_of tables l.table) l.range env ≡ Some region
  pub is : task.Ask (OfRegion region (Lists l body)) ≡ t

pub listing_is : (tables : List TableDecl) (l : ListingTree) (body : BlockTree) (env : Bindings) (t : TaskTree) → listing_task tables l body env ≡ Some t → IsListing tables l body env t
listing_is tables l body env t has = by_region (region_of (number_of tables l.table) l.range env) refl has
  where
    by_region : (o : Option Region) → region_of (number_of tables l.table) l.range env ≡ o → option_and_then (λ region. Some (task.Ask (OfRegion region (Lists l body)))) o ≡ Some t → IsListing tables l body env t
    by_region None at found = absurd (cc)
    by_region (Some region) at found = record { region = region; found = at; is = cc }

-- ---- the first statement of a block

-- a block whose next task lists no rows begins with a statement without blocks
pub first_statement : (tables : List TableDecl) (b : BlockTree) (env : Bindings) (t : TaskTree) → lists t ≡ false → next_task tables b env ≡ Some t →
    (st : StatementTree) × (rest : BlockTree) × (b ≡ Then st rest)
first_statement tables BlockEnd env t tally is = absurd (cc)
first_statement tables (Then st rest) env t tally is = (st, rest, refl)
first_statement tables (Branch test a b rest) env t tally is = absurd (cc)
first_statement tables (Each l body rest) env t tally is = absurd (true≢false (ap lists (listing_is tables l body env t is).is ∙ tally))

-- one whose next task lists rows begins with an `each`
pub record IsAtListing (tables : List TableDecl) (b : BlockTree) (env : Bindings) (l : ListingTree) (body : BlockTree) (region : Region) : Type 0 where
  pub rest : BlockTree
  pub at : b ≡ Each l body rest
  pub found : region_of (number_of tables l.table) l.range env ≡ Some region

pub first_listing : (tables : List TableDecl) (b : BlockTree) (env : Bindings) (l : ListingTree) (body : BlockTree) (region : Region) →
    next_task tables b env ≡ Some (task.Ask (OfRegion region (Lists l body))) → IsAtListing tables b env l body region
first_listing tables BlockEnd env l body region is = absurd (cc)
first_listing tables (Then st rest) env l body region is = absurd (true≢false (plain_lists tables st env (task.Ask (OfRegion region (Lists l body))) is))
first_listing tables (Branch test a b rest) env l body region is = absurd (cc)
first_listing tables (Each k block rest) env l body region is =
    let h = listing_is tables k block env (task.Ask (OfRegion region (Lists l body))) is in
    let same = h.is in
    let head : k ≡ l = cc in
    let inner : block ≡ body = cc in
    let where_ : h.region ≡ region = cc in
    record { rest = rest; at = λ i. Each (head i) (inner i) rest; found = (λ i. region_of (number_of tables (sym head i).table) (sym head i).range env) ∙ h.found ∙ ap Some where_ }

-- ---- a task that is done

-- by a flow that needs no look
pub begun_done : (t : TaskTree) (n : Step) (p q : Progress) → ((m : TableState) → IsFlow (task_flow m t p) n p q) → IsDoneBy (λ m. task_flow m t p) n p q
begun_done t (Asks asked) p q h = absurd (h [])
begun_done t (Did deed) p q h = (λ m f. (h m).0, λ m f. subst (AreFound m) (h m).2 f, (h []).1, (h []).3, (h []).4)
begun_done t (Over (Aborted cause)) p q h = (λ m f. (h m).0, λ m f. subst (AreFound m) (h m).2 f, (h []).1, (h []).3, (h []).4)
begun_done t (Over Ready) p q h = absurd (h [])

-- to begin a task is no look
pub begun_looks : (t : TaskTree) (n : Step) (p q : Progress) → IsBegun t n p q → q.looks ≡ p.looks
begun_looks t (Asks asked) p q h = ap (λ (r : Progress). r.looks) h.0
begun_looks t (Did deed) p q h = (h []).2
begun_looks t (Over (Aborted cause)) p q h = (h []).2
begun_looks t (Over Ready) p q h = absurd (h [])

-- a look that was noted can be told from none
longer : (ls : List Look) (l : Look) → ls ++ l ∷ [] ≡ ls → ⊥
longer ls l e = let n = ap length e in omega (arith, n, length-append ls (l ∷ []))

-- a listing that is begun only asks
pub listing_asks : (region : Region) (l : ListingTree) (body : BlockTree) (p q : Progress) (deed : Deed) → IsBegun (task.Ask (OfRegion region (Lists l body))) (Did deed) p q → ⊥
listing_asks region l body p q deed h =
    let one = region_look p.changes region [] in
    let goes = (h []).0 in
    let same : did (Listed region (length (seen_rows p.changes region []))) (looked one p) ≡ q = cc in
    longer p.looks one (ap (λ (r : Progress). r.looks) same ∙ (h []).2)

pub listing_goes_on : (region : Region) (l : ListingTree) (body : BlockTree) (p q : Progress) (end : End) → IsBegun (task.Ask (OfRegion region (Lists l body))) (Over end) p q → ⊥
listing_goes_on region l body p q (Aborted cause) h = let same = (h []).0 in absurd (cc)
listing_goes_on region l body p q Ready h = h []

-- an answered look goes from p to q, and the rest of the task goes on from there
module _ (l : Look) (p : Progress) (flow : TableState → Flow) (half : Flow) (is : (m : TableState) → AreFound m (l ∷ []) → flow m ≡ half) where
  halves : (n : Step) (r : Progress) → IsFlow half n (looked l p) r → IsDoneBy flow n p r
  halves (Asks asked) r h = absurd h
  halves (Did deed) r h =
      let found : (m : TableState) → AreFound m r.looks → AreFound m p.looks × AreFound m (l ∷ []) = λ m f. found_last m p.looks l (subst (AreFound m) h.2 f) in
      (λ m f. is m (found m f).1 ∙ h.0, λ m f. (found m f).0, h.1, h.3, h.4)
  halves (Over (Aborted cause)) r h =
      let found : (m : TableState) → AreFound m r.looks → AreFound m p.looks × AreFound m (l ∷ []) = λ m f. found_last m p.looks l (subst (AreFound m) h.2 f) in
      (λ m f. is m (found m f).1 ∙ h.0, λ m f. (found m f).0, h.1, h.3, h.4)
  halves (Over Ready) r h = absurd h

-- a look at a cell that the run has not changed
pub cell_done : (cell : Cell) (usage : CellUseTree) (held : Option ℤ) (p : Progress) → change_at p.changes cell ≡ None → (n : Step) (r : Progress) →
    IsFlow (use_flow usage cell held (looked (look.One cell held) p)) n (looked (look.One cell held) p) r → IsDoneBy (λ m. task_flow m (task.Ask (OfCell cell usage)) p) n p r
cell_done cell usage held p unchanged =
    halves (look.One cell held) p (λ m. task_flow m (task.Ask (OfCell cell usage)) p) (use_flow usage cell held (looked (look.One cell held) p))
    (λ m f. ap (λ o. seen_or [] m o cell p (use_flow usage cell)) unchanged ∙ (λ i. use_flow usage cell (f.0 i) (looked (look.One cell (f.0 i)) p)))

-- a look at a region
pub rows_done : (region : Region) (usage : RegionUseTree) (rows : TableState) (p : Progress) → let own = own_cells region p.changes.cells in let left = rows_without own rows in
    let q = looked (region_look p.changes region rows) p in
    (n : Step) (r : Progress) → IsFlow (rows_flow usage region (rows_seen region p.changes.cells left) q) n q r → IsDoneBy (λ m. task_flow m (task.Ask (OfRegion region usage)) p) n p r
rows_done region usage rows p =
    let own = own_cells region p.changes.cells in
    let left = rows_without own rows in
    let q = looked (region_look p.changes region rows) p in
    halves (region_look p.changes region rows) p (λ m. task_flow m (task.Ask (OfRegion region usage)) p) (rows_flow usage region (rows_seen region p.changes.cells left) q)
    (λ m f. λ i. rows_flow usage region (rows_seen region p.changes.cells (f.0 i)) (looked (look.Range region own (f.0 i)) p))
