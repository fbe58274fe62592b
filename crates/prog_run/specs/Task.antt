-- What a statement of the store is to do, once all is evaluated that comes before its look.
use Rattle.std.specs.Prelude.{ℤ, pos, List, [], length, Option, Some, None, option_and_then, option_map}
use Rattle.std.specs.Option.{option_or}
use Rattle.prog_tree.specs.declared.cell.Cell.{Cell}
use Rattle.prog_tree.specs.declared.cell.Region.{Region}
use Rattle.prog_tree.specs.declared.deed.Cause.TheVariants.{Missing, Present}
use Rattle.prog_tree.specs.declared.deed.Deed.{Deed}
use Rattle.prog_tree.specs.declared.deed.Deed.TheVariants as deed
use Rattle.prog_tree.specs.declared.progress.Progress.{Progress}
use Rattle.prog_tree.specs.declared.table.TableDecl.{TableDecl}
use Rattle.prog_tree.specs.Syntax.{Name, ExprTree, ListingTree, StatementTree, BlockTree, BlockEnd, Then, Branch, Each, StmtTree, Plain, Fork, Loop}
use Rattle.prog_tree.specs.Syntax as s
use Rattle.prog_tree.specs.Tree.{expr_tree, listing_tree, block_tree}
use Rattle.prog_tree.specs.Numbering.{number_of}
use Rattle.prog_tree.specs.Value.{Bindings, value_of, exact}
use Rattle.prog_tree.specs.Table.{TableState, total_of}
use Rattle.prog_tree.specs.Steps.{bound, did, wrote, keeps}
use Rattle.prog_tree.specs.Evaluation.{Flow, GoesOn, Stops, with_value, if_present, with_seen, with_rows, cell_of, region_of}
use Rattle.prog_run.specs.declared.task.CellUse.{CellUse}
use Rattle.prog_run.specs.declared.task.CellUse.TheVariants as of_cell
use Rattle.prog_run.specs.declared.task.RegionUse.{RegionUse}
use Rattle.prog_run.specs.declared.task.RegionUse.TheVariants as of_region
use Rattle.prog_run.specs.declared.task.Asked.{Asked}
use Rattle.prog_run.specs.declared.task.Asked.TheVariants as asked
use Rattle.prog_run.specs.declared.task.Task.{Task}
use Rattle.prog_run.specs.declared.task.Task.TheVariants as task

-- what a statement does with what its cell holds; an insert has its value
pub data CellUseTree : Type 0 where
  Get : (name : Name) (otherwise : ExprTree) → CellUseTree
  Need : (name : Name) → CellUseTree
  Lacks : CellUseTree
  Insert : (value : ℤ) → CellUseTree

-- what a statement does with the rows of its region: it binds their number or their total, or makes a turn for each
pub data RegionUseTree : Type 0 where
  Counts : (name : Name) → RegionUseTree
  Sums : (name : Name) → RegionUseTree
  Lists : (listing : ListingTree) (body : BlockTree) → RegionUseTree

-- a look, and what its statement does with what it finds
pub data AskedTree : Type 0 where
  OfCell : (cell : Cell) (usage : CellUseTree) → AskedTree
  OfRegion : (region : Region) (usage : RegionUseTree) → AskedTree

pub data TaskTree : Type 0 where
  Ask : (asked : AskedTree) → TaskTree
  Put : (cell : Cell) (value : ℤ) → TaskTree
  Remove : (cell : Cell) → TaskTree
  Keep : (cell : Cell) → TaskTree

-- ---- those of the code, as plain values

abbrev pub cell_use_tree : CellUse → CellUseTree
cell_use_tree (of_cell.Get name otherwise) = Get name.now (expr_tree otherwise.now)
cell_use_tree (of_cell.Need name) = Need name.now
cell_use_tree of_cell.Lacks = Lacks
cell_use_tree (of_cell.Insert value) = Insert value

abbrev pub region_use_tree : RegionUse → RegionUseTree
region_use_tree (of_region.Count name) = Counts name.now
region_use_tree (of_region.Sum name) = Sums name.now
region_use_tree (of_region.List listing body) = Lists (listing_tree listing.now) (block_tree body.now)

abbrev pub asked_tree : Asked → AskedTree
asked_tree (asked.OfCell cell usage) = OfCell cell (cell_use_tree usage)
asked_tree (asked.OfRegion region usage) = OfRegion region (region_use_tree usage)

abbrev pub task_tree : Task → TaskTree
task_tree (task.Ask asked) = Ask (asked_tree asked)
task_tree (task.Put cell value) = Put cell value
task_tree (task.Remove cell) = Remove cell
task_tree (task.Keep cell) = Keep cell

-- ---- the task of a statement

-- the task at the cell of a key; none where the key overflows
abbrev pub task_at : List TableDecl → Name → s.KeyTree → Bindings → (Cell → Option TaskTree) → Option TaskTree
task_at tables table key env make = option_and_then make (cell_of (number_of tables table) key env)

-- the task at the cell of a key, with the value of an expression, likewise
abbrev pub task_with : List TableDecl → Name → s.KeyTree → ExprTree → Bindings → (Cell → ℤ → TaskTree) → Option TaskTree
task_with tables table key value env make =
    task_at tables table key env (λ cell. option_map (λ v. make cell v) (value_of value env))

-- the task at the rows of a range, likewise
abbrev pub task_in : List TableDecl → Name → s.RangeTree → Bindings → (Region → Option TaskTree) → Option TaskTree
task_in tables table range env make = option_and_then make (region_of (number_of tables table) range env)

-- what a statement without blocks is to do at the store; none where a result lies outside i64, or where it needs no
-- store
abbrev pub task_of : List TableDecl → StatementTree → Bindings → Option TaskTree
task_of tables (s.Bind name value) env = None
task_of tables (s.Get name table key otherwise) env =
    task_at tables table key env (λ cell. Some (Ask (OfCell cell (Get name otherwise))))
task_of tables (s.Need name table key) env = task_at tables table key env (λ cell. Some (Ask (OfCell cell (Need name))))
task_of tables (s.Count name table range) env =
    task_in tables table range env (λ region. Some (Ask (OfRegion region (Counts name))))
task_of tables (s.Sum name table range) env =
    task_in tables table range env (λ region. Some (Ask (OfRegion region (Sums name))))
task_of tables (s.Lacks table key) env = task_at tables table key env (λ cell. Some (Ask (OfCell cell Lacks)))
task_of tables (s.Put table key value) env = task_with tables table key value env (λ cell v. Put cell v)
task_of tables (s.Insert table key value) env =
    task_with tables table key value env (λ cell v. Ask (OfCell cell (Insert v)))
task_of tables (s.Delete table key) env = task_at tables table key env (λ cell. Some (Remove cell))
task_of tables (s.Keep table key) env = task_at tables table key env (λ cell. Some (Keep cell))
task_of tables (s.Reply value) env = None
task_of tables s.Abort env = None

-- an `each` is to list its rows
abbrev pub listing_task : List TableDecl → ListingTree → BlockTree → Bindings → Option TaskTree
listing_task tables l body env =
    task_in tables l.table l.range env (λ region. Some (Ask (OfRegion region (Lists l body))))

-- a branch has none
abbrev pub task_of_stmt : List TableDecl → StmtTree → Bindings → Option TaskTree
task_of_stmt tables (Plain statement) env = task_of tables statement env
task_of_stmt tables (Fork test a b) env = None
task_of_stmt tables (Loop l body) env = listing_task tables l body env

-- the task of the first statement of a block
abbrev pub next_task : List TableDecl → BlockTree → Bindings → Option TaskTree
next_task tables BlockEnd env = None
next_task tables (Then statement rest) env = task_of tables statement env
next_task tables (Branch test a b rest) env = None
next_task tables (Each l body rest) env = listing_task tables l body env

-- ---- what a task does

-- the rest of a get, once it is known what its cell holds
abbrev pub get_flow : Name → ExprTree → Cell → Option ℤ → Progress → Flow
get_flow name otherwise cell seen p =
    with_value (option_or seen (value_of otherwise p.env)) p (λ v. GoesOn (bound name v (did (deed.Read cell seen) p)))

-- the rest of a need, likewise
abbrev pub need_flow : Name → Cell → Option ℤ → Progress → Flow
need_flow name cell seen p =
    if_present seen (λ v. GoesOn (bound name v (did (deed.Read cell seen) p))) (Stops (Missing cell) p)

-- the rest of a lacks, likewise
abbrev pub lacks_flow : Cell → Option ℤ → Progress → Flow
lacks_flow cell seen p = if_present seen (λ v. Stops (Present cell) p) (GoesOn (did (deed.Read cell seen) p))

-- the rest of an insert of a value, likewise
abbrev pub insert_flow : ℤ → Cell → Option ℤ → Progress → Flow
insert_flow v cell seen p =
    if_present seen (λ w. Stops (Present cell) p) (GoesOn (did (deed.Put cell v) (wrote cell (Some v) p)))

abbrev pub use_flow : CellUseTree → Cell → Option ℤ → Progress → Flow
use_flow (Get name otherwise) cell = get_flow name otherwise cell
use_flow (Need name) cell = need_flow name cell
use_flow Lacks cell = lacks_flow cell
use_flow (Insert value) cell = insert_flow value cell

-- the rest of a count or a sum, once its value is known
abbrev pub found_flow : Name → (ℤ → Deed) → Option ℤ → Progress → Flow
found_flow name made value p = with_value value p (λ v. GoesOn (bound name v (did (made v) p)))

-- what is done once the rows are known that the run sees; the turns of an `each` come after it
abbrev pub rows_flow : RegionUseTree → Region → TableState → Progress → Flow
rows_flow (Counts name) region rows p = found_flow name (λ v. deed.Counted region v) (exact (pos (length rows))) p
rows_flow (Sums name) region rows p = found_flow name (λ v. deed.Summed region v) (exact (total_of rows)) p
rows_flow (Lists l body) region rows p = GoesOn (did (deed.Listed region (length rows)) p)

-- what a task does on a table state; the turns of an `each` come after it
abbrev pub task_flow : TableState → TaskTree → Progress → Flow
task_flow m (Ask (OfCell cell usage)) p = with_seen [] m cell p (use_flow usage cell)
task_flow m (Ask (OfRegion region usage)) p = with_rows [] m region p (rows_flow usage region)
task_flow m (Put cell v) p = GoesOn (did (deed.Put cell v) (wrote cell (Some v) p))
task_flow m (Remove cell) p = GoesOn (did (deed.Removed cell) (wrote cell None p))
task_flow m (Keep cell) p = GoesOn (did (deed.Kept cell) (keeps cell p))
