-- Blocks with keeps behind their marked statements.
use Rattle.std.proofs.Common.{◌≡◌, ℕ, ◌+◌, Bool, true, false, List, [], ◌∷◌, ◌++◌, All, map, refl, sym, ap, ◌∙◌, arith, get_or, option_map}
use Rattle.std.specs.Prelude.{if◌then◌else◌}
use Rattle.std.proofs.lemmas.Option.{slice_get-get_or, slice_get-map}
use Rattle.prog_tree.specs.Syntax.{BlockTree, BlockEnd, Then, Branch, Each, StmtTree, Plain, Fork, Loop, block_from, ProgramTree, DraftTree}
use Rattle.prog_tree.specs.Tree.{test_tree, stmt_tree, with_stmt, with_stmts, stmts_tree, block_tree, program_tree, draft_tree}
use Rattle.prog_tree.specs.declared.program.Draft.{Draft}
use Rattle.prog_tree.specs.declared.expr.Test.{Test}
use Rattle.prog_tree.specs.declared.stmt.Block.{Block}
use Rattle.prog_tree.specs.declared.stmt.Listing.{Listing}
use Rattle.prog_tree.specs.declared.stmt.Stmt.{Stmt}
use Rattle.prog_tree.specs.declared.stmt.Stmt as t
use Rattle.prog_tree.proofs.TreeLemmas.{fork_tree, loop_tree}
use Rattle.prog_check.specs.Paths.{statement_count}
use Rattle.prog_check.specs.Sound.{IsSound}
use Rattle.repair_laws.specs.Materialised.{in_front}
use Rattle.repair_laws.proofs.Putting.{with_stmts-append, keeps-front}
use Rattle.repair_laws.specs.Promoted.{keep_of, with_keeps, all_with_keeps, promoted_by}
use Rattle.si_repair.specs.Behind.{cell_read_by, count_by, with_keeps_in, HasFewStatements}

-- nothing in front, whatever is marked
nothing_in_front : (b : Bool) (rest : BlockTree) → in_front (if b then [] else []) rest ≡ rest
nothing_in_front true rest = refl
nothing_in_front false rest = refl

-- a block with keeps begins with its first statement, and the keep behind it
pub keeps-first : (marked : ℕ → Bool) (number : ℕ) (x : StmtTree) (rest : BlockTree)
    → with_keeps marked number (block_from x rest)
    ≡ block_from (with_keeps_in marked number x) (in_front (if marked number then keep_of (cell_read_by x) else []) (with_keeps marked (number + count_by x) rest))
keeps-first marked number (Plain s) rest = refl
keeps-first marked number (Fork test a b) rest =
    let next : number + 1 + statement_count a + statement_count b ≡ number + (1 + statement_count a + statement_count b) = omega arith in
    ap (Branch test (with_keeps marked (number + 1) a) (with_keeps marked (number + 1 + statement_count a) b))
    (ap (λ n. with_keeps marked n rest) next
    ∙ sym (nothing_in_front (marked number) (with_keeps marked (number + (1 + statement_count a + statement_count b)) rest)))
keeps-first marked number (Loop l body) rest =
    let next : number + 1 + statement_count body ≡ number + (1 + statement_count body) = omega arith in
    ap (Each l body)
    (ap (λ n. with_keeps marked n rest) next
    ∙ sym (nothing_in_front (marked number) (with_keeps marked (number + (1 + statement_count body)) rest)))

-- a block has the statements of its first one, and the rest
pub count-first : (x : StmtTree) (rest : BlockTree) → statement_count (block_from x rest) ≡ count_by x + statement_count rest
count-first (Plain s) rest = refl
count-first (Fork test a b) rest = refl
count-first (Loop l body) rest = refl

-- one more statement of a block, with what stands behind it
pub keeps-more : (marked : ℕ → Bool) (number next : ℕ) (done keeps : List Stmt) (stmt kept : Stmt) (rest : List Stmt)
    → next ≡ number + count_by (stmt_tree stmt)
    → stmt_tree kept ≡ with_keeps_in marked number (stmt_tree stmt)
    → map stmt_tree keeps ≡ map Plain (if marked number then keep_of (cell_read_by (stmt_tree stmt)) else [])
    → with_stmts ((done ++ kept ∷ []) ++ keeps) (with_keeps marked next (stmts_tree rest))
    ≡ with_stmts done (with_keeps marked number (stmts_tree (stmt ∷ rest)))
keeps-more marked number next done keeps stmt kept rest is_next is_kept are_keeps =
    let behind = if marked number then keep_of (cell_read_by (stmt_tree stmt)) else [] in
    with_stmts-append (done ++ kept ∷ []) keeps (with_keeps marked next (stmts_tree rest))
    ∙ with_stmts-append done (kept ∷ []) (with_stmts keeps (with_keeps marked next (stmts_tree rest)))
    ∙ ap (with_stmts done) (ap (with_stmt kept) (keeps-front keeps behind (with_keeps marked next (stmts_tree rest)) are_keeps)
    ∙ (λ i. block_from (is_kept i) (in_front behind (with_keeps marked (is_next i) (stmts_tree rest))))
    ∙ sym (keeps-first marked number (stmt_tree stmt) (stmts_tree rest)))

-- ---- where nothing is marked

abbrev pub none_marked : ℕ → ℕ → Bool
none_marked program number = false

keeps-none : (number : ℕ) (b : BlockTree) → with_keeps (λ n. false) number b ≡ b
keeps-none number BlockEnd = refl
keeps-none number (Then s rest) = ap (Then s) (keeps-none (number + 1) rest)
keeps-none number (Branch test a b rest) =
    λ i. Branch test (keeps-none (number + 1) a i) (keeps-none (number + 1 + statement_count a) b i) (keeps-none (number + 1 + statement_count a + statement_count b) rest i)
keeps-none number (Each l body rest) = ap (Each l body) (keeps-none (number + 1 + statement_count body) rest)

all-none : (program : ℕ) (ps : List ProgramTree) → all_with_keeps none_marked program ps ≡ ps
all-none program [] = refl
all-none program (p ∷ ps) = λ i. record { name = p.name; params = p.params; body = keeps-none 0 p.body i } ∷ all-none (program + 1) ps i

pub promoted-none : (draft : DraftTree) → promoted_by draft none_marked ≡ draft
promoted-none draft = λ i. record { tables = draft.tables; programs = all-none 0 draft.programs i }

-- ---- branches

pub count-fork : (stmt : Stmt) (x : Test) (a b : Block) → stmt ≡ t.Branch x a b → count_by (stmt_tree stmt) ≡ 1 + statement_count (block_tree a) + statement_count (block_tree b)
count-fork stmt x a b is = ap count_by (ap stmt_tree is ∙ fork_tree x a b)

pub keeps-fork : (marked : ℕ → Bool) (number : ℕ) (stmt : Stmt) (x : Test) (a b : Block) → stmt ≡ t.Branch x a b
    → with_keeps_in marked number (stmt_tree stmt)
    ≡ Fork (test_tree x) (with_keeps marked (number + 1) (block_tree a)) (with_keeps marked (number + 1 + statement_count (block_tree a)) (block_tree b))
keeps-fork marked number stmt x a b is = ap (with_keeps_in marked number) (ap stmt_tree is ∙ fork_tree x a b)

-- ---- bodies

pub count-loop : (stmt : Stmt) (l : Listing) (body : Block) → stmt ≡ t.Each l body → count_by (stmt_tree stmt) ≡ 1 + statement_count (block_tree body)
count-loop stmt l body is = ap count_by (ap stmt_tree is ∙ loop_tree l body)

-- ---- programs of a sound draft

pub few_statements : (draft : Draft) → IsSound (draft_tree draft) → All HasFewStatements draft.programs.items
few_statements draft sound k d inside =
    let ps = draft.programs.items in
    (sound.programs k (program_tree (get_or ps k d)) (slice_get-map program_tree ps k ∙ ap (option_map program_tree) (slice_get-get_or ps k d inside))).few_statements
