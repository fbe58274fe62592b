-- A sound program is what the law of paths asks for.
use Rattle.std.proofs.Common.{◌≡◌, ℕ, zero, suc, ◌<◌, Bool, true, false, ◌||◌, List, [], ◌∷◌, ◌++◌, length, get_or, zip, refl, sym, ap, ◌∙◌, arith, true≢false}
use Rattle.std.specs.Prelude.{ℤ, Option, Some, None, if◌then◌else◌}
use Rattle.std.specs.Cmp.Lexicographic.{nat_list_eq_equiv}
use Rattle.std.proofs.lemmas.List.Quantifiers.{position-Some}
use Rattle.prog_tree.specs.declared.table.TableDecl.{TableDecl}
use Rattle.prog_tree.specs.Syntax.{Name, ExprTree, KeyTree, One, Two, StatementTree, BlockTree, BlockEnd, Then, Branch, Each, ProgramTree}
use Rattle.prog_tree.specs.Syntax as s
use Rattle.prog_tree.specs.Value.{same_name, value_in}
use Rattle.prog_tree.specs.Number.{IsI64}
use Rattle.prog_tree.specs.Literals.{expr_literals, key_literals, range_literals, test_literals, statement_literals, block_literals}
use Rattle.std.specs.List.{AllByRecursion}
use Rattle.std.specs.Option.{option_or}
use Rattle.std.proofs.lemmas.List.Elements.{recursion_from_All}
use Rattle.std.proofs.lemmas.Bool.{or_parts, or_right}
use Rattle.prog_check.specs.Names.{is_among, has_twice}
use Rattle.prog_check.specs.Sound.{IsNoneOf, AllStatements, AllNew, OverwritesPlain, IsSoundProgram}
use Rattle.prog_check.specs.Uses.{new_name}
use Rattle.prog_paths.proofs.Values.{nth, EnvFits, IsApart, IsApartNew, DeletesPlain, BlockSound}
use Rattle.prog_paths.proofs.Programs.{ProgramSound, program_follows, only_path}
use Rattle.prog_paths.specs.Law.{LawOfPaths}
use Rattle.prog_paths.proofs.Numbers.{all_i64, rows_i64, LiteralFits, KeyLiteralsFit, StatementFits, BlockFits}

-- ---- names

among_same : (x y : Name) → same_name x y ≡ true → (names : List Name) → is_among names x ≡ is_among names y
among_same x y e [] = refl
among_same x y e (n ∷ names) = λ i. nat_list_eq_equiv.congr x y n e i || among_same x y e names i

-- ---- arguments at the start

no_value : (params : List Name) (args : List ℤ) (x : Name) → is_among params x ≡ false → value_in (zip params args) x ≡ None
no_value [] args x h = refl
no_value (p ∷ ps) [] x h = refl
no_value (p ∷ ps) (a ∷ as_) x h =
    let k = or_parts (same_name x p) (is_among ps x) h in
    (λ i. option_or (no_value ps as_ x k.1 i) (if (nat_list_eq_equiv.symm p x ∙ k.0) i then Some a else None))

at_place : (params : List Name) (args : List ℤ) (i : ℕ) (x : Name) → has_twice params ≡ false → length params ≡ length args → i < length params → same_name x (get_or params i []) ≡ true → value_in (zip params args) x ≡ Some (nth args i)
at_place [] args i x distinct same inside is = absurd (omega (arith, inside))
at_place (p ∷ ps) [] i x distinct same inside is = absurd (omega (arith, same))
at_place (p ∷ ps) (a ∷ as_) zero x distinct same inside is =
    let d = or_parts (is_among ps p) (has_twice ps) distinct in
    (λ i. option_or (no_value ps as_ x (among_same x p is ps ∙ d.0) i) (if (nat_list_eq_equiv.symm p x ∙ is) i then Some a else None))
at_place (p ∷ ps) (a ∷ as_) (suc i) x distinct same inside is =
    let d = or_parts (is_among ps p) (has_twice ps) distinct in
    ap (λ o. option_or o (if same_name p x then Some a else None)) (at_place ps as_ i x d.1 (omega (arith, same)) (omega (arith, inside)) is)

-- distinct parameters have their arguments
pub arguments_fit : (params : List Name) (args : List ℤ) → has_twice params ≡ false → length params ≡ length args → EnvFits params (nth args) (zip params args)
arguments_fit params args distinct same x i at =
    let r = position-Some (same_name x) params i [] at in
    at_place params args i x distinct same r.0 r.1

-- ---- blocks

is_in_names : (x : Name) (names : List Name) (j : ℕ) → j < length names → same_name x (get_or names j []) ≡ true → is_among names x ≡ true
is_in_names x [] j inside is = absurd (omega (arith, inside))
is_in_names x (n ∷ names) zero inside is = ap (λ b. b || is_among names x) is
is_in_names x (n ∷ names) (suc j) inside is = or_right (same_name x n) (is_among names x) (is_in_names x names j (omega (arith, inside)) is)

-- a name that is none of the parameters is apart from each
is_apart : (params : List Name) (y : Name) → is_among params y ≡ false → IsApart params y
is_apart params y new x i at = let r = position-Some (same_name x) params i [] at in go (same_name y x) refl (is_in_names x params i r.0 r.1)
  where
    go : (b : Bool) → same_name y x ≡ b → is_among params x ≡ true → same_name y x ≡ false
    go true is there = absurd (true≢false (sym there ∙ sym (among_same y x is params) ∙ new))
    go false is there = is

new_apart : (params : List Name) (o : Option Name) → IsNoneOf params o → IsApartNew params o
new_apart params None h = tt
new_apart params (Some y) h = is_apart params y h

deletes_plain : (tables : List TableDecl) (st : StatementTree) → OverwritesPlain tables st → DeletesPlain tables st
deletes_plain tables (s.Delete table key) h = h refl
deletes_plain tables st h = tt

block_sound : (tables : List TableDecl) (params : List Name) (block : BlockTree) → AllNew (IsNoneOf params) block → AllStatements (OverwritesPlain tables) block → BlockSound tables params block
block_sound tables params BlockEnd h k = tt
block_sound tables params (Then st rest) h k = ((new_apart params (new_name st) h.0, deletes_plain tables st k.0), block_sound tables params rest h.1 k.1)
block_sound tables params (Branch test a b rest) h k = (block_sound tables params a h.0 k.0, block_sound tables params b h.1 k.1, block_sound tables params rest h.2 k.2)
block_sound tables params (Each l body rest) h k = (is_apart params l.key h.0, is_apart params l.value h.1, block_sound tables params body h.2 k.1, block_sound tables params rest h.3 k.2)

-- ---- literals

-- the first of two lists, and the second
front : (xs ys : List ℤ) → AllByRecursion IsI64 (xs ++ ys) → AllByRecursion IsI64 xs
front [] ys h = tt
front (x ∷ xs) ys h = (h.0, front xs ys h.1)

behind : (xs ys : List ℤ) → AllByRecursion IsI64 (xs ++ ys) → AllByRecursion IsI64 ys
behind [] ys h = h
behind (x ∷ xs) ys h = behind xs ys h.1

literal_fits : (e : ExprTree) → AllByRecursion IsI64 (expr_literals e) → LiteralFits e
literal_fits (s.Literal n) h = h.0
literal_fits e h = tt

key_literals_fit : (key : KeyTree) → AllByRecursion IsI64 (key_literals key) → KeyLiteralsFit key
key_literals_fit (One a) h = literal_fits a h
key_literals_fit (Two a b) h = (literal_fits a (front (expr_literals a) (expr_literals b) h), literal_fits b (behind (expr_literals a) (expr_literals b) h))

statement_fits : (st : StatementTree) → AllByRecursion IsI64 (statement_literals st) → StatementFits st
statement_fits (s.Bind x e) h = literal_fits e h
statement_fits (s.Get x table key e) h = literal_fits e (behind (key_literals key) (expr_literals e) h)
statement_fits (s.Put table key e) h = (key_literals_fit key (front (key_literals key) (expr_literals e) h), literal_fits e (behind (key_literals key) (expr_literals e) h))
statement_fits (s.Insert table key e) h = (key_literals_fit key (front (key_literals key) (expr_literals e) h), literal_fits e (behind (key_literals key) (expr_literals e) h))
statement_fits (s.Delete table key) h = key_literals_fit key h
statement_fits st h = tt

block_fits : (block : BlockTree) → AllByRecursion IsI64 (block_literals block) → BlockFits block
block_fits BlockEnd h = tt
block_fits (Then st rest) h = (
  statement_fits st (front (statement_literals st) (block_literals rest) h),
  block_fits rest (behind (statement_literals st) (block_literals rest) h),
)
block_fits (Branch test a b rest) h =
    let t = test_literals test in
    let blocks = front (t ++ block_literals a ++ block_literals b) (block_literals rest) h in
    let first = front (t ++ block_literals a) (block_literals b) blocks in (
      block_fits a (behind t (block_literals a) first),
      block_fits b (behind (t ++ block_literals a) (block_literals b) blocks),
      block_fits rest (behind (t ++ block_literals a ++ block_literals b) (block_literals rest) h),
    )
block_fits (Each l body rest) h =
    let ends = range_literals l.range in (
      block_fits body (behind ends (block_literals body) (front (ends ++ block_literals body) (block_literals rest) h)),
      block_fits rest (behind (ends ++ block_literals body) (block_literals rest) h),
    )

-- ---- programs

pub program_sound : (tables : List TableDecl) (number : ℕ) (program : ProgramTree) (args : List ℤ) → IsSoundProgram tables number program → length program.params ≡ length args → ProgramSound tables program args
program_sound tables number program args sound same =
    record { body = block_sound tables program.params program.body sound.params_stay sound.grow_tables_stay; arguments = arguments_fit program.params args sound.params_distinct same }

-- the law of paths
pub law_of_paths : LawOfPaths
law_of_paths draft number program args m sound at same args_fit rows ready =
    let p = sound.programs number program at in
    let f = program_follows draft.tables number program args m (program_sound draft.tables number program args p same) (all_i64 args args_fit) (rows_i64 m rows) (block_fits program.body (recursion_from_All IsI64 (block_literals program.body) p.literals)) ready in
    (f, only_path draft.tables number program args m f)
