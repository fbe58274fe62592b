-- What fewer pairs of a plan make is no larger.
use Rattle.std.proofs.Common.{◌≡◌, ℕ, suc, ◌+◌, ◌≤◌, Bool, true, false, List, [], ◌∷◌, ◌++◌, map, length, min, refl, sym, subst, ap, ◌∙◌, arith}
use Rattle.std.specs.Prelude.{Option, Some, None, if◌then◌else◌}
use Rattle.std.specs.List.{flat_map}
use Rattle.std.proofs.lemmas.Bool.{le-ltb, ltb-false}
use Rattle.std.proofs.lemmas.List.{length-append, length-map}
use Rattle.prog_tree.specs.declared.table.Arity.{Arity}
use Rattle.prog_tree.specs.declared.table.TableDecl.{TableDecl}
use Rattle.prog_tree.specs.Syntax.{Name, KeyTree, One, TestTree, ListingTree, StatementTree, BlockTree, BlockEnd, Then, Branch, Each, ProgramTree, DraftTree}
use Rattle.prog_tree.specs.Syntax as s
use Rattle.prog_tree.specs.Value.{same_name}
use Rattle.prog_check.specs.Accesses.{kinds_of, grows_used}
use Rattle.prog_check.specs.Counts.{access_count, body_count, larger, added_weights, heaviest, up_to, is_above}
use Rattle.prog_check.specs.Paths.{statement_count}
use Rattle.prog_check.specs.Tables.{declaration, grows}
use Rattle.prog_check.specs.Uses.{used_table, is_abort, as_count}
use Rattle.repair_laws.specs.declared.plan.NewTable.{NewTable}
use Rattle.repair_laws.specs.Materialised.{plain_table, column_of, keep_in, keeps_for, columns_for, in_front, all_with_front, materialised_by}
use Rattle.repair_laws.specs.Promoted.{cell_read, keep_of, with_keeps, all_with_keeps, promoted_by}
use Rattle.si_repair.proofs.Limits.{IsSmallProgram, AreSmallPrograms, IsWithinLimits}

-- ---- weights

-- a weight is no more than another; none is no more than any
abbrev AtMost : Option ℕ → Option ℕ → Type 0
AtMost None m = Unit {0}
AtMost (Some n) None = ⊥
AtMost (Some n) (Some m) = n ≤ m

most-added : (a b c d : Option ℕ) → AtMost a b → AtMost c d → AtMost (added_weights a c) (added_weights b d)
most-added None b c d h k = tt
most-added (Some a) None c d h k = absurd h
most-added (Some a) (Some b) None d h k = tt
most-added (Some a) (Some b) (Some c) None h k = absurd k
most-added (Some a) (Some b) (Some c) (Some d) h k = omega (arith, h, k)

most-larger : (a b c d : Option ℕ) → AtMost a b → AtMost c d → AtMost (larger a c) (larger b d)
most-larger None None c d h k = k
most-larger None (Some b) None d h k = tt
most-larger None (Some b) (Some c) None h k = absurd k
most-larger None (Some b) (Some c) (Some d) h k = omega (arith, k)
most-larger (Some a) None c d h k = absurd h
most-larger (Some a) (Some b) None None h k = h
most-larger (Some a) (Some b) None (Some d) h k = omega (arith, h)
most-larger (Some a) (Some b) (Some c) None h k = absurd k
most-larger (Some a) (Some b) (Some c) (Some d) h k = omega (arith, h, k)

-- with one access more
most-more : (a b : Option ℕ) → AtMost a b → AtMost a (added_weights (Some 1) b)
most-more None b h = tt
most-more (Some a) None h = absurd h
most-more (Some a) (Some b) h = omega (arith, h)

most-above : (a b : Option ℕ) → AtMost a b → is_above 24 (up_to 25 b) ≡ false → is_above 24 (up_to 25 a) ≡ false
most-above None b h k = refl
most-above (Some a) None h k = absurd h
most-above (Some a) (Some b) h k = let few = ltb-false 24 (min b 25) k in le-ltb 24 (min a 25) (omega (arith, h, few))

-- ---- blocks, where both lists of tables give each statement the same accesses

module _ (fewer more : List TableDecl) (same : (st : StatementTree) → access_count fewer st ≡ access_count more st) where
  -- a block is no longer than another, nor is its heaviest path heavier
  record IsLighter (a b : BlockTree) : Type 0 where
    statements : statement_count a ≤ statement_count b
    weight : AtMost (heaviest fewer a) (heaviest more b)

  body-same : (b : BlockTree) → body_count fewer b ≡ body_count more b
  body-same BlockEnd = refl
  body-same (Then st rest) = λ i. same st i + body-same rest i
  body-same (Branch test a b rest) = λ i. body-same a i + body-same b i + body-same rest i
  body-same (Each l body rest) = λ i. same (as_count l) i + body-same body i + body-same rest i

  lighter-end : IsLighter BlockEnd BlockEnd
  lighter-end = record { statements = omega arith; weight = omega arith }

  lighter-then : (st : StatementTree) (a b : BlockTree) → IsLighter a b → IsLighter (Then st a) (Then st b)
  lighter-then st a b h = let few = h.statements in record { statements = omega (arith, few); weight = go (is_abort st) }
    where
      go : (aborts : Bool) → AtMost (if aborts then None else added_weights (Some (access_count fewer st)) (heaviest fewer a)) (if aborts then None else added_weights (Some (access_count more st)) (heaviest more b))
      go true = tt
      go false = let own = same st in most-added (Some (access_count fewer st)) (Some (access_count more st)) (heaviest fewer a) (heaviest more b) (omega (arith, own)) h.weight

  lighter-branch : (test : TestTree) (a b rest c d later : BlockTree) → IsLighter a c → IsLighter b d → IsLighter rest later → IsLighter (Branch test a b rest) (Branch test c d later)
  lighter-branch test a b rest c d later h k l =
      let first = h.statements in
      let second = k.statements in
      let behind = l.statements in record {
        statements = omega (arith, first, second, behind);
        weight = most-added (larger (heaviest fewer a) (heaviest fewer b)) (larger (heaviest more c) (heaviest more d)) (heaviest fewer rest) (heaviest more later)
            (most-larger (heaviest fewer a) (heaviest more c) (heaviest fewer b) (heaviest more d) h.weight k.weight) l.weight;
      }

  lighter-each : (l : ListingTree) (body rest later : BlockTree) → IsLighter rest later → IsLighter (Each l body rest) (Each l body later)
  lighter-each l body rest later h =
      let few = h.statements in
      let own = same (as_count l) in
      let inside = body-same body in record {
        statements = omega (arith, few);
        weight = most-added (Some (access_count fewer (as_count l) + body_count fewer body)) (Some (access_count more (as_count l) + body_count more body)) (heaviest fewer rest) (heaviest more later)
            (omega (arith, own, inside)) h.weight;
      }

  -- a keep more
  lighter-keep : (t : Name) (key : KeyTree) (a b : BlockTree) → IsLighter a b → IsLighter a (Then (s.Keep t key) b)
  lighter-keep t key a b h = let few = h.statements in record { statements = omega (arith, few); weight = most-more (heaviest fewer a) (heaviest more b) h.weight }

  lighter-same : (b : BlockTree) → IsLighter b b
  lighter-same BlockEnd = lighter-end
  lighter-same (Then st rest) = lighter-then st rest rest (lighter-same rest)
  lighter-same (Branch test a b rest) = lighter-branch test a b rest a b rest (lighter-same a) (lighter-same b) (lighter-same rest)
  lighter-same (Each l body rest) = lighter-each l body rest rest (lighter-same rest)

  -- what is lighter than a small program is small
  small-lighter : (name : Name) (params : List Name) (a b : BlockTree) → IsLighter a b
      → IsSmallProgram more (record { name = name; params = params; body = b }) → IsSmallProgram fewer (record { name = name; params = params; body = a })
  small-lighter name params a b h small =
      let few = small.statements in
      let less = h.statements in record {
        params = small.params;
        statements = omega (arith, few, less);
        accesses = most-above (heaviest fewer a) (heaviest more b) h.weight small.accesses;
      }

  -- ---- keeps in front

  -- the same statements in front of both
  lighter-front : (ks : List StatementTree) (a b : BlockTree) → IsLighter a b → IsLighter (in_front ks a) (in_front ks b)
  lighter-front [] a b h = h
  lighter-front (k ∷ ks) a b h = lighter-then k (in_front ks a) (in_front ks b) (lighter-front ks a b h)

  -- a pair's keeps in front of the second
  lighter-columns : (t : Name) (params : List Name) (cs : List (Option ℕ)) (a b : BlockTree) → IsLighter a b → IsLighter a (in_front (map (keep_in t params) cs) b)
  lighter-columns t params [] a b h = h
  lighter-columns t params (c ∷ cs) a b h = lighter-keep t (One (column_of params c)) a (in_front (map (keep_in t params) cs) b) (lighter-columns t params cs a b h)

  front-both : (xs ys : List StatementTree) (b : BlockTree) → in_front (xs ++ ys) b ≡ in_front xs (in_front ys b)
  front-both [] ys b = refl
  front-both (x ∷ xs) ys b = ap (Then x) (front-both xs ys b)

  lighter-met : (program : ℕ) (params : List Name) (made new : List NewTable) (b : BlockTree) → IsLighter (in_front (flat_map (keeps_for program params) made) b) (in_front (flat_map (keeps_for program params) (made ++ new)) b)
  lighter-met program params [] [] b = lighter-same b
  lighter-met program params [] (m ∷ new) b =
      let behind = in_front (flat_map (keeps_for program params) new) b in
      subst (λ (x : BlockTree). IsLighter b x) (sym (front-both (keeps_for program params m) (flat_map (keeps_for program params) new) b))
      (lighter-columns m.table params (columns_for program m) b behind (lighter-met program params [] new b))
  lighter-met program params (m ∷ made) new b =
      let front = keeps_for program params m in
      let less = flat_map (keeps_for program params) made in
      let all = flat_map (keeps_for program params) (made ++ new) in
      subst (λ (x : BlockTree). IsLighter x (in_front (front ++ all) b)) (sym (front-both front less b))
      (subst (λ (x : BlockTree). IsLighter (in_front front (in_front less b)) x) (sym (front-both front all b))
      (lighter-front front (in_front less b) (in_front all b) (lighter-met program params made new b)))

  small-fronts : (made new : List NewTable) (program : ℕ) (ps : List ProgramTree) → AreSmallPrograms more (all_with_front (made ++ new) program ps) → AreSmallPrograms fewer (all_with_front made program ps)
  small-fronts made new program [] small = tt
  small-fronts made new program (p ∷ ps) small = (
    small-lighter p.name p.params (in_front (flat_map (keeps_for program p.params) made) p.body) (in_front (flat_map (keeps_for program p.params) (made ++ new)) p.body) (lighter-met program p.params made new p.body) small.0,
    small-fronts made new (program + 1) ps small.1,
  )

  -- ---- keeps behind marked statements

  lighter-behind : (m n : Bool) → (m ≡ true → n ≡ true) → (o : Option (Name × KeyTree)) (a b : BlockTree) → IsLighter a b → IsLighter (in_front (if m then keep_of o else []) a) (in_front (if n then keep_of o else []) b)
  lighter-behind false false also o a b h = h
  lighter-behind false true also None a b h = h
  lighter-behind false true also (Some read) a b h = lighter-keep read.0 read.1 a b h
  lighter-behind true true also o a b h = lighter-front (keep_of o) a b h
  lighter-behind true false also o a b h = absurd (cc (also refl))

  lighter-marked : (marked all : ℕ → Bool) → ((n : ℕ) → marked n ≡ true → all n ≡ true) → (number : ℕ) (b : BlockTree) → IsLighter (with_keeps marked number b) (with_keeps all number b)
  lighter-marked marked all also number BlockEnd = lighter-end
  lighter-marked marked all also number (Then st rest) =
      let less = with_keeps marked (number + 1) rest in
      let more = with_keeps all (number + 1) rest in
      lighter-then st (in_front (if marked number then keep_of (cell_read st) else []) less) (in_front (if all number then keep_of (cell_read st) else []) more)
      (lighter-behind (marked number) (all number) (also number) (cell_read st) less more (lighter-marked marked all also (number + 1) rest))
  lighter-marked marked all also number (Branch test a b rest) =
      let second = number + 1 + statement_count a in
      let behind = number + 1 + statement_count a + statement_count b in
      lighter-branch test (with_keeps marked (number + 1) a) (with_keeps marked second b) (with_keeps marked behind rest) (with_keeps all (number + 1) a) (with_keeps all second b) (with_keeps all behind rest)
      (lighter-marked marked all also (number + 1) a) (lighter-marked marked all also second b) (lighter-marked marked all also behind rest)
  lighter-marked marked all also number (Each l body rest) =
      let behind = number + 1 + statement_count body in
      lighter-each l body (with_keeps marked behind rest) (with_keeps all behind rest) (lighter-marked marked all also behind rest)

  small-marks : (marked all : ℕ → ℕ → Bool) → ((program n : ℕ) → marked program n ≡ true → all program n ≡ true) → (program : ℕ) (ps : List ProgramTree)
      → AreSmallPrograms more (all_with_keeps all program ps) → AreSmallPrograms fewer (all_with_keeps marked program ps)
  small-marks marked all also program [] small = tt
  small-marks marked all also program (p ∷ ps) small = (
    small-lighter p.name p.params (with_keeps (marked program) 0 p.body) (with_keeps (all program) 0 p.body) (lighter-marked (marked program) (all program) (also program) 0 p.body) small.0,
    small-marks marked all also (program + 1) ps small.1,
  )

-- ---- new tables don't grow

plain-stays : (x : Name) (made : List NewTable) → grows (declaration (map (λ m. plain_table m.table) made) x) ≡ false
plain-stays x [] = refl
plain-stays x (m ∷ made) = go (same_name x m.table) (plain-stays x made)
  where
    go : (b : Bool) → grows (declaration (map (λ m. plain_table m.table) made) x) ≡ false → grows (if b then Some (plain_table m.table) else declaration (map (λ m. plain_table m.table) made) x) ≡ false
    go true rest = refl
    go false rest = rest

grows-as : (tables : List TableDecl) (made : List NewTable) (x : Name) → grows (declaration (tables ++ map (λ m. plain_table m.table) made) x) ≡ grows (declaration tables x)
grows-as [] made x = plain-stays x made
grows-as (t ∷ tables) made x = go (same_name x t.name) (grows-as tables made x)
  where
    go : (b : Bool) → grows (declaration (tables ++ map (λ m. plain_table m.table) made) x) ≡ grows (declaration tables x)
        → grows (if b then Some t else declaration (tables ++ map (λ m. plain_table m.table) made) x) ≡ grows (if b then Some t else declaration tables x)
    go true rest = refl
    go false rest = rest

count-as : (tables : List TableDecl) (made : List NewTable) (st : StatementTree) → access_count (tables ++ map (λ m. plain_table m.table) made) st ≡ access_count tables st
count-as tables made st = ap (λ (g : Bool). length (kinds_of g st)) (go (used_table st))
  where
    go : (used : Option (Name × Arity)) → grows_used (tables ++ map (λ m. plain_table m.table) made) used ≡ grows_used tables used
    go None = refl
    go (Some u) = grows-as tables made u.0

-- ---- drafts

-- where all pairs make a small draft, so do the first of them
pub fewer_met_small : (draft : DraftTree) (made new : List NewTable) → IsWithinLimits (materialised_by draft (made ++ new)) → IsWithinLimits (materialised_by draft made)
fewer_met_small draft made new small =
    let table : NewTable → TableDecl = λ m. plain_table m.table in
    let fewer = draft.tables ++ map table made in
    let more = draft.tables ++ map table (made ++ new) in
    let tables = small.tables in
    let programs = small.programs in
    let a = length-append draft.tables (map table made) in
    let b = length-append draft.tables (map table (made ++ new)) in
    let c = length-map made table in
    let d = length-map (made ++ new) table in
    let e = length-append made new in record {
      tables = omega (arith, tables, a, b, c, d, e);
      programs = subst (λ n. n ≤ 16) (as-many (made ++ new) made 0 draft.programs) programs;
      each = small-fronts fewer more (λ st. count-as draft.tables made st ∙ sym (count-as draft.tables (made ++ new) st)) made new 0 draft.programs small.each;
    }
  where
    as-many : (xs ys : List NewTable) (program : ℕ) (ps : List ProgramTree) → length (all_with_front xs program ps) ≡ length (all_with_front ys program ps)
    as-many xs ys program [] = refl
    as-many xs ys program (p ∷ ps) = ap suc (as-many xs ys (program + 1) ps)

-- where more marks make a small draft, so do fewer
pub fewer_marks_small : (draft : DraftTree) (marked all : ℕ → ℕ → Bool) → ((program number : ℕ) → marked program number ≡ true → all program number ≡ true)
    → IsWithinLimits (promoted_by draft all) → IsWithinLimits (promoted_by draft marked)
fewer_marks_small draft marked all also small = record {
  tables = small.tables;
  programs = subst (λ n. n ≤ 16) (as-many 0 draft.programs) small.programs;
  each = small-marks draft.tables draft.tables (λ st. refl) marked all also 0 draft.programs small.each;
}
  where
    as-many : (program : ℕ) (ps : List ProgramTree) → length (all_with_keeps all program ps) ≡ length (all_with_keeps marked program ps)
    as-many program [] = refl
    as-many program (p ∷ ps) = ap suc (as-many (program + 1) ps)
