-- A draft within the limits is not refused for its size.
use Rattle.std.proofs.Common.{◌≡◌, ℕ, suc, ◌+◌, ◌<◌, ◌≤◌, Bool, false, inl, inr, List, [], ◌∷◌, ◌++◌, length, get_or, refl, sym, subst, ◌∙◌, arith, nat_lt}
use Rattle.std.specs.Prelude.{All, IfSome, Option, Some, None, slice_get}
use Rattle.std.specs.List.{list_any}
use Rattle.std.proofs.lemmas.Bool.{le-ltb, lt-leb}
use Rattle.std.proofs.lemmas.List.{length-map, length_push}
use Rattle.std.proofs.lemmas.List.Folds.{list_any_none}
use Rattle.prog_tree.specs.declared.table.Arity.{Arity}
use Rattle.prog_tree.specs.declared.table.TableDecl.{TableDecl}
use Rattle.prog_tree.specs.Syntax.{Name, ListingTree, StmtTree, BlockTree, BlockEnd, Then, Branch, Each, Plain, Fork, Loop, ProgramTree, DraftTree}
use Rattle.prog_check.specs.declared.fault.CheckFault.{CheckFault}
use Rattle.prog_check.specs.declared.fault.CheckFault.TheVariants as check
use Rattle.prog_check.specs.declared.fault.Place.{Place}
use Rattle.prog_check.specs.declared.fault.Place.TheVariants.{Program, Statement}
use Rattle.prog_check.specs.declared.path.Path.{Path}
use Rattle.prog_check.specs.Counts.{heaviest, up_to, is_above}
use Rattle.prog_check.specs.Faults.{first_broken, ◌or_else◌, place_rules, table_use_rules, value_use_rules, new_name_rules, inner_name_rules, statement_rules, block_fault, program_rules, path_rules, program_fault, programs_fault, table_rules, tables_fault, table_names, first_fault}
use Rattle.prog_check.specs.Paths.{statement_count, program_paths}
use Rattle.prog_check.specs.Sound.{IsSound, IsSoundProgram}
use Rattle.prog_check.specs.Uses.{new_name, with_new, with_inner, is_abort, used_names_by, new_name_by, used_table_by, overwrites_by}
use Rattle.prog_check.proofs.CountLemmas.{many_accesses}
use Rattle.repair_laws.specs.Refusals.{IsTooLarge}
use Rattle.repair_laws.specs.Sizes.{IsSizeFault, IsOfSizeAlone}
use Rattle.repair_laws.proofs.Rules.{AreKept, kept_append, first_kept, else_kept}

-- a fault of something else than size
abbrev IsOther : CheckFault → Type 0
IsOther fault = ¬ IsSizeFault fault

-- no fault, or such a one
abbrev IsNotOfSize : Option CheckFault → Type 0
IsNotOfSize fault = IfSome fault IsOther

-- ---- blocks

module _ (tables : List TableDecl) (program : ℕ) where
  uses-pass : (place : Place) (over : Bool) (used : Option (Name × Arity)) → AreKept IsOther (table_use_rules tables place over used)
  uses-pass place over None = tt
  uses-pass place over (Some used) = (inr (λ h. h), (inr (λ h. h), (inr (λ h. h), tt)))

  new-passes : (place : Place) (visible : List Name) (new : Option Name) → AreKept IsOther (new_name_rules place visible new)
  new-passes place visible None = tt
  new-passes place visible (Some x) = (inr (λ h. h), tt)

  statement-passes : (number : ℕ) (aborted : Bool) (visible : List Name) (s : StmtTree) → number < 256 → AreKept IsOther (statement_rules tables program number aborted visible s)
  statement-passes number aborted visible s few =
      let place : Place = Statement program number in
      let one = place_rules place number aborted in
      let two = table_use_rules tables place (overwrites_by s) (used_table_by s) in
      let three = value_use_rules place visible (used_names_by s) in
      kept_append IsOther (one ++ two ++ three) (new_name_rules place visible (new_name_by s))
      (kept_append IsOther (one ++ two) three (kept_append IsOther one two (inr (λ h. h), (inl (lt-leb 256 number few), tt)) (uses-pass place (overwrites_by s) (used_table_by s))) (inr (λ h. h), tt))
      (new-passes place visible (new_name_by s))

  inner-passes : (place : Place) (visible : List Name) (l : ListingTree) → AreKept IsOther (inner_name_rules place visible l)
  inner-passes place visible l =
      kept_append IsOther (new_name_rules place visible (Some l.key)) (new_name_rules place (with_new visible (Some l.key)) (Some l.value))
      (new-passes place visible (Some l.key)) (new-passes place (with_new visible (Some l.key)) (Some l.value))

  block-passes : (number : ℕ) (aborted : Bool) (visible : List Name) (b : BlockTree) → number + statement_count b ≤ 256 → IsNotOfSize (block_fault tables program number aborted visible b)
  block-passes number aborted visible BlockEnd few = tt
  block-passes number aborted visible (Then st rest) few =
      let own = statement_rules tables program number aborted visible (Plain st) in
      else_kept IsOther (first_broken own) (block_fault tables program (number + 1) (is_abort st) (with_new visible (new_name st)) rest)
      (first_kept IsOther own (statement-passes number aborted visible (Plain st) (omega (arith, few))))
      (block-passes (number + 1) (is_abort st) (with_new visible (new_name st)) rest (omega (arith, few)))
  block-passes number aborted visible (Branch test a b rest) few =
      let own = statement_rules tables program number aborted visible (Fork test a b) in
      let first = block_fault tables program (number + 1) false visible a in
      let second = block_fault tables program (number + 1 + statement_count a) false visible b in
      let behind = block_fault tables program (number + 1 + statement_count a + statement_count b) false visible rest in
      else_kept IsOther (first_broken own) (first or_else second or_else behind)
      (first_kept IsOther own (statement-passes number aborted visible (Fork test a b) (omega (arith, few))))
      (else_kept IsOther first (second or_else behind)
      (block-passes (number + 1) false visible a (omega (arith, few)))
      (else_kept IsOther second behind
      (block-passes (number + 1 + statement_count a) false visible b (omega (arith, few)))
      (block-passes (number + 1 + statement_count a + statement_count b) false visible rest (omega (arith, few)))))
  block-passes number aborted visible (Each l body rest) few =
      let own = statement_rules tables program number aborted visible (Loop l body) in
      let names = inner_name_rules (Statement program number) visible l in
      let inside = block_fault tables program (number + 1) false (with_inner visible l) body in
      let behind = block_fault tables program (number + 1 + statement_count body) false visible rest in
      else_kept IsOther (first_broken own) (first_broken names or_else inside or_else behind)
      (first_kept IsOther own (statement-passes number aborted visible (Loop l body) (omega (arith, few))))
      (else_kept IsOther (first_broken names) (inside or_else behind)
      (first_kept IsOther names (inner-passes (Statement program number) visible l))
      (else_kept IsOther inside behind
      (block-passes (number + 1) false (with_inner visible l) body (omega (arith, few)))
      (block-passes (number + 1 + statement_count body) false visible rest (omega (arith, few)))))

-- ---- drafts

-- its heaviest path is as heavy as is allowed
pub record IsSmallProgram (tables : List TableDecl) (p : ProgramTree) : Type 0 where
  pub params : length p.params ≤ 8
  pub statements : statement_count p.body ≤ 256
  pub accesses : is_above 24 (up_to 25 (heaviest tables p.body)) ≡ false

abbrev pub AreSmallPrograms : List TableDecl → List ProgramTree → Type 0
AreSmallPrograms tables [] = Unit {0}
AreSmallPrograms tables (p ∷ ps) = IsSmallProgram tables p × AreSmallPrograms tables ps

pub record IsWithinLimits (draft : DraftTree) : Type 0 where
  pub tables : length draft.tables ≤ 64
  pub programs : length draft.programs ≤ 16
  pub each : AreSmallPrograms draft.tables draft.programs

tables-pass : (earlier names : List Name) → length earlier + length names ≤ 64 → IsNotOfSize (tables_fault earlier names)
tables-pass earlier [] few = tt
tables-pass earlier (x ∷ xs) few =
    let longer = length_push earlier x in
    else_kept IsOther (first_broken (table_rules earlier x)) (tables_fault (earlier ++ x ∷ []) xs)
    (first_kept IsOther (table_rules earlier x) (inl (lt-leb 64 (length earlier) (omega (arith, few))), (inr (λ h. h), tt)))
    (tables-pass (earlier ++ x ∷ []) xs (omega (arith, few, longer)))

module _ (tables : List TableDecl) where
  program-passes : (earlier : List Name) (p : ProgramTree) → length earlier < 16 → IsSmallProgram tables p → IsNotOfSize (program_fault tables earlier p)
  program-passes earlier p few small =
      let number = length earlier in
      let statements = small.statements in
      let rules = path_rules (Program number) (program_paths tables number p) in
      else_kept IsOther (first_broken (program_rules earlier p)) (block_fault tables number 0 false p.params p.body or_else first_broken rules)
      (first_kept IsOther (program_rules earlier p) (inl (lt-leb 16 number few), (inr (λ h. h), (inl (le-ltb 8 (length p.params) small.params), (inr (λ h. h), tt)))))
      (else_kept IsOther (block_fault tables number 0 false p.params p.body) (first_broken rules)
      (block-passes tables number 0 false p.params p.body (omega (arith, statements)))
      (first_kept IsOther rules (inr (λ h. h), (inl (many_accesses tables number p ∙ small.accesses), tt))))

  programs-pass : (earlier : List Name) (ps : List ProgramTree) → length earlier + length ps ≤ 16 → AreSmallPrograms tables ps → IsNotOfSize (programs_fault tables earlier ps)
  programs-pass earlier [] few small = tt
  programs-pass earlier (p ∷ ps) few small =
      let longer = length_push earlier p.name in
      else_kept IsOther (program_fault tables earlier p) (programs_fault tables (earlier ++ p.name ∷ []) ps)
      (program-passes earlier p (omega (arith, few)) small.0)
      (programs-pass (earlier ++ p.name ∷ []) ps (omega (arith, few, longer)) small.1)

-- a small draft is not too large
pub small_fits : (draft : DraftTree) → IsWithinLimits draft → IsTooLarge draft → ⊥
small_fits draft small large =
    let tables = small.tables in
    let names = length-map draft.tables (λ (d : TableDecl). d.name) in
    let programs = small.programs in
    let passes = else_kept IsOther (tables_fault [] (table_names draft)) (programs_fault draft.tables [] draft.programs)
    (tables-pass [] (table_names draft) (omega (arith, tables, names)))
    (programs-pass draft.tables [] draft.programs (omega (arith, programs)) small.each) in
    subst (λ (o : Option CheckFault). IsNotOfSize o) large.1 passes tt

-- ---- a sound draft is small

light-paths : (paths : List Path) → All (λ path. length path.accesses ≤ 24) paths → list_any (λ path. nat_lt 24 (length path.accesses)) paths ≡ false
light-paths paths h = list_any_none (λ path. nat_lt 24 (length path.accesses)) paths (λ i d inside. le-ltb 24 (length (get_or paths i d).accesses) (h i d inside))

small-programs : (tables : List TableDecl) (first : ℕ) (ps : List ProgramTree) → ((n : ℕ) (p : ProgramTree) → slice_get ps n ≡ Some p → IsSoundProgram tables (first + n) p) → AreSmallPrograms tables ps
small-programs tables first [] sound = tt
small-programs tables first (p ∷ ps) sound = (own, small-programs tables (first + 1) ps (λ n q at. subst (λ k. IsSoundProgram tables k q) (next n) (sound (suc n) q at)))
  where
    next : (n : ℕ) → first + suc n ≡ first + 1 + n
    next n = omega arith

    here : IsSoundProgram tables (first + 0) p
    here = sound 0 p refl

    own : IsSmallProgram tables p
    own = record {
      params = here.few_params;
      statements = here.few_statements;
      accesses = sym (many_accesses tables (first + 0) p) ∙ light-paths (program_paths tables (first + 0) p) here.few_accesses;
    }

pub sound_small : (draft : DraftTree) → IsSound draft → IsWithinLimits draft
sound_small draft sound = record {
  tables = sound.few_tables;
  programs = sound.few_programs;
  each = small-programs draft.tables 0 draft.programs (λ n p at. subst (λ k. IsSoundProgram draft.tables k p) (from_zero n) (sound.programs n p at));
}
  where
    from_zero : (n : ℕ) → n ≡ 0 + n
    from_zero n = omega arith

-- a draft whose fault is of size alone is too large
pub size_fault : (draft : DraftTree) (found : CheckFault) → first_fault draft ≡ Some found → IsOfSizeAlone (first_fault draft) → IsTooLarge draft
size_fault draft found is alone = go found is (subst (λ (o : Option CheckFault). IsOfSizeAlone o) is alone)
  where
    go : (f : CheckFault) → first_fault draft ≡ Some f → IsSizeFault f → IsTooLarge draft
    go (check.TooMany place) e h = (place, e)
    go (check.DuplicateTable place) e h = absurd h
    go (check.DuplicateProgram place) e h = absurd h
    go (check.DuplicateParameter place) e h = absurd h
    go (check.UnknownTable place) e h = absurd h
    go (check.UnknownName place) e h = absurd h
    go (check.NameTaken place) e h = absurd h
    go (check.WrongArity place) e h = absurd h
    go (check.GrowTableChanged place) e h = absurd h
    go (check.AfterAbort place) e h = absurd h
    go (check.TooManyPaths place) e h = absurd h
    go check.Memory e h = absurd h
