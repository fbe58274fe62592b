-- The paths of a sound draft are few.
use Rattle.std.proofs.Common.{◌≡◌, ℕ, suc, ◌+◌, ◌*◌, ◌≤◌, List, [], ◌∷◌, ◌++◌, length, map, drop, All, refl, sym, ap, subst, ◌∙◌, arith, length-append}
use Rattle.std.specs.Prelude.{Some, slice_get}
use Rattle.std.proofs.lemmas.List.{drop_all, append-nil}
use Rattle.std.proofs.lemmas.List.Elements.{All-nil, All-append}
use Rattle.prog_tree.specs.declared.program.Program.{Program}
use Rattle.prog_tree.specs.declared.program.Draft.{Draft}
use Rattle.prog_tree.specs.Tree.{draft_tree, program_tree}
use Rattle.prog_tree.specs.declared.table.TableDecl.{TableDecl}
use Rattle.prog_tree.specs.Syntax.{ProgramTree, DraftTree}
use Rattle.prog_check.specs.declared.path.Path.{Path}
use Rattle.prog_check.specs.Paths.{program_paths, paths_from, paths_of}
use Rattle.prog_check.specs.Sound.{IsSoundProgram, IsSound}
use Rattle.prog_paths.specs.Few.{IsAccessBelow, AreFew}
use Rattle.prog_paths.specs.Limits.{most_terms}
use Rattle.prog_paths.proofs.Numbered.{program_below}

abbrev FewAccesses : Path → Type 0
FewAccesses path = length path.accesses ≤ 24

abbrev LowTerms : Path → Type 0
LowTerms path = All (IsAccessBelow most_terms) path.accesses

-- the programs of a list, numbered from here on, are sound
abbrev AreSound : List TableDecl → ℕ → List ProgramTree → Type 0
AreSound tables n ps = (k : ℕ) (p : ProgramTree) → slice_get ps k ≡ Some p → IsSoundProgram tables (n + k) p

first_is_sound : (tables : List TableDecl) (n : ℕ) (p : ProgramTree) (ps : List ProgramTree) → AreSound tables n (p ∷ ps) → IsSoundProgram tables n p
first_is_sound tables n p ps h = let e : n + 0 ≡ n = omega arith in subst (λ (k : ℕ). IsSoundProgram tables k p) e (h 0 p refl)

rest_is_sound : (tables : List TableDecl) (n : ℕ) (p : ProgramTree) (ps : List ProgramTree) → AreSound tables n (p ∷ ps) → AreSound tables (n + 1) ps
rest_is_sound tables n p ps h k q at = let e : n + suc k ≡ n + 1 + k = omega arith in subst (λ (m : ℕ). IsSoundProgram tables m q) e (h (suc k) q at)

few_paths : (tables : List TableDecl) (n : ℕ) (ps : List ProgramTree) → AreSound tables n ps → length (paths_from tables n ps) ≤ 32 * length ps
few_paths tables n [] h = omega arith
few_paths tables n (p ∷ ps) h =
    let own = (first_is_sound tables n p ps h).few_paths in
    let rest = few_paths tables (n + 1) ps (rest_is_sound tables n p ps h) in
    let all = length-append (program_paths tables n p) (paths_from tables (n + 1) ps) in
    omega (arith, own, rest, all)

-- what is so of each path of a sound program is so of the paths of all
of_all : (P : Path → Type 0) (tables : List TableDecl) → ((n : ℕ) (p : ProgramTree) → IsSoundProgram tables n p → All P (program_paths tables n p)) → (n : ℕ) (ps : List ProgramTree) → AreSound tables n ps → All P (paths_from tables n ps)
of_all P tables own n [] h = All-nil P
of_all P tables own n (p ∷ ps) h =
    All-append P (program_paths tables n p) (paths_from tables (n + 1) ps)
    (own n p (first_is_sound tables n p ps h)) (of_all P tables own (n + 1) ps (rest_is_sound tables n p ps h))

few-from_sound : (draft : DraftTree) → IsSound draft → AreFew (paths_of draft)
few-from_sound draft sound =
    let paths = few_paths draft.tables 0 draft.programs all in
    let programs = sound.few_programs in
    record {
      paths = (let most : length (paths_of draft) ≤ 512 = omega (arith, paths, programs) in most);
      accesses = of_all FewAccesses draft.tables (λ n p s. s.few_accesses) 0 draft.programs all;
      terms = of_all LowTerms draft.tables (program_below draft.tables) 0 draft.programs all;
    }
  where
    all : AreSound draft.tables 0 draft.programs
    all k p at = let e : k ≡ 0 + k = omega arith in subst (λ (m : ℕ). IsSoundProgram draft.tables m p) e (sound.programs k p at)

-- when no program is left
pub all-at_end : (draft : Draft) (n : ℕ) (out : List Path) → length draft.programs.items ≤ n → out ++ paths_from draft.tables.items n (map program_tree (drop n draft.programs.items)) ≡ paths_of (draft_tree draft) → out ≡ paths_of (draft_tree draft)
all-at_end draft n out past is =
    let none = ap (λ (ps : List Program). out ++ paths_from draft.tables.items n (map program_tree ps)) (sym (drop_all n draft.programs.items past)) in
    sym (append-nil out) ∙ none ∙ is

pub few-at_end : (draft : Draft) (n : ℕ) (out : List Path) → IsSound (draft_tree draft) → length draft.programs.items ≤ n → out ++ paths_from draft.tables.items n (map program_tree (drop n draft.programs.items)) ≡ paths_of (draft_tree draft) → AreFew out
few-at_end draft n out sound past is =
    subst (λ (ps : List Path). AreFew ps) (sym (all-at_end draft n out past is)) (few-from_sound (draft_tree draft) sound)
