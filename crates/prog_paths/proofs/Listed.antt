-- The list of paths, program by program.
use Rattle.std.proofs.Common.{◌≡◌, ℕ, ◌<◌, ◌≤◌, List, [], ◌∷◌, map, length, get_or, refl}
use Rattle.std.proofs.lemmas.Option.{slice_get_read}
use Rattle.prog_tree.specs.declared.program.Program.{Program}
use Rattle.prog_tree.specs.declared.program.Draft.{Draft}
use Rattle.prog_tree.specs.declared.table.TableDecl.{TableDecl}
use Rattle.prog_tree.specs.Syntax.{Name}
use Rattle.prog_tree.specs.Tree.{draft_tree, program_tree}
use Rattle.prog_tree.proofs.Elements.{mapped_at}
use Rattle.prog_check.specs.declared.path.Path.{Path}
use Rattle.prog_check.specs.Paths.{Route, statement_count, path_of}
use Rattle.prog_check.specs.Sound.{IsSound}
use Rattle.prog_paths.specs.Trails.{path_with, trail_of, along}

-- a trail from the start along a route is the route's path
pub listed : (tables : List TableDecl) (params : List Name) (n : ℕ) (rs : List Route) → map (path_with n) (map (along tables params (trail_of [] [] 0)) rs) ≡ map (path_of tables n params) rs
listed tables params n [] = refl
listed tables params n (r ∷ rs) = λ i. path_of tables n params r ∷ listed tables params n rs i

-- a program of a sound draft has at most 256 statements
pub few_of : (d : Draft) (n : ℕ) (p : Program) → IsSound (draft_tree d) → n < length d.programs.items → p ≡ get_or d.programs.items n p → statement_count (program_tree p).body ≤ 256
few_of d n p sound inside is = (sound.programs n (program_tree p) (mapped_at program_tree d.programs.items n p (slice_get_read d.programs.items (length d.programs.items) n p refl inside is))).few_statements
