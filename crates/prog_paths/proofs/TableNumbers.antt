-- A table by its name's place.
use Rattle.std.proofs.Common.{◌≡◌, ℕ, ◌<◌, List, map, length, get_or, slice_get, refl, ap, sym, ◌∙◌}
use Rattle.std.specs.Prelude.{Option, Some, None}
use Rattle.std.specs.Option.{option_and_then}
use Rattle.std.proofs.lemmas.Option.{slice_get_read}
use Rattle.prog_tree.specs.declared.table.TableDecl.{TableDecl}
use Rattle.prog_tree.specs.Syntax.{Name}
use Rattle.prog_tree.specs.Value.{same_name}
use Rattle.prog_check.specs.Names.{place_among}
use Rattle.prog_check.specs.Tables.{declaration, grows}
use Rattle.prog_check.proofs.NameLemmas.{position-map, find-position}

-- the table at a place of names
pub placed : (tables : List TableDecl) (x : Name) (place : Option ℕ) → place ≡ place_among (map (λ d. d.name) tables) x → option_and_then (slice_get tables) place ≡ declaration tables x
placed tables x place e =
    ap (option_and_then (slice_get tables)) (e ∙ position-map (same_name x) (λ (d : TableDecl). d.name) tables)
    ∙ find-position (λ (d : TableDecl). same_name x d.name) tables

pub grows_at : (tables : List TableDecl) (x : Name) (n : ℕ) (d : TableDecl) → Some n ≡ place_among (map (λ t. t.name) tables) x → n < length tables → d ≡ get_or tables n d → d.grow ≡ grows (declaration tables x)
grows_at tables x n d e inside is =
    ap grows (sym (slice_get_read tables (length tables) n d refl inside is) ∙ placed tables x (Some n) e)

pub none_declared : (tables : List TableDecl) (x : Name) → None ≡ place_among (map (λ t. t.name) tables) x → None ≡ declaration tables x
none_declared tables x e = placed tables x None e
