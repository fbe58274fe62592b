use Rattle.std.proofs.Common.{◌≡◌, ℕ, List, sym, refl, ap, ◌∙◌, slice_get, get_or, map, length, nat_lt, arith, tests, Bor}
use Rattle.std.specs.Prelude.{Option, Some, None, is_some, IfSome, option_copied}
use Rattle.std.specs.Option.{option_and_then}
use Rattle.std.proofs.lemmas.Option.{slice_get_past, slice_get_read}
use Rattle.prog_tree.specs.declared.table.TableDecl.{TableDecl}
use Rattle.prog_tree.specs.Syntax.{Name}
use Rattle.prog_tree.specs.Value.{same_name}
use Rattle.prog_check.specs.Tables.{declaration}
use Rattle.prog_check.specs.Names.{place_among}
use Rattle.prog_check.proofs.NameLemmas.{position-map, find-position}
use Rattle.prog_check.proofs.tables.Tables.find.Goals as goal

-- the table at a name's number is the one of that name
at_number : (names : List Name) (tables : List TableDecl) (x : Name) (number : Option ℕ)
    → number ≡ place_among names x → names ≡ map (λ d. d.name) tables → option_and_then (slice_get tables) number ≡ declaration tables x
at_number names tables x number is named =
    ap (option_and_then (slice_get tables)) (is ∙ ap (λ ns. place_among ns x) named ∙ position-map (same_name x) (λ (d : TableDecl). d.name) tables) ∙ find-position (λ (d : TableDecl). same_name x d.name) tables

-- what `get` of a slice returns
got : (found : Option (Bor TableDecl)) (tables : List TableDecl) (i : ℕ)
    → is_some found ≡ nat_lt i (length tables) → IfSome found (λ d. d.now ≡ get_or tables i d.now) → option_copied found ≡ slice_get tables i
got None tables i e h = sym (slice_get_past tables i (search (tests, arith)))
got (Some d) tables i e h = sym (slice_get_read tables (length tables) i d.now refl (search (tests, arith)) h)

pub returns-in_err-number : goal.returns-in_err-number
returns-in_err-number c =
    ap option_copied c.from_residual.ensures
    ∙ at_number c.self.inside.names.now c.self.inside.declared.now c.as_str.result.now _ (sym c.in_err-number.was ∙ c.number.ensures) c.self.invariant
    ∙ (λ i. declaration (c.self.view_is i) (c.as_str.ensures i))

pub returns : goal.returns
returns c =
    got c.get.result c.self.inside.declared.now c.in_ok-number.number c.get.ensures.lookup.0 c.get.ensures.lookup.1
    ∙ at_number c.self.inside.names.now c.self.inside.declared.now c.as_str.result.now _ (sym c.in_ok-number.was ∙ c.number.ensures) c.self.invariant
    ∙ (λ i. declaration (c.self.view_is i) (c.as_str.ensures i))
