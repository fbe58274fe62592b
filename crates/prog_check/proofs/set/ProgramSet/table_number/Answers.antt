use Rattle.std.proofs.Common.{◌≡◌, ◌∙◌, ℕ, ◌+◌, List, [], ◌∷◌, map, length, refl, ap, subst, cond, Bool, true, false, not, nat_lt, if◌then◌else◌, tests, arith}
use Rattle.std.specs.Prelude.{Some, None, unwrap_or}
use Rattle.std.specs.Cmp.Lexicographic.{nat_list_eq_equiv}
use Rattle.std.specs.List.{position, position_or_len}
use Rattle.std.proofs.lemmas.List.Sums.{prefix_len-le-length}
use Rattle.prog_tree.specs.declared.program.Draft.{Draft}
use Rattle.prog_tree.specs.declared.table.TableDecl.{TableDecl}
use Rattle.prog_tree.specs.Numbering.{number_of}
use Rattle.prog_tree.specs.Syntax.{Name}
use Rattle.prog_tree.specs.Value.{same_name}
use Rattle.prog_check.specs.Names.{place_among}
use Rattle.prog_check.proofs.NameLemmas.{position-map}
use Rattle.prog_check.proofs.set.ProgramSet.table_number.Goals as goal

module _ (x : Name) where
  abbrev is_named : TableDecl → Bool
  is_named table = same_name x table.name

  counted : (tables : List TableDecl) → position_or_len is_named tables ≡ number_of tables x
  counted [] = refl
  counted (d ∷ tables) =
      let rest = position_or_len is_named tables in
      let one_more : 1 + rest ≡ number_of tables x + 1 = omega (arith, counted tables) in
      (λ i. cond (not (nat_list_eq_equiv.symm x d.name i)) (1 + rest) 0)
      ∙ elim (same_name d.name x) as (λ b. cond (not b) (1 + rest) 0 ≡ (if b then 0 else number_of tables x + 1)) [ true ↦ refl | false ↦ one_more ]

  -- the place of a table of this name, or else how many tables there are
  numbered : (tables : List TableDecl) → unwrap_or (position is_named tables) (length tables) ≡ number_of tables x
  numbered tables = by (nat_lt at (length tables)) refl
    where
      at : ℕ
      at = position_or_len is_named tables

      by : (b : Bool) → nat_lt at (length tables) ≡ b → unwrap_or (cond b (Some at) None) (length tables) ≡ number_of tables x
      by true e = counted tables
      by false e =
          let within = prefix_len-le-length (λ table. not (is_named table)) tables in
          let past : length tables ≡ at = search (tests, arith, within, e) in
          past ∙ counted tables

  -- the same by the names alone
  numbered_name : (tables : List TableDecl) → unwrap_or (place_among (map (λ (d : TableDecl). d.name) tables) x) (length tables) ≡ number_of tables x
  numbered_name tables = ap (λ place. unwrap_or place (length tables)) (position-map (same_name x) (λ (d : TableDecl). d.name) tables) ∙ numbered tables

pub returns-clause-number : goal.returns-clause-number
returns-clause-number c =
    let x = c.args.name.now in
    let held = c.self.inside.draft.tables.items in
    let place = c.number.ensures ∙ (λ i. place_among (c.self.invariant.tables_named i) x) in
    ap (λ found. unwrap_or found (length c.args.self.now.tables.items)) place
    ∙ subst (λ (d : Draft). unwrap_or (place_among (map (λ (t : TableDecl). t.name) held) x) (length d.tables.items) ≡ number_of d.tables.items x) c.self.view_is (numbered_name x held)
