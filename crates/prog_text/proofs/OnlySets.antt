-- What is spelled so is read so: tables, programs and sets.
use Rattle.std.proofs.Common.{◌≡◌, List, [], ◌∷◌, ◌++◌, length, length-append, None, Ok, refl, subst, arith}
use Rattle.std.proofs.lemmas.List.{append-nil}
use Rattle.prog_tree.specs.Syntax.{Name, ProgramTree, DraftTree}
use Rattle.prog_tree.specs.declared.table.TableDecl.{TableDecl}
use Rattle.prog_text.specs.declared.lexing.token.Token.{Token}
use Rattle.prog_text.specs.declared.lexing.token.Sign.TheVariants as sign
use Rattle.prog_text.specs.declared.lexing.token.Token.TheVariants as t
use Rattle.prog_text.specs.Grammar.{Many, Separated, IsTable, IsName, IsParams, some, IsProgram, program, IsSet, set}
use Rattle.prog_text.specs.Grammar as g
use Rattle.prog_text.specs.Reading.{◌>>=◌, after_sign, expect, end_at, name_at, many_from, block_at, body_at, arity_at, table_at, tables_at, names_at, params_at, program_at, programs_at, set_at}
use Rattle.prog_text.proofs.Only.{Reads, then_reads, regrouped, IsReadBehind, many_only, separated_only}
use Rattle.prog_text.proofs.OnlyStatements.{block_only}

-- ---- tables and programs

-- what follows doesn't matter
abbrev Always : List Token → Type 0
Always rest = Unit {0}

table_only : (ts : List Token) (d : TableDecl) → IsTable ts d → IsReadBehind (t.Sign sign.Table) Always table_at ts d
unfolding table_at arity_at
table_only _ _ (g.IsTable.plain x _ _ g.IsArity.one) = record { others = t.Name x ∷ t.Number 1 ∷ t.Sign sign.Semicolon ∷ []; parts = refl; reads = λ rest u. refl }
table_only _ _ (g.IsTable.plain x _ _ g.IsArity.two) = record { others = t.Name x ∷ t.Number 2 ∷ t.Sign sign.Semicolon ∷ []; parts = refl; reads = λ rest u. refl }
table_only _ _ (g.grows x _ _ g.IsArity.one) = record { others = t.Name x ∷ t.Number 1 ∷ t.Sign sign.Grow ∷ t.Sign sign.Semicolon ∷ []; parts = refl; reads = λ rest u. refl }
table_only _ _ (g.grows x _ _ g.IsArity.two) = record { others = t.Name x ∷ t.Number 2 ∷ t.Sign sign.Grow ∷ t.Sign sign.Semicolon ∷ []; parts = refl; reads = λ rest u. refl }

name_only : (ts : List Token) (x : Name) → IsName ts x → (rest : List Token) → Always rest → Reads (x, rest) (name_at (ts ++ rest))
name_only _ _ (g.IsName.name x) rest u = refl

names_only : (ts : List Token) (xs : List Name) → Separated (t.Sign sign.Comma) IsName ts xs → (rest : List Token) → after_sign sign.Comma rest ≡ None → Reads (xs, rest) (names_at (ts ++ rest))
names_only ts xs d rest last = separated_only IsName (t.Sign sign.Comma) Always (after_sign sign.Comma) name_at (λ ts. refl) (λ ts. tt) name_only ts xs d rest tt last

-- names begin with no closing bracket
no_bracket : (ts : List Token) (xs : List Name) → Separated (t.Sign sign.Comma) IsName ts xs → (rest : List Token) → after_sign sign.Close (ts ++ rest) ≡ None
no_bracket _ _ (g.separated _ us _ xs (g.IsName.name x) m) rest = refl

params_only : (ps : List Token) (xs : List Name) → IsParams ps xs → (rest : List Token) → Reads (xs, rest) (params_at (ps ++ t.Sign sign.Close ∷ rest))
unfolding params_at
params_only _ _ g.IsParams.none rest = refl
params_only _ _ (some ts xs d) rest =
    let first : after_sign sign.Close (ts ++ t.Sign sign.Close ∷ rest) ≡ None = no_bracket ts xs d (t.Sign sign.Close ∷ rest) in
    rw first (then_reads (xs, t.Sign sign.Close ∷ rest) (xs, rest) (names_at (ts ++ t.Sign sign.Close ∷ rest)) (λ names. expect sign.Close names.1 >>= λ closed. Ok (names.0, closed.1)) (names_only ts xs d (t.Sign sign.Close ∷ rest) refl) refl)

program_only : (ts : List Token) (p : ProgramTree) → IsProgram ts p → IsReadBehind (t.Sign sign.Program) Always program_at ts p
unfolding program_at
program_only _ _ (program x ps ts params body d e) = record {
  others = t.Name x ∷ t.Sign sign.Open ∷ (ps ++ t.Sign sign.Close ∷ ts);
  parts = refl;
  reads = λ rest u.
      let p : ProgramTree = record { name = x; params = params; body = body } in
      then_reads (params, ts ++ rest) (p, rest) (params_at ((ps ++ t.Sign sign.Close ∷ ts) ++ rest)) (λ params. block_at body_at params.1 >>= λ body. Ok (record { name = x; params = params.0; body = body.0 }, body.1))
      (regrouped (params, ts ++ rest) params_at ps (t.Sign sign.Close ∷ ts) rest (params_only ps params d (ts ++ rest)))
      (then_reads (body, rest) (p, rest) (block_at body_at (ts ++ rest)) (λ body. Ok (record { name = x; params = params; body = body.0 }, body.1)) (block_only ts body e rest) refl);
}

-- ---- sets

-- no table begins a list of programs
no_table : (ts : List Token) (programs : List ProgramTree) → Many IsProgram ts programs → after_sign sign.Table ts ≡ None
no_table _ _ g.Many.none = refl
no_table _ _ (g.Many.more _ us _ _ (program x ps ts params body d e) m) = refl

-- what is a set is read as one
pub set_only : (ts : List Token) (d : DraftTree) → IsSet ts d → Reads (d, []) (set_at ts)
unfolding set_at
set_only _ _ (set ts us tables programs d e) =
    let draft : DraftTree = record { tables = tables; programs = programs } in
    then_reads (tables, us) (draft, []) (tables_at (ts ++ us)) (λ tables. programs_at tables.1 >>= λ programs. end_at programs.1 >>= λ ended. Ok (record { tables = tables.0; programs = programs.0 }, ended.1))
    (many_only IsTable (t.Sign sign.Table) Always (after_sign sign.Table) table_at (λ ts. refl) (λ ts. tt) table_only ts tables d (length (ts ++ us)) [] us tt (no_table us programs e) (omega (arith, length-append ts us)))
    (then_reads (programs, []) (draft, []) (programs_at us) (λ programs. end_at programs.1 >>= λ ended. Ok (record { tables = tables; programs = programs.0 }, ended.1))
    (subst (λ (vs : List Token). Reads (programs, []) (many_from (after_sign sign.Program) program_at (length us) [] vs)) (append-nil us)
    (many_only IsProgram (t.Sign sign.Program) Always (after_sign sign.Program) program_at (λ ts. refl) (λ ts. tt) program_only us programs e (length us) [] [] tt refl (omega arith))) refl)
