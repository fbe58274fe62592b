-- Sound, for the readers of tables, programs and sets: what they read is spelled so, and what stands before a fault can be completed.
use Rattle.std.proofs.Common.{◌≡◌, ℕ, ◌==◌, List, [], ◌∷◌, ◌++◌, length, Bool, true, false, if◌then◌else◌, Ok, refl, ap, sym, subst, append_assoc}
use Rattle.std.proofs.lemmas.Bool.{eqb-true}
use Rattle.std.proofs.lemmas.List.{append-nil}
use Rattle.prog_tree.specs.Syntax.{Name, BlockTree, ProgramTree}
use Rattle.prog_tree.specs.declared.table.TableDecl.{TableDecl}
use Rattle.prog_tree.specs.declared.table.Arity.{Arity}
use Rattle.prog_tree.specs.declared.table.Arity.TheVariants as arity
use Rattle.prog_text.specs.declared.lexing.token.Token.{Token}
use Rattle.prog_text.specs.declared.lexing.token.Sign.TheVariants as sign
use Rattle.prog_text.specs.declared.lexing.token.Token.TheVariants as t
use Rattle.prog_text.specs.Grammar.{Many, Separated, IsBlock, IsTable, IsName, IsParams, some, IsProgram, program, IsSet, set}
use Rattle.prog_text.specs.Grammar as g
use Rattle.prog_text.specs.Reading.{◌>>=◌, unexpected, after_sign, expect, end_at, name_at, block_at, body_at, arity_at, grow_at, table_at, tables_at, names_at, params_at, program_at, programs_at, set_at}
use Rattle.prog_text.proofs.Sound.{Phrase, behind, Sound, then_sound, IsOne, one_sound, done_sound, fault_sound, sound_map, mapped_sound, behind_sign_sound, IsMore, many_sound}
use Rattle.prog_text.proofs.OneToken.{finds_sign, alone, one_sign, one_name, a_name}
use Rattle.prog_text.proofs.DerivedExprs.{many_push, separated_sound}
use Rattle.prog_text.proofs.DerivedStatements.{body_sound, block_sound}

-- ---- tables and programs

abbrev arity_token : Arity → Token
arity_token arity.One = t.Number 1
arity_token arity.Two = t.Number 2

one_arity_of : (n : ℕ) (ts : List Token) (is_one is_two : Bool) → (n == 1) ≡ is_one → (n == 2) ≡ is_two
    → IsOne arity_token (t.Number n ∷ ts) (if is_one then Ok (arity.One, ts) else if is_two then Ok (arity.Two, ts) else unexpected (t.Number n ∷ ts))
one_arity_of n ts true is_two e f = ap (λ m. t.Number m ∷ ts) (eqb-true n 1 e)
one_arity_of n ts false true e f = ap (λ m. t.Number m ∷ ts) (eqb-true n 2 f)
one_arity_of n ts false false e f = refl

one_arity : (ts : List Token) → IsOne arity_token ts (arity_at ts)
unfolding arity_at
one_arity (t.Number n ∷ ts) = one_arity_of n ts (n == 1) (n == 2) refl refl
one_arity ts = refl

-- the tokens of `grow`, or none
abbrev grow_tokens : Bool → List Token
grow_tokens true = t.Sign sign.Grow ∷ []
grow_tokens false = []

data IsGrow : List Token → Bool → Type 0 where
  grow : (grows : Bool) → IsGrow (grow_tokens grows) grows

grow_sound : (ts : List Token) → Sound IsGrow ts (grow_at ts)
grow_sound (t.Sign sign.Grow ∷ ts) = record { front = t.Sign sign.Grow ∷ []; parts = refl; phrase = grow true }
grow_sound ts = done_sound IsGrow false ts (grow false)

table_of : (x : Name) (a : Arity) (us : List Token) (grows : Bool) → IsGrow us grows → IsTable (t.Sign sign.Table ∷ t.Name x ∷ arity_token a ∷ (us ++ t.Sign sign.Semicolon ∷ [])) (record { name = x; arity = a; grow = grows })
table_of x arity.One _ _ (grow true) = g.grows x 1 arity.One g.IsArity.one
table_of x arity.One _ _ (grow false) = g.IsTable.plain x 1 arity.One g.IsArity.one
table_of x arity.Two _ _ (grow true) = g.grows x 2 arity.Two g.IsArity.two
table_of x arity.Two _ _ (grow false) = g.IsTable.plain x 2 arity.Two g.IsArity.two

pub table_sound : (ts : List Token) → Sound (behind (t.Sign sign.Table ∷ []) IsTable) ts (table_at ts)
unfolding table_at
table_sound ts =
    let E = behind (t.Sign sign.Table ∷ []) IsTable in
    one_sound E t.Name a_name ts (name_at ts) _ (one_name ts)
    (λ rest x. one_sound (behind (t.Name x ∷ []) E) arity_token arity.One rest (arity_at rest) _ (one_arity rest)
    (λ rest a. then_sound IsGrow (behind (arity_token a ∷ []) (behind (t.Name x ∷ []) E)) rest (grow_at rest) _ (grow_sound rest)
    (λ us rest grows d. one_sound (behind us (behind (arity_token a ∷ []) (behind (t.Name x ∷ []) E))) (alone (t.Sign sign.Semicolon)) tt rest (expect sign.Semicolon rest) _ (one_sign sign.Semicolon rest)
    (λ rest u. done_sound (behind (t.Sign sign.Semicolon ∷ []) (behind us (behind (arity_token a ∷ []) (behind (t.Name x ∷ []) E)))) _ rest (table_of x a us grows d)))))

pub tables_sound : (ts : List Token) → Sound (Many IsTable) ts (tables_at ts)
tables_sound ts =
    sound_map (IsMore (Many IsTable) []) (Many IsTable) ts (tables_at ts) (λ us xs goes_on. goes_on [] g.Many.none)
    (many_sound (Many IsTable) IsTable (t.Sign sign.Table) (after_sign sign.Table) table_at (many_push IsTable) (finds_sign sign.Table) table_sound (length ts) [] ts)

pub name_sound : (ts : List Token) → Sound IsName ts (name_at ts)
name_sound (t.Name x ∷ ts) = record { front = t.Name x ∷ []; parts = refl; phrase = g.IsName.name x }
name_sound ts = fault_sound IsName ts (t.Name a_name ∷ []) a_name (g.IsName.name a_name)

-- such names with commas between them
abbrev AreNames : Phrase (List Name)
AreNames = Separated (t.Sign sign.Comma) IsName

names_sound : (ts : List Token) → Sound AreNames ts (names_at ts)
names_sound = separated_sound IsName (t.Sign sign.Comma) (after_sign sign.Comma) name_at (finds_sign sign.Comma) name_sound

-- parameters and the closing bracket
pub data IsListed : List Token → List Name → Type 0 where
  listed : (ps : List Token) (xs : List Name) → IsParams ps xs → IsListed (ps ++ t.Sign sign.Close ∷ []) xs

params_sound : (ts : List Token) → Sound IsListed ts (params_at ts)
unfolding params_at
params_sound ts =
    behind_sign_sound IsListed (t.Sign sign.Close) ts (after_sign sign.Close ts) _ _ (finds_sign sign.Close ts)
    (λ us. done_sound (behind (t.Sign sign.Close ∷ []) IsListed) [] us (listed [] [] g.IsParams.none))
    (then_sound AreNames IsListed ts (names_at ts) _ (names_sound ts)
    (λ ps rest xs d. one_sound (behind ps IsListed) (alone (t.Sign sign.Close)) tt rest (expect sign.Close rest) _ (one_sign sign.Close rest)
    (λ rest u. done_sound (behind (t.Sign sign.Close ∷ []) (behind ps IsListed)) xs rest (listed ps xs (some ps xs d)))))

program_of : (x : Name) (fs us : List Token) (params : List Name) (body : BlockTree) → IsListed fs params → IsBlock us body
    → IsProgram (t.Sign sign.Program ∷ t.Name x ∷ t.Sign sign.Open ∷ (fs ++ us)) (record { name = x; params = params; body = body })
program_of x _ us _ body (listed ps params d) e =
    subst (λ (vs : List Token). IsProgram (t.Sign sign.Program ∷ t.Name x ∷ t.Sign sign.Open ∷ vs) (record { name = x; params = params; body = body })) (sym (append_assoc ps (t.Sign sign.Close ∷ []) us))
    (program x ps us params body d e)

pub program_sound : (ts : List Token) → Sound (behind (t.Sign sign.Program ∷ []) IsProgram) ts (program_at ts)
unfolding program_at
program_sound ts =
    let E = behind (t.Sign sign.Program ∷ []) IsProgram in
    one_sound E t.Name a_name ts (name_at ts) _ (one_name ts)
    (λ rest x. one_sound (behind (t.Name x ∷ []) E) (alone (t.Sign sign.Open)) tt rest (expect sign.Open rest) _ (one_sign sign.Open rest)
    (λ rest u. then_sound IsListed (behind (t.Sign sign.Open ∷ []) (behind (t.Name x ∷ []) E)) rest (params_at rest) _ (params_sound rest)
    (λ fs rest params d. mapped_sound IsBlock (behind fs (behind (t.Sign sign.Open ∷ []) (behind (t.Name x ∷ []) E))) rest (block_at body_at rest) (λ body. record { name = x; params = params; body = body })
    (λ us body e. program_of x fs us params body d e) (block_sound body_at body_sound rest))))

programs_sound : (ts : List Token) → Sound (Many IsProgram) ts (programs_at ts)
programs_sound ts =
    sound_map (IsMore (Many IsProgram) []) (Many IsProgram) ts (programs_at ts) (λ us xs goes_on. goes_on [] g.Many.none)
    (many_sound (Many IsProgram) IsProgram (t.Sign sign.Program) (after_sign sign.Program) program_at (many_push IsProgram) (finds_sign sign.Program) program_sound (length ts) [] ts)

-- ---- sets

end_sound : {A : Type 0} (E : Phrase A) (x : A) (ts : List Token) → E [] x → Sound E ts (end_at ts >>= λ ended. Ok (x, ended.1))
end_sound E x [] d = done_sound E x [] d
end_sound E x (u ∷ ts) d = fault_sound E (u ∷ ts) [] x d

set_of : (ts us : List Token) (tables : List TableDecl) (programs : List ProgramTree) → Many IsTable ts tables → Many IsProgram us programs
    → IsSet (ts ++ (us ++ [])) (record { tables = tables; programs = programs })
set_of ts us tables programs d e =
    subst (λ (vs : List Token). IsSet (ts ++ vs) (record { tables = tables; programs = programs })) (sym (append-nil us)) (set ts us tables programs d e)

-- what is read is a set; what stands before a fault begins one
pub set_sound : (ts : List Token) → Sound IsSet ts (set_at ts)
unfolding set_at
set_sound ts =
    then_sound (Many IsTable) IsSet ts (tables_at ts) _ (tables_sound ts)
    (λ fs rest tables d. then_sound (Many IsProgram) (behind fs IsSet) rest (programs_at rest) _ (programs_sound rest)
    (λ gs rest programs e. end_sound (behind gs (behind fs IsSet)) (record { tables = tables; programs = programs }) rest (set_of fs gs tables programs d e)))
