-- Which answer a text has: what reading its tokens says of them.
use Rattle.std.proofs.Common.{◌≡◌, ℕ, zero, suc, ◌+◌, ◌-◌, ◌<◌, ◌≤◌, List, [], ◌∷◌, ◌++◌, length, length-append, Bool, true, false, if◌then◌else◌, Option, Some, None, Result, Ok, Err, refl, ap, sym, ◌∙◌, subst, append_assoc, arith}
use Rattle.std.specs.Prelude.{option_map, MatchResult, IfOk, IfErr}
use Rattle.std.proofs.lemmas.List.{append-nil}
use Rattle.prog_tree.specs.Syntax.{DraftTree}
use Rattle.prog_text.specs.declared.fault.TextFault.{TextFault}
use Rattle.prog_text.specs.declared.fault.TextFault.TheVariants as f
use Rattle.prog_text.specs.declared.lexing.lex_error.Flaw.{Flaw}
use Rattle.prog_text.specs.declared.lexing.token.Token.{Token}
use Rattle.prog_text.specs.Answer.{HasTokens, IsShallow, Accepts, IsMisfit, IsUnfinished, IsFlawed, Refuses}
use Rattle.prog_text.specs.Grammar.{IsSet, BeginsSet}
use Rattle.prog_text.specs.Lexing.{Placed, kinds}
use Rattle.prog_text.specs.Limits.{brackets_after, operators_after, too_deep_from, too_deep}
use Rattle.prog_text.specs.Reading.{Unexpected, Reading, ◌>>=◌, tables_at, programs_at, end_at, set_at}
use Rattle.prog_text.proofs.Converse.{tokens_exactly}
use Rattle.prog_text.proofs.Flaws.{flaws_exactly}
use Rattle.prog_text.proofs.Alike.{Alike, both_read, both_stop, past, IsPast, same}
use Rattle.prog_text.proofs.Local.{set_alike}
use Rattle.prog_text.proofs.Only.{Reads}
use Rattle.prog_text.proofs.OnlySets.{set_only}
use Rattle.prog_text.proofs.Sound.{Sound, Found, Viable}
use Rattle.prog_text.proofs.Derived.{set_sound}

-- ---- a set is read to the last token

abbrev LeavesNone : {A : Type 0} → Reading A → Type 0
LeavesNone (Ok x) = x.1 ≡ []
LeavesNone (Err e) = Unit {0}

then_none : {A B : Type 0} (r : Reading A) (f : A × List Token → Reading B) → ((x : A × List Token) → LeavesNone (f x)) → LeavesNone (r >>= f)
then_none (Ok x) f h = h x
then_none (Err e) f h = tt

end_none : (d : DraftTree) (ts : List Token) → LeavesNone (end_at ts >>= λ ended. Ok (d, ended.1))
end_none d [] = refl
end_none d (u ∷ ts) = tt

set_none : (ts : List Token) → LeavesNone (set_at ts)
unfolding set_at
set_none ts =
    then_none (tables_at ts) _ (λ tables. then_none (programs_at tables.1) _ (λ programs. end_none (record { tables = tables.0; programs = programs.0 }) programs.1))

found_whole : (ts : List Token) (d : DraftTree) (rest : List Token) → Found IsSet ts d rest → rest ≡ [] → IsSet ts d
found_whole ts d rest h e = subst (λ (us : List Token). IsSet us d) (sym (h.parts ∙ ap (λ us. h.front ++ us) e ∙ append-nil h.front)) h.phrase

-- what is read is a set
pub set_found : (ts rest : List Token) (d : DraftTree) → set_at ts ≡ Ok (d, rest) → IsSet ts d
set_found ts rest d e = found_whole ts d rest (subst (Sound IsSet ts) e (set_sound ts)) (subst LeavesNone e (set_none ts))

-- ---- no set goes on from a fault

stopped : {A : Type 0} (r s : Reading A) (shared : Token) (rest other : List Token) (y : A × List Token) → Alike shared rest other r s → r ≡ Err (Unexpected (suc (length rest))) → Reads y s → ⊥
stopped r s shared rest other y (both_read x a b v p q) e h = absurd (cc (sym p ∙ e))
stopped r s shared rest other y (both_stop a b v p q) e h = subst (Reads y) q h
stopped r s shared rest other y (past h) e k = let g : suc (length rest) ≤ length rest = subst (IsPast shared rest other) e h in absurd (omega (arith, g))

set_dead : (front rest : List Token) (shared : Token) → set_at (front ++ shared ∷ rest) ≡ Err (Unexpected (suc (length rest))) → BeginsSet (front ++ shared ∷ []) → ⊥
set_dead front rest shared stop begins =
    stopped (set_at (front ++ shared ∷ rest)) (set_at ((front ++ shared ∷ []) ++ begins.0)) shared rest begins.0 (begins.1, [])
    (set_alike shared rest begins.0 (front ++ shared ∷ rest) ((front ++ shared ∷ []) ++ begins.0) (same (record { front = front; first = refl; second = append_assoc front (shared ∷ []) begins.0 })))
    stop (set_only ((front ++ shared ∷ []) ++ begins.0) begins.1 begins.2)

misfit_at : (ts front rest more : List Token) (d : DraftTree) (left : ℕ) → ts ≡ front ++ rest → length rest ≡ suc left → IsSet (front ++ more) d → set_at ts ≡ Err (Unexpected (suc left)) → IsMisfit ts (length ts - suc left)
misfit_at ts front [] more d left e len begins stop = absurd (omega (arith, len))
misfit_at ts front (u ∷ rest) more d left e len begins stop = record {
  front = front;
  token = u;
  rest = rest;
  parts = e;
  index = omega (arith, ap length e, length-append front (u ∷ rest), len);
  begins = (more, d, begins);
  ends = set_dead front rest u (ap set_at (sym e) ∙ stop ∙ ap (λ n. Err (Unexpected n)) (sym len));
}

-- where reading stops at a token, that is the first with which no set begins
pub set_misfit : (ts : List Token) (left : ℕ) → (left ≡ 0 → ⊥) → set_at ts ≡ Err (Unexpected left) → IsMisfit ts (length ts - left)
set_misfit ts zero some e = absurd (some refl)
set_misfit ts (suc left) some e =
    let v : Viable IsSet ts (suc left) = subst (Sound IsSet ts) e (set_sound ts) in
    misfit_at ts v.front v.rest v.more v.value left v.parts v.place v.phrase e

begins_at : (ts front rest more : List Token) (d : DraftTree) → ts ≡ front ++ rest → length rest ≡ 0 → IsSet (front ++ more) d → BeginsSet ts
begins_at ts front [] more d e len begins = (more, d, subst (λ (us : List Token). IsSet (us ++ more) d) (sym (e ∙ append-nil front)) begins)
begins_at ts front (u ∷ rest) more d e len begins = absurd (omega (arith, len))

-- where reading stops at the end, the tokens begin a set and are none
pub set_unfinished : (ts : List Token) → set_at ts ≡ Err (Unexpected 0) → IsUnfinished ts
set_unfinished ts e =
    let v : Viable IsSet ts 0 = subst (Sound IsSet ts) e (set_sound ts) in
    record { begins = begins_at ts v.front v.rest v.more v.value v.parts v.place v.phrase; is_none = λ d s. subst (Reads (d, [])) e (set_only ts d s) }

-- ---- each text has one answer

set_once_of : (r : Reading DraftTree) (d e : DraftTree) → Reads (d, []) r → Reads (e, []) r → d ≡ e
set_once_of (Ok x) d e h k = ap (λ (y : DraftTree × List Token). y.0) (sym h ∙ k)
set_once_of (Err (Unexpected left)) d e h k = absurd h

set_once : (ts : List Token) (d e : DraftTree) → IsSet ts d → IsSet ts e → d ≡ e
set_once ts d e h k = set_once_of (set_at ts) d e (set_only ts d h) (set_only ts e k)

-- the tokens of a text are its only ones
cut_once : (bytes : List ℕ) (p q : Placed) → HasTokens bytes p → HasTokens bytes q → q ≡ p
cut_once bytes p q h k = let g : Ok q ≡ Ok p = sym ((tokens_exactly bytes q).1 k.cut) ∙ (tokens_exactly bytes p).1 h.cut in cc

pub accepted_once : (bytes : List ℕ) (d e : DraftTree) → Accepts bytes d → Accepts bytes e → d ≡ e
accepted_once bytes d e h k =
    set_once (kinds h.placed) d e h.spelled (subst (λ (p : Placed). IsSet (kinds p) e) (cut_once bytes h.placed k.placed h.shallow.tokens k.shallow.tokens) k.spelled)

flaw_excluded : (bytes : List ℕ) (flaw : Flaw) (place : ℕ) (d : DraftTree) → IsFlawed bytes flaw place → Accepts bytes d → ⊥
flaw_excluded bytes flaw place d h k =
    let first = h.1 in
    let left : length bytes ≡ place + length first.rest = omega (arith, ap length first.parts, length-append first.front first.rest, first.at_place) in
    absurd (cc (sym ((flaws_exactly bytes flaw (length first.rest)).1 (place, first, left)) ∙ (tokens_exactly bytes k.placed).1 k.shallow.tokens.cut))

misfit_excluded : (ts : List Token) (n : ℕ) (d : DraftTree) → IsMisfit ts n → IsSet ts d → ⊥
misfit_excluded ts n d h k = h.ends (h.rest, d, subst (λ (us : List Token). IsSet us d) (h.parts ∙ sym (append_assoc h.front (h.token ∷ []) h.rest)) k)

-- no refusal but want of memory applies to a text that is accepted
pub refusal_excluded : (bytes : List ℕ) (fault : TextFault) (d : DraftTree) → Refuses bytes fault → Accepts bytes d → fault ≡ f.Memory
refusal_excluded bytes (f.TooLong place) d h k = absurd (omega (arith, h.0, k.shallow.tokens.short))
refusal_excluded bytes (f.NotAscii place) d h k = absurd (flaw_excluded bytes _ place d h k)
refusal_excluded bytes (f.UnknownByte place) d h k = absurd (flaw_excluded bytes _ place d h k)
refusal_excluded bytes (f.NumberOutOfRange place) d h k = absurd (flaw_excluded bytes _ place d h k)
refusal_excluded bytes (f.NameTooLong place) d h k = absurd (flaw_excluded bytes _ place d h k)
refusal_excluded bytes (f.TooDeep place) d h k =
    let e : too_deep (kinds k.placed) ≡ Some h.1 = subst (λ (p : Placed). too_deep (kinds p) ≡ Some h.1) (cut_once bytes k.placed h.0 k.shallow.tokens h.2) h.3 in
    absurd (cc (sym e ∙ k.shallow.shallow))
refusal_excluded bytes (f.UnexpectedToken place) d h k =
    absurd (misfit_excluded (kinds h.0) h.1 d h.3 (subst (λ (p : Placed). IsSet (kinds p) d) (cut_once bytes h.0 k.placed h.2.tokens k.shallow.tokens) k.spelled))
refusal_excluded bytes (f.UnexpectedEnd place) d h k =
    absurd (h.2.is_none d (subst (λ (p : Placed). IsSet (kinds p) d) (cut_once bytes h.0 k.placed h.1.tokens k.shallow.tokens) k.spelled))
refusal_excluded bytes f.Memory d h k = refl

-- what answers a text gives its draft, unless memory runs out
pub only_draft : {X : Type 0} (bytes : List ℕ) (view : X → DraftTree) (r : Result X TextFault) → IfOk r (λ x. Accepts bytes (view x)) → IfErr r (Refuses bytes)
    → (d : DraftTree) → Accepts bytes d → MatchResult r (λ x. view x ≡ d) (λ fault. fault ≡ f.Memory)
only_draft bytes view (Ok x) found refused d h = accepted_once bytes (view x) d found h
only_draft bytes view (Err fault) found refused d h = refusal_excluded bytes fault d refused h

pub accepted_if : {X : Type 0} (bytes : List ℕ) (placed : Placed) (view : X → DraftTree) (r : Result X TextFault) → IsShallow bytes placed → IfOk r (λ x. IsSet (kinds placed) (view x)) → IfOk r (λ x. Accepts bytes (view x))
accepted_if bytes placed view (Ok x) shallow found = record { placed = placed; shallow = shallow; spelled = found }
accepted_if bytes placed view (Err fault) shallow found = tt

-- ---- a token that is named is there

-- where reading stops at a token, that is one of them
pub stop_within : (ts : List Token) (left : ℕ) → set_at ts ≡ Err (Unexpected left) → left ≤ length ts
stop_within ts left e =
    let v : Viable IsSet ts left = subst (Sound IsSet ts) e (set_sound ts) in
    omega (arith, ap length v.parts, length-append v.front v.rest, v.place)

within_of : (deep : Bool) (rest : Option ℕ) (len n : ℕ) → (if deep then Some 0 else option_map suc rest) ≡ Some n → ((m : ℕ) → rest ≡ Some m → m < len) → n < suc len
within_of true rest len n e h = let is : 0 ≡ n = cc in omega (arith, is)
within_of false None len n e h = absurd (cc e)
within_of false (Some m) len n e h = let is : suc m ≡ n = cc in omega (arith, is, h m refl)

deep_within : (brackets operators : ℕ) (ts : List Token) (n : ℕ) → too_deep_from brackets operators ts ≡ Some n → n < length ts
deep_within brackets operators [] n e = absurd (cc e)
deep_within brackets operators (u ∷ ts) n e = within_of _ _ (length ts) n e (deep_within (brackets_after u brackets) (operators_after u operators) ts)

pub kinds_length : (placed : Placed) → length (kinds placed) ≡ length placed
kinds_length [] = refl
kinds_length (p ∷ placed) = ap suc (kinds_length placed)

pub too_deep_within : (placed : Placed) (n : ℕ) → too_deep (kinds placed) ≡ Some n → n < length placed
too_deep_within placed n e = omega (arith, kinds_length placed, deep_within 0 0 (kinds placed) n e)
