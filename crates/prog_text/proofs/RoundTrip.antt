-- The canonical text of a draft that some text has is a text of that draft.
use Rattle.std.proofs.Common.{◌≡◌, ◌∙◌, ℕ, ◌≤◌, List, [], ◌++◌, length, Option, None, refl, sym, ap, subst}
use Rattle.std.proofs.lemmas.List.{append-nil}
use Rattle.prog_tree.specs.Syntax.{DraftTree}
use Rattle.prog_text.specs.declared.lexing.token.Token.{Token}
use Rattle.prog_text.specs.declared.lexing.token.Token.TheVariants as t
use Rattle.prog_text.specs.Answer.{Accepts}
use Rattle.prog_text.specs.Canonical.{words_of, draft_marks, canonical}
use Rattle.prog_text.specs.Cut.{IsName, Spells, IsWithinLimit, IsPiece, space, comment, token, IsCut, end, another}
use Rattle.prog_text.specs.Grammar.{IsSet}
use Rattle.prog_text.specs.Lexing.{Placed, kinds, before}
use Rattle.prog_text.specs.Limits.{text_limit, too_deep}
use Rattle.prog_text.proofs.Breaks.{IsLexed}
use Rattle.prog_text.proofs.CutMarks.{IsCutInto, Closed}
use Rattle.prog_text.proofs.CutPhrases.{AreLexed, draft_closed}
use Rattle.prog_text.proofs.Lighter.{lighter_shallow}
use Rattle.prog_text.proofs.PhrasesAgain.{Again, set_again}

lexed_token : (u : Token) (word : List ℕ) → Spells u word → IsWithinLimit u → IsLexed u
lexed_token (t.Name x) word spells within = (subst IsName spells.0 spells.1, within)
lexed_token (t.Number n) word spells within = within
lexed_token u word spells within = tt

lexed_piece : (found : Option Token) (word rest : List ℕ) (left : ℕ) (placed : Placed) → IsPiece found word rest → AreLexed (kinds placed) → AreLexed (kinds (before found left placed))
lexed_piece _ _ _ left placed (space b rest h) others = others
lexed_piece _ _ _ left placed (comment line rest all ends) others = others
lexed_piece _ _ _ left placed (token u word rest spells within longest) others = (lexed_token u word spells within, others)

lexed : (bytes : List ℕ) (placed : Placed) → IsCut bytes placed → AreLexed (kinds placed)
lexed _ _ end = tt
lexed _ _ (another found word rest placed h cut) = lexed_piece found word rest (length (word ++ rest)) placed h (lexed rest placed cut)

nothing_cut : IsCutInto [] []
nothing_cut = record { placed = []; cut = end; same = refl }

canonical_cut : (d : DraftTree) → Closed (draft_marks d) → IsCutInto (canonical d) (words_of (draft_marks d))
canonical_cut d closed =
    subst (λ (bytes : List ℕ). IsCutInto bytes (words_of (draft_marks d))) (append-nil (canonical d))
    (subst (λ (ts : List Token). IsCutInto (canonical d ++ []) ts) (append-nil (words_of (draft_marks d))) (closed.cuts [] [] tt nothing_cut))

accepted : (d : DraftTree) → length (canonical d) ≤ text_limit → IsCutInto (canonical d) (words_of (draft_marks d)) → too_deep (words_of (draft_marks d)) ≡ None → IsSet (words_of (draft_marks d)) d → Accepts (canonical d) d
accepted d short into shallow spelled = record {
  placed = into.placed;
  shallow = record { tokens = record { short = short; cut = into.cut }; shallow = ap too_deep into.same ∙ shallow };
  spelled = subst (λ (ts : List Token). IsSet ts d) (sym into.same) spelled;
}

-- what is printed of a draft that was read is read as that draft again
pub read_again : (bytes : List ℕ) (d : DraftTree) → Accepts bytes d → length (canonical d) ≤ text_limit → Accepts (canonical d) d
read_again bytes d h short =
    let found : List Token = kinds h.placed in
    let again : Again IsSet (words_of (draft_marks d)) found d = set_again found d h.spelled in
    let closed : Closed (draft_marks d) = draft_closed found d h.spelled (lexed bytes h.placed h.shallow.tokens.cut) in
    accepted d short (canonical_cut d closed) (lighter_shallow _ found again.lighter h.shallow.shallow) again.spelled
