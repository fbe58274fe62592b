-- Laws on lines that are added to a text.
use Rattle.std.proofs.Common.{◌≡◌, List, [], ◌∷◌, ◌++◌, ℕ, refl, sym, ap, ◌∙◌, append_assoc, append-nil}
use Rattle.std.specs.List.{concat}
use Rattle.std.proofs.lemmas.List.Folds.{concat-append}
use Rattle.si_engine.specs.Runs.{AddsLines, AddsFirst}

-- lines, and then more of them
pub adds_both : (a b : List (List ℕ)) (s t u : List ℕ) → AddsLines a s t → AddsLines b t u → AddsLines (a ++ b) s u
adds_both a b s t u first second =
    second ∙ (ap (λ text. text ++ concat b) first ∙ (append_assoc s (concat a) (concat b) ∙ ap (λ text. s ++ text) (sym (concat-append a b))))

-- one line more
pub adds_line : (a : List (List ℕ)) (line s t u : List ℕ) → AddsLines a s t → u ≡ t ++ line → AddsLines (a ++ line ∷ []) s u
adds_line a line s t u first second = adds_both a (line ∷ []) s t u first (second ∙ ap (λ text. t ++ text) (sym (append-nil line)))

-- none of them are some first ones
pub adds_none : (lines : List (List ℕ)) (s : List ℕ) → AddsFirst lines s s
adds_none lines s = ([], lines, refl, sym (append-nil s))

-- all of them are some first ones
pub adds_all : (lines : List (List ℕ)) (s t u : List ℕ) → AddsLines lines s t → u ≡ t → AddsFirst lines s u
adds_all lines s t u added same = (lines, [], sym (append-nil lines), same ∙ added)

pub adds_first_of : (a b : List (List ℕ)) (s t : List ℕ) → AddsFirst a s t → AddsFirst (a ++ b) s t
adds_first_of a b s t (done, rest, is, added) = (done, rest ++ b, ap (λ x. x ++ b) is ∙ append_assoc done rest b, added)

pub adds_behind : (a b : List (List ℕ)) (s t u : List ℕ) → AddsLines a s t → AddsFirst b t u → AddsFirst (a ++ b) s u
adds_behind a b s t u first (done, rest, is, added) =
    (a ++ done, rest, ap (λ x. a ++ x) is ∙ sym (append_assoc a done rest), adds_both a done s t u first added)

-- the same lines behind more text
pub adds_after : (lines : List (List ℕ)) (front s t : List ℕ) → AddsLines lines s t → AddsLines lines (front ++ s) (front ++ t)
adds_after lines front s t added = ap (λ text. front ++ text) added ∙ sym (append_assoc front s (concat lines))

pub first_after_more : (lines : List (List ℕ)) (front s t : List ℕ) → AddsFirst lines s t → AddsFirst lines (front ++ s) (front ++ t)
first_after_more lines front s t (done, rest, is, added) = (done, rest, is, adds_after done front s t added)
