-- The questions of a list, one more at a time.
use Rattle.std.proofs.Common.{◌≡◌, ℕ, ◌<◌, ◌+◌, List, [], ◌∷◌, ◌++◌, length, get_or, take, sym, ap, ◌∙◌, append_assoc}
use Rattle.std.proofs.lemmas.List.{take_more, append-nil}
use Rattle.prog_paths.specs.declared.accesses.places.Placed.{Placed}
use Rattle.prog_paths.specs.declared.accesses.questions.Question.{Question}
use Rattle.prog_paths.specs.Questions.{asked_by, asked_among}
use Rattle.prog_paths.specs.Tally.{of_table}
use Rattle.prog_paths.specs.Changers.{changers_of}
use Rattle.prog_paths.proofs.Changing.{seconds_ask}
use Rattle.prog_paths.proofs.Questions.{asked_by-append, asked_among-append}

-- ---- what is made of the rest of a list

-- where nothing is left all is made
pub nothing-left : {A B : Type 0} (made : List A → List B) (old whole : List B) (left : List A) → made [] ≡ [] → left ≡ [] → old ++ made left ≡ whole → old ≡ whole
nothing-left made old whole left none gone h = sym (append-nil old) ∙ ap (λ l. old ++ l) (sym none ∙ ap made (sym gone)) ∙ h

-- ---- questions, one more at a time

-- what one access asks of those so far and of one more
pub asked-take : (first : Placed) (qs : List Question) (i : ℕ) (xs : List Placed) (d : Placed) → i < length xs → qs ++ asked_by first (take (i + 1) xs) ≡ (qs ++ asked_by first (take i xs)) ++ asked_by first (get_or xs i d ∷ [])
asked-take first qs i xs d lt =
    ap (λ (l : List Placed). qs ++ asked_by first l) (take_more xs i d lt)
    ∙ ap (λ (l : List Question). qs ++ l) (asked_by-append first (take i xs) (get_or xs i d ∷ []))
    ∙ sym (append_assoc qs (asked_by first (take i xs)) (asked_by first (get_or xs i d ∷ [])))

-- what the accesses so far ask, with one more, of which only the changers of its table are asked
pub among-take : (n : ℕ) (firsts xs seconds changers : List Placed) (d : Placed) → n < length firsts → seconds ≡ of_table (get_or firsts n d).access.table changers → ((table : ℕ) → of_table table changers ≡ changers_of table xs)
    → asked_among (take n firsts) xs ++ asked_by (get_or firsts n d) seconds ≡ asked_among (take (n + 1) firsts) xs
among-take n firsts xs seconds changers d lt table all =
    let first = get_or firsts n d in
    ap (λ (l : List Question). asked_among (take n firsts) xs ++ l) (seconds_ask first xs changers seconds table all ∙ sym (append-nil (asked_by first xs)))
    ∙ sym (asked_among-append (take n firsts) (first ∷ []) xs)
    ∙ ap (λ (l : List Placed). asked_among l xs) (sym (take_more firsts n d lt))
