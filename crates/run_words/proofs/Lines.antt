-- One line of a cycle more.
use Rattle.std.proofs.Common.{◌≡◌, ◌<◌, ◌≤◌, ◌+◌, ℕ, List, ◌++◌, drop, get_or, length, sym, ap, ◌∙◌, append_assoc}
use Rattle.std.proofs.lemmas.List.{append-nil, drop_all, drop_more}
use Rattle.history_book.specs.View.{BookView}
use Rattle.run_words.specs.Cycles.{first_or, line_text, lines_text}

pub line_more : (book : BookView) (cycle : List ℕ) (index d end : ℕ) (whole old new line : List ℕ) → index < length cycle
    → line ≡ line_text book (get_or cycle index d) (first_or (drop (index + 1) cycle) end) → new ≡ old ++ line
    → old ++ lines_text book (drop index cycle) end ≡ whole → new ++ lines_text book (drop (index + 1) cycle) end ≡ whole
line_more book cycle index d end whole old new line within told is before =
    let rest = lines_text book (drop (index + 1) cycle) end in
    ap (λ l. l ++ rest) is ∙ append_assoc old line rest ∙ ap (λ l. old ++ (l ++ rest)) told
    ∙ ap (λ l. old ++ lines_text book l end) (sym (drop_more cycle index d within)) ∙ before

pub lines_at_end : (book : BookView) (cycle : List ℕ) (index end : ℕ) (whole text : List ℕ) → length cycle ≤ index
    → text ++ lines_text book (drop index cycle) end ≡ whole → text ≡ whole
lines_at_end book cycle index end whole text past is =
    sym (append-nil text) ∙ ap (λ l. text ++ lines_text book l end) (sym (drop_all index cycle past)) ∙ is
