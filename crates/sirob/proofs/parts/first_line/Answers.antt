use Rattle.std.proofs.Common.{◌≡◌, ◌<◌, ◌+◌, ◌∙◌, ℕ, List, [], ◌∷◌, length, take, drop, suc, ap, arith}
use Rattle.std.proofs.lemmas.Grind.{common_steps}
use Rattle.sirob.specs.Parts.{full_lines_of}
use Rattle.sirob.proofs.PartLemmas.{line_to_feed, line_to_end}
use Rattle.sirob.proofs.parts.first_line.Goals as goal

-- the line's own length in place of the place of its line feed
by_length : (bs : List ℕ) (n : ℕ) → n < length bs → full_lines_of bs ≡ take (suc n) bs ∷ full_lines_of (drop (suc n) bs)
    → full_lines_of bs ≡ take (n + 1) bs ∷ full_lines_of (drop (length (take (n + 1) bs)) bs)
by_length bs n lt h =
    let next : suc n ≡ n + 1 = omega arith in
    let long : n + 1 ≡ length (take (n + 1) bs) = grind (arith, common_steps) in
    h ∙ (λ i. take (next i) bs ∷ full_lines_of (drop (next i) bs)) ∙ ap (λ (k : ℕ). take (n + 1) bs ∷ full_lines_of (drop k bs)) long

pub returns-in-Some-clause-first : goal.returns-in-Some-clause-first
returns-in-Some-clause-first c =
    let h = c.in-Some.ensures in
    by_length c.args.bytes.now c.in-Some.at h.within (line_to_feed c.args.bytes.now c.in-Some.at h.within h.before h.found)

pub returns-in-None-clause-first : goal.returns-in-None-clause-first
returns-in-None-clause-first c =
    let bs = c.args.bytes.now in
    let none : [] ≡ drop (length bs) bs = grind (arith, common_steps) in
    line_to_end bs c.requires c.in-None.ensures.none ∙ ap (λ (l : List ℕ). bs ∷ full_lines_of l) none
