-- A way along nodes, told node by node.
use Rattle.std.proofs.Common.{◌≡◌, ℕ, ◌+◌, ◌<◌, ◌≤◌, ◌∙◌, List, ◌++◌, ap, sym, drop, length, get_or, append_assoc}
use Rattle.std.proofs.lemmas.List.{append-nil, drop_more, drop_all}
use Rattle.analysis_words.specs.Nodes.{Sight}
use Rattle.analysis_words.specs.Refusing.{step_text, way_text}

-- the text so far and what comes behind it are the whole
pub one_further : (sight : Sight) (last : ℕ) (nodes : List ℕ) (number d : ℕ) (whole text new : List ℕ)
    → number < length nodes → new ≡ text ++ step_text sight last (get_or nodes number d)
    → text ++ way_text sight last (drop number nodes) ≡ whole
    → new ++ way_text sight (get_or nodes number d) (drop (number + 1) nodes) ≡ whole
one_further sight last nodes number d whole text new within is before =
    let rest = way_text sight (get_or nodes number d) (drop (number + 1) nodes) in
    ap (λ l. l ++ rest) is ∙ append_assoc text (step_text sight last (get_or nodes number d)) rest
    ∙ ap (λ l. text ++ way_text sight last l) (sym (drop_more nodes number d within)) ∙ before

-- at the end the text so far is the whole
pub way_at_end : (sight : Sight) (last : ℕ) (nodes : List ℕ) (number : ℕ) (whole text : List ℕ)
    → length nodes ≤ number → text ++ way_text sight last (drop number nodes) ≡ whole → text ≡ whole
way_at_end sight last nodes number whole text past is =
    sym (append-nil text) ∙ ap (λ l. text ++ way_text sight last l) (sym (drop_all number nodes past)) ∙ is
