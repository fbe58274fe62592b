-- Words and parameters with their numbers, one after another.
use Rattle.std.proofs.Common.{◌≡◌, ℕ, Bool, ◌+◌, ◌<◌, ◌≤◌, ◌∙◌, List, [], ◌∷◌, ◌++◌, ap, sym, drop, fold, length, get_or, append_assoc, map, take}
use Rattle.std.proofs.lemmas.List.{append-nil, drop_more, drop_all, map_push, take_more}
use Rattle.std.proofs.lemmas.List.Sums.{fold-append}
use Rattle.order_facts.specs.declared.sample.Choice.{Choice}
use Rattle.prog_tree.specs.Syntax.{Name}
use Rattle.text_places.specs.Listing.{listed, with_listed}
use Rattle.analysis_words.specs.Instances.{given_text, given_from}

-- a list with one word more
pub listed_more : {X : Type 0} (word : X → List ℕ) (items : List X) (i : ℕ) (d : X) → i < length items
    → with_listed (listed (map word (take i items))) (word (get_or items i d)) ≡ listed (map word (take (i + 1) items))
listed_more word items i d within =
    let before = take i items in
    let item = get_or items i d in
    sym (ap (λ l. listed (map word l)) (take_more items i d within)
    ∙ ap (fold with_listed []) (map_push word before item)
    ∙ fold-append with_listed [] (map word before) (word item ∷ []))

-- the text so far and what comes behind it are the whole
pub one_more : (sample : List Choice) (is_first : Bool) (params : List Name) (number : ℕ) (d : Name) (whole text new : List ℕ)
    → number < length params → new ≡ text ++ given_text sample is_first number (get_or params number d)
    → text ++ given_from sample is_first number (drop number params) ≡ whole
    → new ++ given_from sample is_first (number + 1) (drop (number + 1) params) ≡ whole
one_more sample is_first params number d whole text new within is before =
    ap (λ l. l ++ given_from sample is_first (number + 1) (drop (number + 1) params)) is
    ∙ append_assoc text (given_text sample is_first number (get_or params number d)) (given_from sample is_first (number + 1) (drop (number + 1) params))
    ∙ ap (λ l. text ++ given_from sample is_first number l) (sym (drop_more params number d within)) ∙ before

-- at the end the text so far is the whole
pub whole_at_end : (sample : List Choice) (is_first : Bool) (params : List Name) (number : ℕ) (whole text : List ℕ)
    → length params ≤ number → text ++ given_from sample is_first number (drop number params) ≡ whole → text ≡ whole
whole_at_end sample is_first params number whole text past is =
    sym (append-nil text) ∙ ap (λ l. text ++ given_from sample is_first number l) (sym (drop_all number params past)) ∙ is
