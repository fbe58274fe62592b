-- Laws of lists that begin with another one.
use Rattle.std.proofs.Common.{◌≡◌, List, ◌∷◌, [], ◌++◌, ap, sym, ◌∙◌, append_assoc, take, drop, length}
use Rattle.std.proofs.Math.Seq.{take-append_seam, take-length}
use Rattle.std.proofs.lemmas.List.{take-append-drop}
use Rattle.prog_run.specs.Cursor.{BeginsWith}

-- a list begins with itself
pub begins_same : {A : Type 0} {xs ys : List A} → ys ≡ xs → BeginsWith xs ys
begins_same {xs = xs} same = ap (take (length xs)) same ∙ take-length xs

-- with one more item it begins as before
pub begins_one : {A : Type 0} {ys : List A} (xs : List A) (x : A) → ys ≡ xs ++ x ∷ [] → BeginsWith xs ys
begins_one xs x is = ap (take (length xs)) is ∙ take-append_seam xs (x ∷ [])

-- what a list begins with is the front of it, and the rest comes behind
split : {A : Type 0} (xs ys : List A) → BeginsWith xs ys → ys ≡ xs ++ drop (length xs) ys
split xs ys front = sym (take-append-drop (length xs) ys) ∙ ap (λ l. l ++ drop (length xs) ys) front

-- a list begins with what its front begins with
pub begins_on : {A : Type 0} {xs ys : List A} (zs : List A) → BeginsWith xs ys → BeginsWith ys zs → BeginsWith xs zs
begins_on {xs = xs} {ys = ys} zs first second =
    let more = drop (length xs) ys in
    let last = drop (length ys) zs in
    ap (take (length xs)) (split ys zs second ∙ ap (λ l. l ++ last) (split xs ys first) ∙ append_assoc xs more last)
    ∙ take-append_seam xs (more ++ last)
