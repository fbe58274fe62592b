-- Questions and places of lists, one element or one part at a time.
use Rattle.std.proofs.Common.{◌≡◌, ℕ, ◌<◌, ◌≤◌, ◌+◌, Bool, true, false, List, [], ◌∷◌, ◌++◌, length, get_or, drop, refl, sym, subst, ap, ◌∙◌, arith, append_assoc, suc}
use Rattle.std.specs.Prelude.{Some, slice_get, All, if◌then◌else◌}
use Rattle.std.proofs.lemmas.Bool.{false≢true}
use Rattle.std.proofs.lemmas.List.{drop_more, drop_all, append-nil}
use Rattle.std.proofs.lemmas.List.Elements.{All-nil, All-cons, All-append}
use Rattle.prog_check.specs.declared.path.Access.{Access}
use Rattle.prog_check.specs.declared.path.Path.{Path}
use Rattle.prog_paths.specs.declared.accesses.places.Placed.{Placed}
use Rattle.prog_paths.specs.declared.accesses.questions.Question.{Question}
use Rattle.prog_paths.specs.Questions.{asks, question_between, asked_by, asked_among}
use Rattle.prog_paths.specs.Places.{IsAt, placed_from, all_from, accesses_by, program_from}

-- ---- lists of places

abbrev pub placed : ℕ → ℕ → Access → Placed
placed node number access = record { node = node; number = number; access = access }

pub placed-more : (old new whole : List Placed) (node n : ℕ) (xs : List Access) (d : Access) → n < length xs → new ≡ old ++ placed node n (get_or xs n d) ∷ [] → old ++ placed_from node n (drop n xs) ≡ whole → new ++ placed_from node (n + 1) (drop (n + 1) xs) ≡ whole
placed-more old new whole node n xs d lt e h =
    ap (λ (l : List Placed). l ++ placed_from node (n + 1) (drop (n + 1) xs)) e
    ∙ append_assoc old (placed node n (get_or xs n d) ∷ []) (placed_from node (n + 1) (drop (n + 1) xs))
    ∙ ap (λ (l : List Access). old ++ placed_from node n l) (sym (drop_more xs n d lt))
    ∙ h

pub placed-end : (old whole : List Placed) (node n : ℕ) (xs : List Access) → length xs ≤ n → old ++ placed_from node n (drop n xs) ≡ whole → old ≡ whole
placed-end old whole node n xs le h = sym (append-nil old) ∙ ap (λ (l : List Access). old ++ placed_from node n l) (sym (drop_all n xs le)) ∙ h

pub all-more : (old new whole : List Placed) (n : ℕ) (paths : List Path) (path : Path) → n < length paths → path ≡ get_or paths n path → new ≡ old ++ placed_from n 0 path.accesses → old ++ all_from n (drop n paths) ≡ whole → new ++ all_from (n + 1) (drop (n + 1) paths) ≡ whole
all-more old new whole n paths path lt is e h =
    ap (λ (l : List Placed). l ++ all_from (n + 1) (drop (n + 1) paths)) e
    ∙ append_assoc old (placed_from n 0 path.accesses) (all_from (n + 1) (drop (n + 1) paths))
    ∙ ap (λ (l : List Path). old ++ all_from n l) (sym (drop_more paths n path lt ∙ ap (λ (p : Path). p ∷ drop (n + 1) paths) (sym is)))
    ∙ h

pub all-end : (old whole : List Placed) (n : ℕ) (paths : List Path) → length paths ≤ n → old ++ all_from n (drop n paths) ≡ whole → old ≡ whole
all-end old whole n paths le h = sym (append-nil old) ∙ ap (λ (l : List Path). old ++ all_from n l) (sym (drop_all n paths le)) ∙ h

pub program-more : (program : ℕ) (old new whole : List Placed) (n : ℕ) (paths : List Path) (path : Path) → n < length paths → path ≡ get_or paths n path → new ≡ old ++ placed_from n 0 (accesses_by program path) → old ++ program_from program n (drop n paths) ≡ whole → new ++ program_from program (n + 1) (drop (n + 1) paths) ≡ whole
program-more program old new whole n paths path lt is e h =
    ap (λ (l : List Placed). l ++ program_from program (n + 1) (drop (n + 1) paths)) e
    ∙ append_assoc old (placed_from n 0 (accesses_by program path)) (program_from program (n + 1) (drop (n + 1) paths))
    ∙ ap (λ (l : List Path). old ++ program_from program n l) (sym (drop_more paths n path lt ∙ ap (λ (p : Path). p ∷ drop (n + 1) paths) (sym is)))
    ∙ h

pub program-end : (program : ℕ) (old whole : List Placed) (n : ℕ) (paths : List Path) → length paths ≤ n → old ++ program_from program n (drop n paths) ≡ whole → old ≡ whole
program-end program old whole n paths le h = sym (append-nil old) ∙ ap (λ (l : List Path). old ++ program_from program n l) (sym (drop_all n paths le)) ∙ h

-- ---- each stands at its place

abbrev Continues : {A : Type 0} → List A → ℕ → List A → Type 0
Continues {A = A} whole n rest = (i : ℕ) (x : A) → slice_get rest i ≡ Some x → slice_get whole (n + i) ≡ Some x

continues-next : {A : Type 0} (whole : List A) (n : ℕ) (x : A) (rest : List A) → Continues whole n (x ∷ rest) → Continues whole (n + 1) rest
continues-next {A = A} whole n x rest h i y at =
    let e : n + 1 + i ≡ n + suc i = omega arith in
    subst (λ (k : ℕ). slice_get whole k ≡ Some y) (sym e) (h (suc i) y at)

continues-here : {A : Type 0} (whole : List A) (n : ℕ) (x : A) (rest : List A) → Continues whole n (x ∷ rest) → slice_get whole n ≡ Some x
continues-here whole n x rest h =
    let e : n + 0 ≡ n = omega arith in
    subst (λ (k : ℕ). slice_get whole k ≡ Some x) e (h 0 x refl)

continues-own : {A : Type 0} (whole : List A) → Continues whole 0 whole
continues-own whole i x at = let e : 0 + i ≡ i = omega arith in subst (λ (k : ℕ). slice_get whole k ≡ Some x) (sym e) at

node_at : (paths : List Path) (node n : ℕ) (path : Path) (xs : List Access) → slice_get paths node ≡ Some path → Continues path.accesses n xs → All (λ p. IsAt paths p) (placed_from node n xs)
node_at paths node n path [] at h = All-nil (λ p. IsAt paths p)
node_at paths node n path (x ∷ xs) at h =
    All-cons (λ p. IsAt paths p) (placed node n x) (placed_from node (n + 1) xs) (path, at, continues-here path.accesses n x xs h)
    (node_at paths node (n + 1) path xs at (continues-next path.accesses n x xs h))

all_at : (paths : List Path) (n : ℕ) (rest : List Path) → Continues paths n rest → All (λ p. IsAt paths p) (all_from n rest)
all_at paths n [] h = All-nil (λ p. IsAt paths p)
all_at paths n (path ∷ rest) h =
    All-append (λ p. IsAt paths p) (placed_from n 0 path.accesses) (all_from (n + 1) rest)
    (node_at paths n 0 path path.accesses (continues-here paths n path rest h) (continues-own path.accesses))
    (all_at paths (n + 1) rest (continues-next paths n path rest h))

pub all_places_stand : (paths : List Path) → All (λ p. IsAt paths p) (all_from 0 paths)
all_places_stand paths = all_at paths 0 paths (continues-own paths)

-- ---- what is asked of a list, one more or one part more

pub if_yes : (b : Bool) (q : Question) (l : List Question) → b ≡ true → (if b then q ∷ l else l) ≡ q ∷ l
if_yes true q l e = refl
if_yes false q l e = absurd (false≢true e)

pub if_no : (b : Bool) (q : Question) (l : List Question) → b ≡ false → (if b then q ∷ l else l) ≡ l
if_no true q l e = absurd (false≢true (sym e))
if_no false q l e = refl

pub if_append : (b : Bool) (q : Question) (l r : List Question) → (if b then q ∷ l else l) ++ r ≡ (if b then q ∷ (l ++ r) else l ++ r)
if_append true q l r = refl
if_append false q l r = refl

pub asked_by-append : (first : Placed) (xs ys : List Placed) → asked_by first (xs ++ ys) ≡ asked_by first xs ++ asked_by first ys
asked_by-append first [] ys = refl
asked_by-append first (x ∷ xs) ys =
    ap (λ (l : List Question). if asks first x then question_between first x ∷ l else l) (asked_by-append first xs ys)
    ∙ sym (if_append (asks first x) (question_between first x) (asked_by first xs) (asked_by first ys))

pub asked_among-append : (xs ys seconds : List Placed) → asked_among (xs ++ ys) seconds ≡ asked_among xs seconds ++ asked_among ys seconds
asked_among-append [] ys seconds = refl
asked_among-append (x ∷ xs) ys seconds = ap (λ (l : List Question). asked_by x seconds ++ l) (asked_among-append xs ys seconds) ∙ sym (append_assoc (asked_by x seconds) (asked_among xs seconds) (asked_among ys seconds))
