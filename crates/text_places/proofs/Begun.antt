-- What begins at a place, beside the landmarks that it may be.
use Rattle.std.proofs.Common.{◌≡◌, ◌∙◌, ◌+◌, ◌++◌, ◌&&◌, ℕ, suc, List, [], ◌∷◌, Bool, true, false, Option, None, ap, drop, length, refl, sym, if◌then◌else◌, arith}
use Rattle.std.proofs.lemmas.List.{append-nil}
use Rattle.std.proofs.Math.Bool.{and-true, and-false}
use Rattle.prog_text.specs.Words.{beginning_of}
use Rattle.prog_text.specs.declared.lexing.words.Beginning.{Beginning}
use Rattle.text_places.specs.Landmarks.{begun_at, is_landmark, is_program, is_statement, places_before, statements_ahead}
use Rattle.text_places.specs.Reading.{short_word, stands_free}
use Rattle.text_places.specs.declared.landmark.Landmark.TheVariants.{Program, Statement}
use Rattle.text_places.proofs.Finding.{one_more_ahead}

-- what nothing passes is passed by what begins here just where the word passes it and stands free
tested : (test : Option Beginning → Bool) → test None ≡ false → (free : Bool) (begun : Option Beginning)
    → test (if free then begun else None) ≡ (test begun && free)
tested test none true begun = sym (and-true (test begun))
tested test none false begun = none ∙ sym (and-false (test begun))

is-program : (text : List ℕ) (place : ℕ) → is_program (begun_at text place) ≡ is_landmark Program text place
is-program text place = tested is_program refl (stands_free text place) (beginning_of (short_word (drop place text)))

is-statement : (text : List ℕ) (place : ℕ) → is_statement (begun_at text place) ≡ is_landmark Statement text place
is-statement text place = tested is_statement refl (stands_free text place) (beginning_of (short_word (drop place text)))

pushed : (belongs : Bool) (numbers : List ℕ) (number : ℕ)
    → (if belongs then numbers ++ number ∷ [] else numbers) ≡ numbers ++ (if belongs then number ∷ [] else [])
pushed true numbers number = refl
pushed false numbers number = sym (append-nil numbers)

-- the statements behind a further place, of which is known what begins there
pub next-statements : (text : List ℕ) (place : ℕ) (begun : Option Beginning) (so_far next : List ℕ) → begun ≡ begun_at text place
    → so_far ≡ places_before Statement text place
    → next ≡ (if is_statement begun then so_far ++ place ∷ [] else so_far)
    → next ≡ places_before Statement text (place + 1)
next-statements text place begun so_far next is known comes =
    let behind : place + 1 ≡ suc place = omega arith in
    let found : is_statement begun ≡ is_landmark Statement text place = ap is_statement is ∙ is-statement text place in
    rw behind (comes ∙ pushed (is_statement begun) so_far place
    ∙ ap (λ numbers. numbers ++ (if is_statement begun then place ∷ [] else [])) known
    ∙ ap (λ belongs. places_before Statement text place ++ (if belongs then place ∷ [] else [])) found)

-- and the counts of the statements ahead of the programs
pub next-ahead : (text : List ℕ) (place : ℕ) (begun : Option Beginning) (statements so_far next : List ℕ) → begun ≡ begun_at text place
    → statements ≡ places_before Statement text place
    → so_far ≡ statements_ahead text place
    → next ≡ (if is_program begun then so_far ++ length statements ∷ [] else so_far)
    → next ≡ statements_ahead text (place + 1)
next-ahead text place begun statements so_far next is places known comes =
    let behind : place + 1 ≡ suc place = omega arith in
    let count : ℕ = length statements in
    let found : is_program begun ≡ is_landmark Program text place = ap is_program is ∙ is-program text place in
    rw behind (comes ∙ pushed (is_program begun) so_far count
    ∙ ap (λ numbers. numbers ++ (if is_program begun then count ∷ [] else [])) known
    ∙ ap (λ belongs. statements_ahead text place ++ (if belongs then count ∷ [] else [])) found
    ∙ one_more_ahead text place count (ap length places))
