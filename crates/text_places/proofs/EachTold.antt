-- What is told of each item of a list, with one item more.
use Rattle.std.proofs.Common.{ℕ, ◌+◌, ◌<◌, get_or, length, take, List, [], ◌∷◌, ◌++◌, refl, sym, ap, ◌∙◌, append_assoc}
use Rattle.std.proofs.lemmas.List.{append-nil, take_more}
use Rattle.text_places.specs.Listing.{TellsEach}

TellsEach-append : {A : Type 0} (tells : A → List ℕ → Type 0) (items : List A) (item : A) (lines line : List ℕ)
    → TellsEach tells items lines → tells item line → TellsEach tells (items ++ item ∷ []) (lines ++ line)
TellsEach-append tells [] item lines line none told =
    (line, [], told, refl, ap (λ front. front ++ line) none ∙ sym (append-nil line))
TellsEach-append tells (first ∷ items) item lines line has told = (
  has.0,
  has.1 ++ line,
  has.2,
  TellsEach-append tells items item has.1 line has.3 told,
  ap (λ front. front ++ line) has.4 ∙ append_assoc has.0 has.1 line,
)

-- and where the item is the next one of a list
pub TellsEach-more : {A : Type 0} (tells : A → List ℕ → Type 0) (items : List A) (i : ℕ) (d : A) (lines line : List ℕ)
    → i < length items → TellsEach tells (take i items) lines → tells (get_or items i d) line
    → TellsEach tells (take (i + 1) items) (lines ++ line)
TellsEach-more tells items i d lines line within before told =
    rw (take_more items i d within) (TellsEach-append tells (take i items) (get_or items i d) lines line before told)
