-- Words of pairs with those of one pair more behind them.
use Rattle.std.proofs.Common.{◌≡◌, ℕ, ◌+◌, ◌<◌, ◌∙◌, List, ◌++◌, ap, append_assoc, get_or, length, take}
use Rattle.prog_tree.specs.Syntax.{DraftTree}
use Rattle.repair_laws.specs.declared.plan.Pair.{Pair}
use Rattle.text_places.specs.Listing.{TellsEach}
use Rattle.text_places.proofs.EachTold.{TellsEach-more}
use Rattle.analysis_words.specs.Repairs.{TellsPair}

-- the words of so many pairs behind a heading, with those of the next
pub tells_more : (set : DraftTree) (pairs : List Pair) (n : ℕ) (d : Pair) (heading parts old new said : List ℕ) → n < length pairs
    → old ≡ heading ++ parts → new ≡ old ++ said → TellsEach (TellsPair set) (take n pairs) parts → TellsPair set (get_or pairs n d) said
    → (more : List ℕ) × TellsEach (TellsPair set) (take (n + 1) pairs) more × (new ≡ heading ++ more)
tells_more set pairs n d heading parts old new said within was is before tells = (
  parts ++ said,
  TellsEach-more (TellsPair set) pairs n d parts said within before tells,
  is ∙ ap (λ l. l ++ said) was ∙ append_assoc heading parts said,
)
