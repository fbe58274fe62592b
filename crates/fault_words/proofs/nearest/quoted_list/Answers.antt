use Rattle.std.proofs.Common.{◌∙◌, Bor, List, ℕ}
use Rattle.text_places.specs.Listing.{with_listed}
use Rattle.fault_words.proofs.Nearer.{listed_more}
use Rattle.fault_words.proofs.nearest.quoted_list.Goals as goal

pub loop-name-preserved : goal.loop-name-preserved
loop-name-preserved c =
    let told = c.deref.ensures ∙ c.in_ok-name.ensures in
    c.in_ok-push_listed.ensures
    ∙ (λ i. with_listed (c.loop-name.invariant i) (told i))
    ∙ listed_more (λ (name : Bor (List ℕ)). name.now) c.args.names.now c.loop-name.name-index _ c.loop-name-test.true
