use Rattle.std.proofs.Common.{◌≡◌, ◌∙◌, ap, get_or, pos, rules, w64, FitsSigned}
use Rattle.std.specs.Prelude.{slice_get}
use Rattle.std.proofs.lemmas.Int.{to_z-of_z}
use Rattle.text_places.specs.Listing.{with_listed}
use Rattle.run_words.specs.JobSentences.{argument_at, argument_text}
use Rattle.run_words.proofs.LostLines.{arguments_to-more}
use Rattle.run_words.proofs.job_reasons.arguments_text.Goals as goal

pub loop-index-preserved : goal.loop-index-preserved
loop-index-preserved c =
    let params = c.args.params.now in
    let args = c.args.args.now in
    let index = c.loop-index.index in
    let number = get_or args index (pos 0) in
    let fits : FitsSigned w64 number = search rules in
    let told : c.deref.result.now ≡ argument_at params args index =
    c.deref.ensures ∙ c.in_ok-argument.ensures ∙ ap (argument_text (slice_get params index)) (to_z-of_z w64 number fits) in
    c.in_ok-push_listed.ensures
    ∙ (λ i. with_listed (c.loop-index.invariant i) (told i))
    ∙ arguments_to-more params args index
