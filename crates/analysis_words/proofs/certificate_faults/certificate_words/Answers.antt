use Rattle.std.proofs.Common.{◌∙◌, string_bytes, subst}
use Rattle.analysis_words.specs.Nodes.{Sight}
use Rattle.analysis_words.specs.Saying.{IsOfFault}
use Rattle.analysis_words.proofs.certificate_faults.certificate_words.Goals as goal

pub returns-clause-said : goal.returns-clause-said
returns-clause-said c =
    let certificate = c.in-Some.certificate in (
      certificate,
      rw c.in-Some.is at c.in_ok-certificate.ensures.found,
      subst (λ (s : Sight). IsOfFault s certificate c.args.fault (string_bytes c.in_ok-words.words)) (c.shown-shown.ensures ∙ c.in_ok-whole.ensures)
          c.in_ok-words.ensures,
    )
