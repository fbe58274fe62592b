use Rattle.std.proofs.Common.{string_bytes, subst}
use Rattle.std.proofs.lemmas.List.Elements.{All-head, All-tail}
use Rattle.std.specs.Prelude.{All}
use Rattle.robust_cert.specs.Sharing.{HasReason}
use Rattle.robust_cert.proofs.Pieces.{first_given, others_given}
use Rattle.robust_cert.proofs.text.writing.push_first_entry.Goals as goal

pub bounds-reasons-number : goal.bounds-reasons-number
bounds-reasons-number c =
    All-head (HasReason c.args.reasons.now) c.in-Some.first.now c.in-Some.others.now (subst (All (HasReason c.args.reasons.now)) c.in-Some.ensures.cases.0 c.requires)

pub returns-clause-text : goal.returns-clause-text
returns-clause-text c =
    let rs = c.args.reasons.now in
    let within = All-head (HasReason rs) c.in-Some.first.now c.in-Some.others.now (subst (All (HasReason rs)) c.in-Some.ensures.cases.0 c.requires) in
    first_given rs c.args.told.now c.in-Some.first.now c.in-Some.others.now c.in-Some.ensures.cases.0 c.index-reasons-number.result (string_bytes c.args.text.now) _ _ within
    c.index-reasons-number.is c.in_ok-push_str.ensures.bytes c.in_ok-push_entry.ensures.text

pub returns-clause-others : goal.returns-clause-others
returns-clause-others c = others_given c.args.reasons.now c.args.told.now c.in-Some.first.now c.in-Some.others.now c.in-Some.ensures.cases.0

pub returns-clause-within : goal.returns-clause-within
returns-clause-within c =
    All-tail (HasReason c.args.reasons.now) c.in-Some.first.now c.in-Some.others.now (subst (All (HasReason c.args.reasons.now)) c.in-Some.ensures.cases.0 c.requires)
