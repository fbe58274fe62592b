use Rattle.std.proofs.Common.{◌<◌, ◌≤◌, ℕ, ap, option_map, subst, sym}
use Rattle.std.proofs.lemmas.Option.{slice_get_past}
use Rattle.robust_cert.specs.Sharing.{Entry}
use Rattle.analysis_words.proofs.AskedEntry.{asked_within}
use Rattle.analysis_words.proofs.certificate_faults.asked_in.Goals as goal

pub returns-then-entry-len : goal.returns-then-entry-len
returns-then-entry-len c =
    let entry = c.args.entry in
    asked_within c.args.certificate.now.entries entry c.question.result (subst (λ (n : ℕ). entry < n) c.len.ensures c.if-entry-len.true) c.question.ensures

pub returns-else-entry-len : goal.returns-else-entry-len
returns-else-entry-len c =
    let entry = c.args.entry in
    sym (ap (option_map (λ (e : Entry). e.question)) (slice_get_past c.args.certificate.now.entries entry (subst (λ (n : ℕ). n ≤ entry) c.len.ensures c.if-entry-len.false)))
