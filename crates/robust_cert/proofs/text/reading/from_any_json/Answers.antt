use Rattle.serde_json.specs.View.{view}
use Rattle.robust_cert.proofs.Outcomes.{all_taken}
use Rattle.robust_cert.proofs.text.reading.from_any_json.Goals as goal

pub returns-clause-taken : goal.returns-clause-taken
returns-clause-taken c = all_taken c.args.bytes.now (view c.in_ok-value.value) c.certificate_in.result c.in_ok-value.ensures.ok c.certificate_in.ensures.ok c.certificate_in.ensures.fault
