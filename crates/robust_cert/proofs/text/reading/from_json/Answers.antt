use Rattle.robust_cert.proofs.Outcomes.{only_taken, not_refused}
use Rattle.robust_cert.proofs.text.reading.from_json.Goals as goal

pub returns-in-Ok-clause-taken : goal.returns-in-Ok-clause-taken
returns-in-Ok-clause-taken c = only_taken c.args.bytes.now c.in-Ok.certificate c.in-Ok.ensures

pub returns-in-Ok-clause-refused : goal.returns-in-Ok-clause-refused
returns-in-Ok-clause-refused c = not_refused c.args.bytes.now c.in-Ok.certificate c.in-Ok.ensures
