use Rattle.std.proofs.Common.{rules}
use Rattle.text_places.proofs.Fronts.{other_front}
use Rattle.text_places.proofs.landmark.begins_with.Goals as goal

pub returns-in-len1-up-len1-up : goal.returns-in-len1-up-len1-up
returns-in-len1-up-len1-up c = other_front c.args.bytes.now c.args.word.now (search rules) c.if-byte-first.true
