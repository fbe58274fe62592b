use Rattle.std.proofs.Common.{◌≡◌, string_bytes}
use Rattle.run_words.specs.JobSentences.{arguments_to}
use Rattle.run_words.proofs.job_reasons.arguments_text.Given as goal

-- the arguments so far
abbrev pub invariant-loop-index : goal.invariant-loop-index
invariant-loop-index l = string_bytes l.text ≡ arguments_to l.params l.args l.index
